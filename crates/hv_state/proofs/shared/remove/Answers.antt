use Rattle.std.proofs.Common.{subst, Ok, Err}
use Rattle.hv_state.specs.inside.Rows.{shared_numbers, rows_shared, IsPlace}
use Rattle.hv_state.proofs.RowLemmas.{remove_ascends, remove_without, gap_without}
use Rattle.hv_state.proofs.shared.remove.Goals as goal

pub returns-in-Ok-clause-ascend : goal.returns-in-Ok-clause-ascend
returns-in-Ok-clause-ascend c =
    let row = c.args.row.now in
    let found = subst (λ vs. IsPlace (rows_shared vs) row (Ok c.in-Ok.place)) c.deref.ensures.value c.in-Ok.ensures in
    remove_ascends shared_numbers c.args.rows.now.items c.remove.new.self.items c.in-Ok.place row c.requires found.0 found.1 c.remove.ensures.items

pub returns-in-Ok-clause-exact : goal.returns-in-Ok-clause-exact
returns-in-Ok-clause-exact c =
    let row = c.args.row.now in
    let found = subst (λ vs. IsPlace (rows_shared vs) row (Ok c.in-Ok.place)) c.deref.ensures.value c.in-Ok.ensures in
    remove_without shared_numbers c.args.rows.now.items c.remove.new.self.items c.in-Ok.place row c.requires found.0 found.1 c.remove.ensures.items

pub returns-in_default-clause-exact : goal.returns-in_default-clause-exact
returns-in_default-clause-exact c =
    let row = c.args.row.now in
    gap_without (rows_shared c.args.rows.now.items) c.in_default.field-0 row (subst (λ vs. IsPlace (rows_shared vs) row (Err c.in_default.field-0)) c.deref.ensures.value c.in_default.ensures)
