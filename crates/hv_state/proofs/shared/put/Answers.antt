use Rattle.std.proofs.Common.{subst, Err}
use Rattle.hv_state.specs.inside.Rows.{shared_numbers, rows_shared, IsPlace}
use Rattle.hv_state.proofs.RowLemmas.{insert_ascends, insert_with, put_there}
use Rattle.hv_state.proofs.shared.put.Goals as goal

pub returns-in-Err-clause-ascend : goal.returns-in-Err-clause-ascend
returns-in-Err-clause-ascend c =
    let at = c.in-Err.place in
    let row = c.row.ensures in
    let gap = subst (λ r. IsPlace (rows_shared c.args.rows.now.items) r (Err at)) row (subst (λ vs. IsPlace (rows_shared vs) c.row.result.now (Err at)) c.deref.ensures.value c.in-Err.ensures) in
    insert_ascends shared_numbers c.args.rows.now.items c.insert-put.new.self.items at c.args.row gap (put_there _ _ _ _ (c.insert-put.ensures.succeeds c.requires.room) c.insert-put.ensures.items) c.requires.ascend

pub returns-in-Err-clause-exact : goal.returns-in-Err-clause-exact
returns-in-Err-clause-exact c =
    let at = c.in-Err.place in
    let row = c.row.ensures in
    let gap = subst (λ r. IsPlace (rows_shared c.args.rows.now.items) r (Err at)) row (subst (λ vs. IsPlace (rows_shared vs) c.row.result.now (Err at)) c.deref.ensures.value c.in-Err.ensures) in
    insert_with shared_numbers c.args.rows.now.items c.insert-put.new.self.items at c.args.row gap (put_there _ _ _ _ (c.insert-put.ensures.succeeds c.requires.room) c.insert-put.ensures.items)
