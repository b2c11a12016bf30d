use Rattle.std.proofs.Common.{◌≡◌, subst, ap, ◌∙◌}
use Rattle.hv_lists.proofs.Options.{on_err}
use Rattle.hv_state.specs.inside.Rows.{rows_in, rows_shared, IsWithoutAll}
use Rattle.hv_state.proofs.StateLemmas.{same_if, applied}
use Rattle.hv_state.proofs.sorted.SortedStateState.apply.Goals as goal

pub returns-in_err-reserve-clause-err : goal.returns-in_err-reserve-clause-err
returns-in_err-reserve-clause-err c = on_err _ _ (same_if (rows_shared c.reserve.new.self.items) c.args.self.now (ap rows_shared c.reserve.ensures.items ∙ c.self.view_is))

pub returns-clause-ok : goal.returns-clause-ok
returns-clause-ok c =
    let deletes = c.args.deletes.now in
    let was : rows_shared c.reserve.new.self.items ≡ c.args.self.now = ap rows_shared c.reserve.ensures.items ∙ c.self.view_is in
    let there = subst (λ rows. IsWithoutAll rows (rows_in c.rows-2.result.now) (rows_shared c.remove_all.new.rows.items)) was c.remove_all.ensures.exact in
    let without = subst (λ gone. IsWithoutAll c.args.self.now gone (rows_shared c.remove_all.new.rows.items)) c.rows-2.ensures there in
    applied c.args.self.now _ _ (rows_shared c.put_all.new.rows.items) deletes c.args.adds.now without (c.in_ok-new.ensures ∙ c.rows.ensures) c.put_all.ensures.exact
