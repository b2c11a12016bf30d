use Rattle.std.proofs.Common.{◌↔◌, List, ℕ, subst, arith, ◌∙◌}
use Rattle.std.specs.List.{Contains}
use Rattle.hv_state.specs.inside.Rows.{rows_in, rows_shared, IsWithout}
use Rattle.hv_state.proofs.RowLemmas.{rows_left, no_rows_left, take_out_more, taken_out}
use Rattle.hv_state.proofs.shared.remove_all.Goals as goal

pub loop-row-preserved : goal.loop-row-preserved
loop-row-preserved c =
    let now = rows_shared c.loop-row.rows.items in
    let Q = λ (r : List ℕ). Contains (rows_shared c.args.rows.now.items) r × (Contains (rows_in c.args.gone.now) r → ⊥) in
    let without = subst (λ r. IsWithout now r (rows_shared c.remove.new.rows.items)) c.row.ensures c.remove.ensures.exact in
    let before = subst (λ left. (r : List ℕ) → (Contains now r × (Contains left r → ⊥)) ↔ Q r) (rows_left c.args.gone.now c.loop-row.row-index c.row-item.result c.loop-row-test.true c.row-item.is) c.loop-row.invariant.3 in (
      c.remove.ensures.ascend,
      omega (arith, c.remove.ensures.fewer, c.loop-row.invariant.1),
      c.remove.ensures.capacity ∙ c.loop-row.invariant.2,
      take_out_more now (rows_shared c.remove.new.rows.items) _ _ Q without before,
    )

pub returns-clause-exact : goal.returns-clause-exact
returns-clause-exact c =
    let Q = λ (r : List ℕ). Contains (rows_shared c.args.rows.now.items) r × (Contains (rows_in c.args.gone.now) r → ⊥) in
    taken_out (rows_shared c.loop-row.rows.items) _ Q (no_rows_left c.args.gone.now c.loop-row.row-index c.loop-row-test.false) c.loop-row.invariant.3
