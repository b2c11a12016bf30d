use Rattle.std.proofs.Common.{◌↔◌, List, ℕ, drop, ◌+◌, subst, ◌∙◌}
use Rattle.std.specs.List.{Contains}
use Rattle.hv_state.specs.inside.Rows.{rows_in}
use Rattle.hv_state.specs.inside.Bits.{Lit, IsDark}
use Rattle.hv_state.proofs.RowLemmas.{rows_left, no_rows_left}
use Rattle.hv_state.proofs.BitLemmas.{cleared_more, all_cleared}
use Rattle.hv_state.proofs.lit.clear_all.Goals as goal

pub loop-row-preserved : goal.loop-row-preserved
loop-row-preserved c =
    let rows = rows_in c.args.rows.now in
    let now = Lit (rows, c.loop-row.words.items) in
    let Q = λ (r : List ℕ). Lit (rows, c.args.words.now.items) r × (Contains (rows_in c.args.gone.now) r → ⊥) in
    let row = c.row-item.result.numbers.items in
    let rest = rows_in (drop (c.loop-row.row-index + 1) c.args.gone.now) in
    let left = rows_left c.args.gone.now c.loop-row.row-index c.row-item.result c.loop-row-test.true c.row-item.is in
    let one = subst (λ r. IsDark rows c.loop-row.words.items r c.clear.new.words.items) c.row.ensures c.clear.ensures.dark in
    let before = subst (λ xs. (r : List ℕ) → (now r × (Contains xs r → ⊥)) ↔ Q r) left c.loop-row.invariant.1 in (
      c.clear.ensures.len ∙ c.loop-row.invariant.0,
      cleared_more now (Lit (rows, c.clear.new.words.items)) row rest Q one before,
    )

pub returns-clause-dark : goal.returns-clause-dark
returns-clause-dark c =
    let rows = rows_in c.args.rows.now in
    let Q = λ (r : List ℕ). Lit (rows, c.args.words.now.items) r × (Contains (rows_in c.args.gone.now) r → ⊥) in
    all_cleared (Lit (rows, c.loop-row.words.items)) _ (no_rows_left c.args.gone.now c.loop-row.row-index c.loop-row-test.false) Q c.loop-row.invariant.1
