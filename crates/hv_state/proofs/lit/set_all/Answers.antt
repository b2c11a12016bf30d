use Rattle.std.proofs.Common.{◌↔◌, ◌⊎◌, List, ℕ, drop, ◌+◌, sym, subst, ◌∙◌}
use Rattle.std.specs.List.{Contains}
use Rattle.hv_lists.proofs.Contained.{in_tail}
use Rattle.hv_state.specs.inside.Rows.{rows_in}
use Rattle.hv_state.specs.inside.Bits.{Lit, IsLit}
use Rattle.hv_state.proofs.RowLemmas.{rows_left, no_rows_left}
use Rattle.hv_state.proofs.BitLemmas.{set_more, all_set}
use Rattle.hv_state.proofs.lit.set_all.Goals as goal

pub loop-row-preserved : goal.loop-row-preserved
loop-row-preserved c =
    let rows = rows_in c.args.rows.now in
    let now = Lit (rows, c.loop-row.words.items) in
    let Q = λ (r : List ℕ). Lit (rows, c.args.words.now.items) r ⊎ Contains (rows_in c.args.more.now) r in
    let row = c.row-item.result.numbers.items in
    let rest = rows_in (drop (c.loop-row.row-index + 1) c.args.more.now) in
    let left = rows_left c.args.more.now c.loop-row.row-index c.row-item.result c.loop-row-test.true c.row-item.is in
    let one = subst (λ r. IsLit rows c.loop-row.words.items r c.set.new.words.items) c.row.ensures c.set.ensures.lit in
    let before = subst (λ xs. (r : List ℕ) → (now r ⊎ Contains xs r) ↔ Q r) left c.loop-row.invariant.2 in (
      c.set.ensures.len ∙ c.loop-row.invariant.0,
      λ r m. c.loop-row.invariant.1 r (subst (λ xs. Contains xs r) (sym left) (in_tail row rest r m)),
      set_more now (Lit (rows, c.set.new.words.items)) row rest Q one before,
    )

pub returns-clause-lit : goal.returns-clause-lit
returns-clause-lit c =
    let rows = rows_in c.args.rows.now in
    let Q = λ (r : List ℕ). Lit (rows, c.args.words.now.items) r ⊎ Contains (rows_in c.args.more.now) r in
    all_set (Lit (rows, c.loop-row.words.items)) _ (no_rows_left c.args.more.now c.loop-row.row-index c.loop-row-test.false) Q c.loop-row.invariant.2
