use Rattle.std.proofs.Common.{◌≡◌, ◌↔◌, ◌⊎◌, List, ℕ, length, drop}
use Rattle.std.specs.List.{Contains}
use Rattle.hv_state.specs.inside.Rows.{rows_in}
use Rattle.hv_state.specs.inside.Bits.{Lit, Knows}
use Rattle.hv_state.proofs.lit.set_all.Given as goal

-- what is left to set
abbrev pub invariant-loop-row : goal.invariant-loop-row
invariant-loop-row l =
    (length l.words.items ≡ length l.initial.words.items) × Knows (rows_in l.rows) (rows_in (drop l.row-index l.more))
    × ((r : List ℕ) → (Lit (rows_in l.rows, l.words.items) r ⊎ Contains (rows_in (drop l.row-index l.more)) r) ↔ (Lit (rows_in l.rows, l.initial.words.items) r ⊎ Contains (rows_in l.more) r))
