use Rattle.std.proofs.Common.{◌≡◌, ◌↔◌, List, ℕ, length, drop}
use Rattle.std.specs.List.{Contains}
use Rattle.hv_state.specs.inside.Rows.{rows_in}
use Rattle.hv_state.specs.inside.Bits.{Lit}
use Rattle.hv_state.proofs.lit.clear_all.Given as goal

-- what is left to clear
abbrev pub invariant-loop-row : goal.invariant-loop-row
invariant-loop-row l =
    (length l.words.items ≡ length l.initial.words.items)
    × ((r : List ℕ) → (Lit (rows_in l.rows, l.words.items) r × (Contains (rows_in (drop l.row-index l.gone)) r → ⊥)) ↔ (Lit (rows_in l.rows, l.initial.words.items) r × (Contains (rows_in l.gone) r → ⊥)))
