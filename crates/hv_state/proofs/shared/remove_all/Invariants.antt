use Rattle.std.proofs.Common.{◌≡◌, ◌≤◌, ◌↔◌, List, ℕ, drop}
use Rattle.std.specs.Vec.{vec_len, vec_capacity}
use Rattle.std.specs.List.{Contains}
use Rattle.hv_state.specs.inside.Rows.{rows_in, rows_shared, Ascend}
use Rattle.hv_state.proofs.shared.remove_all.Given as goal

-- what is left to take out
abbrev pub invariant-loop-row : goal.invariant-loop-row
invariant-loop-row l =
    Ascend (rows_shared l.rows.items) × (vec_len l.rows ≤ vec_len l.initial.rows) × (vec_capacity l.rows ≡ vec_capacity l.initial.rows)
    × ((r : List ℕ) → (Contains (rows_shared l.rows.items) r × (Contains (rows_in (drop l.row-index l.gone)) r → ⊥)) ↔ (Contains (rows_shared l.initial.rows.items) r × (Contains (rows_in l.gone) r → ⊥)))
