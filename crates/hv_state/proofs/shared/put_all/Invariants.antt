use Rattle.std.proofs.Common.{◌+◌, ◌≤◌, ◌↔◌, ◌⊎◌, List, ℕ}
use Rattle.std.specs.Vec.{vec_len, vec_capacity}
use Rattle.std.specs.List.{Contains}
use Rattle.hv_state.specs.inside.Rows.{rows_shared, Ascend}
use Rattle.hv_state.proofs.shared.put_all.Given as goal

-- what is left to put in
abbrev pub invariant-puts : goal.invariant-puts
invariant-puts l =
    Ascend (rows_shared l.rows.items) × (vec_len l.rows + vec_len l.new ≤ vec_capacity l.rows)
    × ((r : List ℕ) → (Contains (rows_shared l.rows.items) r ⊎ Contains (rows_shared l.new.items) r) ↔ (Contains (rows_shared l.initial.rows.items) r ⊎ Contains (rows_shared l.initial.new.items) r))

abbrev pub decreases-puts : goal.decreases-puts
decreases-puts l = vec_len l.new
