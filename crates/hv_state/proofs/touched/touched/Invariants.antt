use Rattle.std.proofs.Common.{◌↔◌, ◌⊎◌, List, ℕ, drop}
use Rattle.std.specs.List.{Contains}
use Rattle.hv_world.specs.Bindings.{ground_actions_view}
use Rattle.hv_world.specs.WorldViews.{world_view}
use Rattle.hv_state.specs.inside.Rows.{IsRowOf, rows_in}
use Rattle.hv_state.specs.inside.Notes.{TouchedIn, AreDone}
use Rattle.hv_state.proofs.touched.touched.Given as goal

-- the rows so far, and those of what is left; and those of each action so far
abbrev pub invariant-loop-number : goal.invariant-loop-number
invariant-loop-number l =
    ((r : List ℕ) → (Contains (rows_in l.rows.items) r ⊎ IsRowOf (TouchedIn (world_view l.world) (drop l.number (ground_actions_view l.actions))) r) ↔ IsRowOf (TouchedIn (world_view l.world) (ground_actions_view l.actions)) r)
    × AreDone (world_view l.world) (ground_actions_view l.actions) l.number (rows_in l.rows.items)
