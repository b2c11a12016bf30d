use Rattle.std.proofs.Common.{◌≡◌, ℕ, ◌<◌, Some, length, slice_get}
use Rattle.std.specs.Prelude.{slice_index}
use Rattle.hv_plan.specs.BuiltTrees.{tree_view}
use Rattle.hv_order.proofs.entries.places.Given as goal

abbrev pub invariant-loop-place : goal.invariant-loop-place
invariant-loop-place l =
    (length l.places.items ≡ length (tree_view l.tree).nodes)
    × ((k v : ℕ) → k < l.place → slice_get (tree_view l.tree).order k ≡ Some v → slice_index l.places.items v ≡ k)
