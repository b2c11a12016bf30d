use Rattle.std.proofs.Common.{◌≡◌, ℕ, ◌<◌, Some, slice_get}
use Rattle.hv_plan.specs.BuiltTrees.{tree_view}
use Rattle.hv_order.specs.inside.Writings.{HasOne}
use Rattle.hv_order.proofs.first.first_without.Given as goal

abbrev pub invariant-loop-place : goal.invariant-loop-place
invariant-loop-place l =
    (i u : ℕ) → i < l.place → slice_get (tree_view l.tree).order i ≡ Some u → HasOne l.matcher (tree_view l.tree) u
