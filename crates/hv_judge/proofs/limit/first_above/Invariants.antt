use Rattle.std.proofs.Common.{◌≡◌, ◌<◌, ℕ, Some, slice_get}
use Rattle.hv_plan.specs.BuiltTrees.{tree_view}
use Rattle.hv_judge.specs.Causes.{IsCountWithin}
use Rattle.hv_judge.proofs.limit.first_above.Given as goal

-- no node so far has a count above the limit
abbrev pub invariant-loop-place : goal.invariant-loop-place
invariant-loop-place l =
    (i v : ℕ) → i < l.place → slice_get (tree_view l.tree).order i ≡ Some v
    → IsCountWithin l.matcher (tree_view l.tree) l.limit v
