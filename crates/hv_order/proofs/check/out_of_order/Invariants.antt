use Rattle.std.proofs.Common.{ℕ, ◌<◌}
use Rattle.hv_world.specs.WorldViews.{world_view}
use Rattle.hv_plan.specs.BuiltTrees.{tree_view}
use Rattle.hv_order.specs.inside.Checks.{KeepsNode, matching_in}
use Rattle.hv_order.proofs.check.out_of_order.Given as goal

abbrev pub invariant-loop-node : goal.invariant-loop-node
invariant-loop-node l =
    (v : ℕ) → v < l.node
    → KeepsNode (world_view l.world) (tree_view l.tree) l.entries.starts.items l.finishes v
    (matching_in l.entries.matchings v)
