use Rattle.hv_world.specs.WorldViews.{world_view}
use Rattle.hv_plan.specs.BuiltTrees.{tree_view}
use Rattle.hv_order.proofs.PlainNodes.{ArePlainUpto}
use Rattle.hv_order.proofs.plain.plain_nodes.Given as goal

-- so of the nodes so far
abbrev pub invariant-loop-number : goal.invariant-loop-number
invariant-loop-number l = ArePlainUpto (world_view l.world) (tree_view l.tree) l.plain.items l.number
