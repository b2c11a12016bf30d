use Rattle.std.proofs.Common.{map, take}
use Rattle.std.specs.List.{AllZip}
use Rattle.hv_plan.specs.BuiltTrees.{tree_view}
use Rattle.hv_plan.specs.TreeViews.{child_view}
use Rattle.hv_order.specs.inside.Writings.{IsIdOf}
use Rattle.hv_order.proofs.certify.put_ids.Given as goal

abbrev pub invariant-loop-child : goal.invariant-loop-child
invariant-loop-child l = AllZip (IsIdOf (tree_view l.tree)) (map child_view (take l.child-index l.children)) l.ids.items
