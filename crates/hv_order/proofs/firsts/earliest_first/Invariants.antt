use Rattle.std.proofs.Common.{map, take}
use Rattle.hv_plan.specs.TreeViews.{child_view}
use Rattle.hv_order.specs.inside.Firsts.{IsFirstOf}
use Rattle.hv_order.proofs.firsts.earliest_first.Given as goal

abbrev pub invariant-loop-child : goal.invariant-loop-child
invariant-loop-child l = IsFirstOf l.firsts (map child_view (take l.child-index l.children)) l.first
