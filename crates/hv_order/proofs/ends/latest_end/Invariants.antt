use Rattle.std.proofs.Common.{map, take}
use Rattle.hv_plan.specs.TreeViews.{child_view}
use Rattle.hv_order.specs.inside.Ends.{IsEndOf}
use Rattle.hv_order.proofs.ends.latest_end.Given as goal

abbrev pub invariant-loop-child : goal.invariant-loop-child
invariant-loop-child l = IsEndOf l.ends (map child_view (take l.child-index l.children)) l.end
