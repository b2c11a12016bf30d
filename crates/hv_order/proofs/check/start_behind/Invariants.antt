use Rattle.std.proofs.Common.{take, map}
use Rattle.hv_plan.specs.TreeViews.{child_view}
use Rattle.hv_order.specs.inside.Checks.{StartBehind}
use Rattle.hv_order.proofs.check.start_behind.Given as goal

abbrev pub invariant-loop-child : goal.invariant-loop-child
invariant-loop-child l =
    StartBehind l.starts (map child_view (take l.child-index l.children)) l.at
