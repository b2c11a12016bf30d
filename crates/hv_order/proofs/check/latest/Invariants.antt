use Rattle.std.proofs.Common.{take, map}
use Rattle.hv_plan.specs.TreeViews.{child_view}
use Rattle.hv_order.specs.inside.Checks.{IsLatest, finish_in}
use Rattle.hv_order.proofs.check.latest.Given as goal

abbrev pub invariant-loop-child : goal.invariant-loop-child
invariant-loop-child l =
    IsLatest l.at (map child_view (take l.child-index l.children)) (finish_in l.finishes) l.latest
