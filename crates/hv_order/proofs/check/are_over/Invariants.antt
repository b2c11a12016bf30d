use Rattle.std.proofs.Common.{take, map}
use Rattle.hv_plan.specs.TreeViews.{child_view}
use Rattle.hv_order.specs.inside.Checks.{AreOver}
use Rattle.hv_order.proofs.check.are_over.Given as goal

abbrev pub invariant-loop-subtask : goal.invariant-loop-subtask
invariant-loop-subtask l =
    AreOver l.finishes (map child_view l.children) l.places (take l.subtask-index l.subtasks) l.start
