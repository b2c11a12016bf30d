-- The lines of a plan that an iterator still gives.
use Rattle.std.specs.Prelude.{List, drop}
use Rattle.hv_plan.specs.PlanLines.{actions_view, decompositions_view}
use Rattle.hv_plan.specs.Values.{Action, Decomposition}
use Rattle.hv_plan.specs.declared.plan.actions.ActionLinesIter.{ActionLinesIter}
use Rattle.hv_plan.specs.declared.plan.decompositions.DecompositionLinesIter.{DecompositionLinesIter}

abbrev pub actions_left : ActionLinesIter → List Action
actions_left it = drop it.next (actions_view it.lines.now)

abbrev pub decompositions_left : DecompositionLinesIter → List Decomposition
decompositions_left it = drop it.next (decompositions_view it.lines.now)
