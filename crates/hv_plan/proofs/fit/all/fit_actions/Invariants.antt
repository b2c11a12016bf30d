use Rattle.hv_world.specs.Bindings.{ground_actions_view}
use Rattle.hv_world.specs.WorldViews.{world_view}
use Rattle.hv_plan.proofs.EarliestLemmas.{AreFittedBefore}
use Rattle.hv_plan.specs.inside.LineFaults.{action_entry}
use Rattle.hv_plan.specs.LineViews.{actions_view}
use Rattle.hv_plan.specs.LinesLeft.{actions_left}
use Rattle.hv_plan.specs.PlanTrees.{IsActionOf}
use Rattle.hv_plan.proofs.fit.all.fit_actions.Given as goal

-- what the lines so far say
abbrev pub invariant-loop-line : goal.invariant-loop-line
invariant-loop-line l =
    AreFittedBefore (world_view l.world) action_entry (IsActionOf (world_view l.world)) (actions_view l.lines) (actions_left l.line-iterator) (ground_actions_view l.actions) l.cause
