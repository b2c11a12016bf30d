use Rattle.std.proofs.Common.{◌≡◌, ◌++◌, map}
use Rattle.hv_plan.specs.LineViews.{actions_view}
use Rattle.hv_plan.specs.LinesLeft.{actions_left}
use Rattle.hv_plan.specs.inside.Origins.{origin_of_action}
use Rattle.hv_plan.proofs.origin.action_origins.Given as goal

-- the origins so far, and those of the lines that are left
abbrev pub invariant-loop-line : goal.invariant-loop-line
invariant-loop-line l = l.origins.items ++ map origin_of_action (actions_left l.line-iterator) ≡ map origin_of_action (actions_view l.lines)
