use Rattle.std.proofs.Common.{◌≡◌, ◌++◌, map}
use Rattle.hv_plan.specs.LineViews.{actions_view}
use Rattle.hv_plan.specs.LinesLeft.{actions_left}
use Rattle.hv_plan.proofs.shape.begins.push_action_ids.Given as goal

abbrev pub invariant-loop-line : goal.invariant-loop-line
invariant-loop-line l = l.ids.items ++ map (λ a. a.id) (actions_left l.line-iterator) ≡ l.initial.ids.items ++ map (λ a. a.id) (actions_view l.lines)
