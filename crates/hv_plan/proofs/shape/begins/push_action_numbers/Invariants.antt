use Rattle.std.proofs.Common.{◌≡◌, ◌++◌, map}
use Rattle.hv_plan.specs.LineViews.{actions_view}
use Rattle.hv_plan.specs.LinesLeft.{actions_left}
use Rattle.hv_plan.proofs.shape.begins.push_action_numbers.Given as goal

abbrev pub invariant-loop-line : goal.invariant-loop-line
invariant-loop-line l = l.numbers.items ++ map (λ a. a.line) (actions_left l.line-iterator) ≡ l.initial.numbers.items ++ map (λ a. a.line) (actions_view l.lines)
