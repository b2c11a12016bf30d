use Rattle.std.proofs.Common.{◌≡◌, ◌++◌}
use Rattle.std.specs.List.{flat_map}
use Rattle.hv_plan.specs.LineViews.{actions_view}
use Rattle.hv_plan.specs.LinesLeft.{actions_left}
use Rattle.hv_plan.specs.Canonical.{action_text}
use Rattle.hv_plan.proofs.print.put_actions.Given as goal

abbrev pub invariant-loop-line : goal.invariant-loop-line
invariant-loop-line l =
    l.out.items ++ flat_map action_text (actions_left l.line-iterator) ≡ l.initial.out.items ++ flat_map action_text (actions_view l.lines)
