use Rattle.std.proofs.Common.{◌≡◌, ◌++◌, map}
use Rattle.std.specs.List.{flat_map}
use Rattle.hv_plan.specs.Shapes.{line_parent}
use Rattle.hv_plan.specs.inside.Shaping.{child_lines}
use Rattle.hv_plan.specs.LineViews.{decompositions_view}
use Rattle.hv_plan.specs.LinesLeft.{decompositions_left}
use Rattle.hv_plan.proofs.shape.begins.push_child_numbers.Given as goal

abbrev pub invariant-loop-line : goal.invariant-loop-line
invariant-loop-line l =
    l.numbers.items ++ flat_map child_lines (map line_parent (decompositions_left l.line-iterator))
    ≡ l.initial.numbers.items ++ flat_map child_lines (map line_parent (decompositions_view l.lines))
