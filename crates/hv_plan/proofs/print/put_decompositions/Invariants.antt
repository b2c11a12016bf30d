use Rattle.std.proofs.Common.{◌≡◌, ◌++◌}
use Rattle.std.specs.List.{flat_map}
use Rattle.hv_plan.specs.Canonical.{decomposition_text}
use Rattle.hv_plan.specs.LineViews.{decompositions_view}
use Rattle.hv_plan.specs.LinesLeft.{decompositions_left}
use Rattle.hv_plan.proofs.print.put_decompositions.Given as goal

abbrev pub invariant-loop-line : goal.invariant-loop-line
invariant-loop-line l =
    l.out.items ++ flat_map decomposition_text (decompositions_left l.line-iterator) ≡ l.initial.out.items ++ flat_map decomposition_text (decompositions_view l.lines)
