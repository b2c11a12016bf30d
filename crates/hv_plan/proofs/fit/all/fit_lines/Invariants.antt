use Rattle.hv_world.specs.WorldViews.{world_view}
use Rattle.hv_plan.specs.inside.FitViews.{decomposed_lines, AreTidy, IsDecomposed}
use Rattle.hv_plan.specs.inside.LineFaults.{line_entry}
use Rattle.hv_plan.specs.LineViews.{decompositions_view}
use Rattle.hv_plan.specs.LinesLeft.{decompositions_left}
use Rattle.hv_plan.proofs.EarliestLemmas.{AreFittedBefore}
use Rattle.hv_plan.proofs.fit.all.fit_lines.Given as goal

-- what the lines so far say
abbrev pub invariant-loop-line : goal.invariant-loop-line
invariant-loop-line l =
    AreTidy l.lines
    × AreFittedBefore (world_view l.world) line_entry (IsDecomposed (world_view l.world)) (decompositions_view l.decompositions) (decompositions_left l.line-iterator) (decomposed_lines l.lines) l.cause
