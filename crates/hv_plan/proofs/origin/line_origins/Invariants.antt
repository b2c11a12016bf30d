use Rattle.std.proofs.Common.{◌≡◌, ◌++◌, map}
use Rattle.hv_plan.specs.LineViews.{decompositions_view}
use Rattle.hv_plan.specs.LinesLeft.{decompositions_left}
use Rattle.hv_plan.specs.inside.Origins.{origin_of_line}
use Rattle.hv_plan.proofs.origin.line_origins.Given as goal

-- the origins so far, and those of the lines that are left
abbrev pub invariant-loop-line : goal.invariant-loop-line
invariant-loop-line l = l.origins.items ++ map origin_of_line (decompositions_left l.line-iterator) ≡ map origin_of_line (decompositions_view l.lines)
