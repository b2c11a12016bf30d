use Rattle.std.proofs.Common.{◌≡◌, ◌++◌, map}
use Rattle.hv_plan.specs.LineViews.{decompositions_view}
use Rattle.hv_plan.specs.LinesLeft.{decompositions_left}
use Rattle.hv_plan.proofs.shape.begins.push_decomposition_numbers.Given as goal

abbrev pub invariant-loop-line : goal.invariant-loop-line
invariant-loop-line l = l.numbers.items ++ map (λ d. d.line) (decompositions_left l.line-iterator) ≡ l.initial.numbers.items ++ map (λ d. d.line) (decompositions_view l.lines)
