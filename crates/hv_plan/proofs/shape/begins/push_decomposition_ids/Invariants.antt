use Rattle.std.proofs.Common.{◌≡◌, ◌++◌, map}
use Rattle.hv_plan.specs.LineViews.{decompositions_view}
use Rattle.hv_plan.specs.LinesLeft.{decompositions_left}
use Rattle.hv_plan.proofs.shape.begins.push_decomposition_ids.Given as goal

abbrev pub invariant-loop-line : goal.invariant-loop-line
invariant-loop-line l = l.ids.items ++ map (λ d. d.id) (decompositions_left l.line-iterator) ≡ l.initial.ids.items ++ map (λ d. d.id) (decompositions_view l.lines)
