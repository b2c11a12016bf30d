use Rattle.std.proofs.Common.{◌≡◌, ◌++◌, map}
use Rattle.std.specs.List.{flat_map}
use Rattle.hv_plan.specs.LineViews.{plan_view}
use Rattle.hv_plan.specs.LinesLeft.{decompositions_left}
use Rattle.hv_plan.specs.Shapes.{ids, line_parent}
use Rattle.hv_plan.specs.Ids.{place_of}
use Rattle.hv_plan.specs.inside.Shaping.{places_of_lines}
use Rattle.hv_plan.proofs.shape.places.lists_of.Given as goal

abbrev pub invariant-loop-line : goal.invariant-loop-line
invariant-loop-line l =
    (l.left ≡ map (place_of (ids (plan_view l.plan))) (flat_map (λ q. q.children) (map line_parent (decompositions_left l.line-iterator))))
    × (l.lists ++ map (λ d. map (place_of (ids (plan_view l.plan))) d.children) (decompositions_left l.line-iterator)
    ≡ places_of_lines (ids (plan_view l.plan)) (plan_view l.plan))
