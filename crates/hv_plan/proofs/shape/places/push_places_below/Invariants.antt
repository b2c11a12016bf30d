use Rattle.std.proofs.Common.{◌≡◌, ◌++◌}
use Rattle.hv_plan.specs.LineViews.{decompositions_view}
use Rattle.hv_plan.specs.LinesLeft.{decompositions_left}
use Rattle.hv_plan.specs.inside.Tables.{line_children, places_by}
use Rattle.hv_plan.proofs.shape.places.push_places_below.Given as goal

abbrev pub invariant-loop-line : goal.invariant-loop-line
invariant-loop-line l =
    l.places.items ++ places_by l.table l.count (line_children (decompositions_left l.line-iterator))
    ≡ l.initial.places.items ++ places_by l.table l.count (line_children (decompositions_view l.lines))
