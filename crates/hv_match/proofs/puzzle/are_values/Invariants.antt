use Rattle.std.proofs.Common.{◌≡◌, ◌≤◌, ◌-◌, length, map, drop}
use Rattle.hv_world.specs.Bindings.{object_number}
use Rattle.hv_world.specs.Views.{term_view}
use Rattle.hv_match.specs.inside.Puzzles.{same_values}
use Rattle.hv_match.proofs.puzzle.are_values.Given as goal

abbrev pub invariant-loop-at : goal.invariant-loop-at
invariant-loop-at l =
    (l.at ≤ length l.terms) × (l.at ≤ length l.objects)
    × (same_values l.values (map term_view l.terms) (map object_number l.objects) ≡ same_values l.values (drop l.at (map term_view l.terms)) (drop l.at (map object_number l.objects)))

abbrev pub decreases-loop-at : goal.decreases-loop-at
decreases-loop-at l = length l.terms - l.at
