use Rattle.std.proofs.Common.{◌≡◌, ◌++◌, drop}
use Rattle.hv_plan.specs.inside.Tables.{places_by}
use Rattle.hv_plan.proofs.shape.places.push_places.Given as goal

abbrev pub invariant-loop-id : goal.invariant-loop-id
invariant-loop-id l =
    l.places.items ++ places_by l.table l.count (drop l.id-index l.ids) ≡ l.initial.places.items ++ places_by l.table l.count l.ids
