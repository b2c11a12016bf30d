use Rattle.hv_world.specs.inside.TypeLists.{type_numbers}
use Rattle.hv_world.specs.inside.Bases.{StayWaiting}
use Rattle.hv_world.proofs.bases.Graph.spread.Given as goal

abbrev pub invariant-loop : goal.invariant-loop
invariant-loop l = StayWaiting l.self l.base.0 (type_numbers l.fn.bases) (type_numbers l.fn.waiting.items) (type_numbers l.bases) (type_numbers l.waiting.items)
