use Rattle.std.proofs.Common.{◌∷◌}
use Rattle.hv_world.specs.inside.TypeLists.{type_numbers}
use Rattle.hv_world.specs.inside.Bases.{StayWaiting}
use Rattle.hv_world.proofs.bases.Graph.take_in.Given as goal

abbrev pub invariant-loop-above : goal.invariant-loop-above
invariant-loop-above l =
    StayWaiting l.self l.base.0 (type_numbers l.fn.bases) (l.at.0 ∷ type_numbers l.fn.waiting.items) (type_numbers l.bases) (l.at.0 ∷ type_numbers l.waiting.items)
