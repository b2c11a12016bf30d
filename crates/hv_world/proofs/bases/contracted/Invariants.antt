use Rattle.std.proofs.Common.{map, take}
use Rattle.hv_world.specs.inside.TypeLists.{type_numbers}
use Rattle.hv_world.specs.inside.Bases.{AreContracted}
use Rattle.hv_world.proofs.bases.contracted.Given as goal

-- the pairs are those that the ones so far come to
abbrev pub invariant-loop-child : goal.invariant-loop-child
invariant-loop-child l = AreContracted (map (λ p. (p.0.0, p.1.0)) (take l.child-index l.parents)) (type_numbers l.bases) (map (λ p. (p.0.0, p.1.0)) l.pairs.items)
