use Rattle.std.proofs.Common.{◌≡◌, length, map, take}
use Rattle.hv_world.specs.inside.TypeLists.{type_lists, AreSeconds}
use Rattle.hv_world.proofs.lists.parents_by_type.Given as goal

-- the lists have the pairs so far
abbrev pub invariant-loop-child : goal.invariant-loop-child
invariant-loop-child l = (length l.lists.items ≡ l.types) × AreSeconds (map (λ p. (p.0.0, p.1.0)) (take l.child-index l.pairs)) (type_lists l.lists.items)
