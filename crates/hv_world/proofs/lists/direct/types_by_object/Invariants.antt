use Rattle.std.proofs.Common.{◌≡◌, length, map, take}
use Rattle.hv_world.specs.inside.TypeLists.{declared_lists, AreSeconds}
use Rattle.hv_world.proofs.lists.direct.types_by_object.Given as goal

-- the lists have the pairs so far
abbrev pub invariant-loop-object : goal.invariant-loop-object
invariant-loop-object l = (length l.lists.items ≡ l.objects) × AreSeconds (map (λ p. (p.0.0, p.1.0)) (take l.object-index l.pairs)) (declared_lists l.lists.items)
