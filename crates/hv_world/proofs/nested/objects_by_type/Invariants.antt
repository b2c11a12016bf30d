use Rattle.std.proofs.Common.{◌≡◌, length, map, take}
use Rattle.hv_world.specs.inside.TypeLists.{object_lists, AreSeconds}
use Rattle.hv_world.proofs.nested.objects_by_type.Given as goal

-- the lists have the pairs so far, turned round
abbrev pub invariant-loop-object : goal.invariant-loop-object
invariant-loop-object l = (length l.lists.items ≡ l.types) × AreSeconds (map (λ p. (p.1.0, p.0.0)) (take l.object-index l.pairs)) (object_lists l.lists.items)
