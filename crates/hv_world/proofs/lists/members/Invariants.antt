use Rattle.std.proofs.Common.{◌≡◌, [], map}
use Rattle.hv_world.specs.Types.{typing}
use Rattle.hv_world.specs.inside.TypeLists.{object_lists, direct_lists, AreSeconds, AreMembersBelow}
use Rattle.hv_world.proofs.lists.members.Given as goal

-- the objects so far stand in their lists; the types that are declared of each stay
abbrev pub invariant-loop-number : goal.invariant-loop-number
invariant-loop-number l =
    (l.waiting.items ≡ [])
    × AreMembersBelow l.number (typing l.types l.objects l.parents l.declared) (object_lists l.members.items)
    × AreSeconds (map (λ p. (p.0.0, p.1.0)) l.declared) (direct_lists l.direct)
