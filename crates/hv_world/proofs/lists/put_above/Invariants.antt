use Rattle.std.proofs.Common.{◌+◌, vec_len}
use Rattle.hv_world.specs.inside.TypeLists.{type_numbers, type_lists, object_lists}
use Rattle.hv_world.proofs.TypeLemmas.{IsClimbing, left}
use Rattle.hv_world.proofs.lists.put_above.Given as goal

-- what stands in the lists was climbed to; what is above stands there, or waits behind what does
abbrev pub invariant-climb : goal.invariant-climb
invariant-climb l = IsClimbing (type_lists l.parents) (type_numbers l.initial.waiting.items) l.object.0 (object_lists l.initial.members) (type_numbers l.waiting.items) (object_lists l.members)

abbrev pub decreases-climb : goal.decreases-climb
decreases-climb l = left l.object.0 (object_lists l.members) (type_lists l.parents) + vec_len l.waiting
