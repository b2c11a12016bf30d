use Rattle.std.proofs.Common.{◌≡◌, map, take}
use Rattle.hv_world.specs.Bindings.{object_number}
use Rattle.hv_match.proofs.check.numbers.Given as goal

abbrev pub invariant-loop-object : goal.invariant-loop-object
invariant-loop-object l = l.room.items ≡ map object_number (take l.object-index l.objects)
