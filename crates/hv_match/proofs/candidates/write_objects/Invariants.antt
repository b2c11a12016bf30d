use Rattle.std.proofs.Common.{◌≡◌, length, map, take}
use Rattle.hv_world.specs.Bindings.{object_number}
use Rattle.hv_match.proofs.candidates.write_objects.Given as goal

abbrev pub invariant-loop-number : goal.invariant-loop-number
invariant-loop-number l = (length l.into ≡ length l.numbers) × (map object_number (take l.number l.into) ≡ take l.number l.numbers)
