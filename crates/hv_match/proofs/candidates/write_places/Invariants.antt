use Rattle.std.proofs.Common.{◌≡◌, length, take}
use Rattle.hv_match.proofs.candidates.write_places.Given as goal

abbrev pub invariant-loop-number : goal.invariant-loop-number
invariant-loop-number l = (length l.into ≡ length l.places) × (take l.number l.into ≡ take l.number l.places)
