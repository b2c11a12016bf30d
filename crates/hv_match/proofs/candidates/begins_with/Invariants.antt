use Rattle.std.proofs.Common.{◌≡◌, take}
use Rattle.hv_match.proofs.candidates.begins_with.Given as goal

abbrev pub invariant-loop-number : goal.invariant-loop-number
invariant-loop-number l = take l.number l.chosen ≡ take l.number l.places
