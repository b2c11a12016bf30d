use Rattle.std.proofs.Common.{◌≡◌, drop}
use Rattle.hv_match.specs.inside.Puzzles.{has}
use Rattle.hv_match.proofs.forced.stands_in.Given as goal

abbrev pub invariant-loop-other : goal.invariant-loop-other
invariant-loop-other l = has l.number l.numbers ≡ has l.number (drop l.other-index l.numbers)
