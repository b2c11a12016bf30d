use Rattle.std.proofs.Common.{◌≡◌, drop}
use Rattle.hv_match.specs.inside.Puzzles.{is_once}
use Rattle.hv_match.proofs.forced.is_once.Given as goal

abbrev pub invariant-loop-place : goal.invariant-loop-place
invariant-loop-place l = is_once l.numbers ≡ is_once (drop l.place l.numbers)
