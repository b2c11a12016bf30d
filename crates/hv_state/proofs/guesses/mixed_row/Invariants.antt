use Rattle.std.proofs.Common.{◌≡◌, drop, fold}
use Rattle.hv_state.specs.inside.Hashes.{mix}
use Rattle.hv_state.proofs.guesses.mixed_row.Given as goal

-- what the hash will be once the rest is taken in is what it will be in the end
abbrev pub invariant-loop-number : goal.invariant-loop-number
invariant-loop-number l = fold mix l.mixed_so_far (drop l.number-index l.numbers) ≡ fold mix l.hash l.numbers
