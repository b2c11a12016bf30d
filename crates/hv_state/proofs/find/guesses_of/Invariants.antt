use Rattle.std.proofs.Common.{map}
use Rattle.hv_state.specs.inside.Hashes.{AreNoted}
use Rattle.hv_state.proofs.find.guesses_of.Given as goal

-- the rows so far
abbrev pub invariant-loop-place : goal.invariant-loop-place
invariant-loop-place g l = AreNoted l.guesses.buckets.items (map g.T.HasRow.numbers l.list) l.place
