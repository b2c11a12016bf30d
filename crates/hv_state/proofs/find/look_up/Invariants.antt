use Rattle.std.proofs.Common.{map}
use Rattle.hv_state.specs.Atoms.{atom_read, row_of}
use Rattle.hv_state.proofs.GuessLemmas.{AreOthers}
use Rattle.hv_state.proofs.find.look_up.Given as goal

-- the atom's row stands at none of those so far
abbrev pub invariant-loop-number : goal.invariant-loop-number
invariant-loop-number g l = AreOthers (map g.T.HasRow.numbers l.list) (row_of (atom_read l.atom)) l.guessed l.number-index
