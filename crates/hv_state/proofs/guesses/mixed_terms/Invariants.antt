use Rattle.std.proofs.Common.{◌≡◌, drop, fold}
use Rattle.hv_state.specs.inside.Hashes.{mix}
use Rattle.hv_state.specs.inside.Rows.{objects_with}
use Rattle.hv_state.proofs.guesses.mixed_terms.Given as goal

-- what the hash will be once the rest is taken in is what it will be in the end
abbrev pub invariant-loop-term : goal.invariant-loop-term
invariant-loop-term l = fold mix l.mixed_so_far (objects_with l.binding (drop l.term-index l.terms)) ≡ fold mix l.hash (objects_with l.binding l.terms)
