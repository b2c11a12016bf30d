use Rattle.hv_match.proofs.puzzle.Puzzle.skip_objects.Given as goal

-- nothing is kept of the atoms so far
abbrev pub invariant-loop-decided_number : goal.invariant-loop-decided_number
invariant-loop-decided_number l = Unit {0}
