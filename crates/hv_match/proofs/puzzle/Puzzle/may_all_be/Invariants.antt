use Rattle.std.proofs.Common.{◌≤◌, ◌-◌, length}
use Rattle.hv_match.proofs.puzzle.Puzzle.may_all_be.Given as goal

abbrev pub invariant-loop-at : goal.invariant-loop-at
invariant-loop-at l = (l.at ≤ length l.terms) × (l.at ≤ length l.objects)

abbrev pub decreases-loop-at : goal.decreases-loop-at
decreases-loop-at l = length l.terms - l.at
