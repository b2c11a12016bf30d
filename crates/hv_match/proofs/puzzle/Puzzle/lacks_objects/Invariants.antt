use Rattle.std.proofs.Common.{◌≤◌, ◌-◌, length}
use Rattle.hv_match.proofs.puzzle.Puzzle.lacks_objects.Given as goal

abbrev pub invariant-loop-at : goal.invariant-loop-at
invariant-loop-at l = l.at ≤ length l.self.table.now.ranges.items

abbrev pub decreases-loop-at : goal.decreases-loop-at
decreases-loop-at l = length l.self.table.now.ranges.items - l.at
