use Rattle.std.proofs.Common.{◌≡◌, ◌≤◌, ◌-◌, length, drop}
use Rattle.hv_match.specs.inside.Puzzles.{are_in}
use Rattle.hv_match.specs.inside.PuzzleViews.{puzzle_view}
use Rattle.hv_match.proofs.puzzle.Puzzle.are_in.Given as goal

abbrev pub invariant-loop-at : goal.invariant-loop-at
invariant-loop-at l =
    (l.at ≤ length l.values) × (l.at ≤ length l.self.table.now.ranges.items)
    × (are_in l.values (puzzle_view l.self).ranges ≡ are_in (drop l.at l.values) (drop l.at (puzzle_view l.self).ranges))

abbrev pub decreases-loop-at : goal.decreases-loop-at
decreases-loop-at l = length l.values - l.at
