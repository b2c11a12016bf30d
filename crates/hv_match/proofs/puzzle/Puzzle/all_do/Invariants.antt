use Rattle.std.proofs.Common.{◌≡◌, ◌≤◌, ◌-◌, length, drop}
use Rattle.hv_match.specs.inside.Puzzles.{all_do}
use Rattle.hv_match.specs.inside.PuzzleViews.{puzzle_view}
use Rattle.hv_match.proofs.puzzle.Puzzle.all_do.Given as goal

abbrev pub invariant-loop-at : goal.invariant-loop-at
invariant-loop-at l =
    (l.at ≤ length l.places) × (l.at ≤ length l.self.table.now.subtasks.now)
    × (all_do (puzzle_view l.self).children l.values l.places (puzzle_view l.self).subtasks ≡ all_do (puzzle_view l.self).children l.values (drop l.at l.places) (drop l.at (puzzle_view l.self).subtasks))

abbrev pub decreases-loop-at : goal.decreases-loop-at
decreases-loop-at l = length l.places - l.at
