use Rattle.std.proofs.Common.{◌≡◌, length, take}
use Rattle.hv_match.specs.inside.Forced.{AllBegin}
use Rattle.hv_match.specs.inside.Puzzles.{levels}
use Rattle.hv_match.specs.inside.PuzzleViews.{puzzle_view}
use Rattle.hv_match.proofs.puzzle.Puzzle.force.Given as goal

abbrev pub invariant-loop-level : goal.invariant-loop-level
invariant-loop-level l = (length l.chosen ≡ levels (puzzle_view l.self)) × AllBegin (puzzle_view l.self) (take l.level l.chosen)
