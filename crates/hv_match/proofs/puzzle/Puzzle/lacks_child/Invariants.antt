use Rattle.std.proofs.Common.{◌<◌, ℕ, [], get_or}
use Rattle.hv_world.specs.Views.{subtask_view}
use Rattle.hv_match.specs.inside.Puzzles.{CannotDo}
use Rattle.hv_match.specs.inside.PuzzleViews.{puzzle_view}
use Rattle.hv_match.proofs.puzzle.Puzzle.lacks_child.Given as goal

abbrev pub invariant-loop-place : goal.invariant-loop-place
invariant-loop-place l = (i : ℕ) → i < l.place-index → CannotDo (puzzle_view l.self) [] (get_or l.row i 0) (subtask_view l.wanted)
