use Rattle.hv_world.specs.Views.{name_view}
use Rattle.hv_match.specs.inside.Forced.{AreOthers}
use Rattle.hv_match.specs.inside.PuzzleViews.{puzzle_view}
use Rattle.hv_match.proofs.puzzle.Puzzle.child_alone.Given as goal

abbrev pub invariant-loop-place : goal.invariant-loop-place
invariant-loop-place l = AreOthers (puzzle_view l.self).children (name_view l.name) l.place l.found
