use Rattle.std.proofs.Common.{◌≡◌, ℕ, List, length, map, take}
use Rattle.hv_world.specs.Bindings.{object_of}
use Rattle.hv_world.specs.Views.{term_view}
use Rattle.hv_match.specs.inside.Puzzles.{GoesOn}
use Rattle.hv_match.specs.inside.PuzzleViews.{puzzle_view}
use Rattle.hv_match.proofs.puzzle.Puzzle.write_known.Given as goal

abbrev pub invariant-loop-number : goal.invariant-loop-number
invariant-loop-number l =
    (length l.into ≡ length l.terms)
    × ((B : List ℕ) → GoesOn (puzzle_view l.self) l.chosen B → map (object_of B) (map term_view (take l.number l.terms)) ≡ take l.number l.into)
