-- Laws of the ways in which there may be candidates.
use Rattle.std.specs.Prelude.{◌≡◌, ◌≤◌, ℕ, Option, Bool, true, List, [], length, map, slice_index_or}
use Rattle.hv_world.specs.Alike.{class_sizes, keys}
use Rattle.hv_world.specs.Values.{Subtask}
use Rattle.hv_world.specs.Worlds.{World, Method}
use Rattle.hv_match.specs.Counts.{factorial, product, IsCount}
use Rattle.hv_match.specs.inside.Counting.{rising}
use Rattle.hv_lists.specs.Lists.{Once}
use Rattle.hv_match.specs.inside.Puzzles.{Puzzle, options, levels, places, values, AreRows, IsMatch, ways}
use Rattle.hv_match.specs.inside.Ranges.{IsPuzzleOf}
use Rattle.hv_match.specs.inside.Search.{below}

-- where what is wanted are matches, a search finds no more than the ways that there may be
abbrev pub WaysAreEnough : Type 0
WaysAreEnough =
    (p : Puzzle) → AreRows p → ((i : ℕ) → Once (slice_index_or p.ranges i []))
    → (good : List ℕ → Bool) → ((q : List ℕ) → good q ≡ true → IsMatch p (places p q) (values p q))
    → length (below (options p) good (levels p) [] 0) ≤ ways p

-- the ways of subtasks are the orders of their classes
abbrev pub OrdersAreWays : Type 0
OrdersAreWays = (ss : List Subtask) → product (map factorial (class_sizes ss)) ≡ rising (keys ss)

-- the ways of the puzzle of a node are the count of its method
abbrev pub WaysAreCounts : Type 0
WaysAreCounts =
    (w : World) (m : Method) (os : List ℕ) (cs : List (Option Subtask)) (p : Puzzle) (k : ℕ)
    → IsPuzzleOf w m os cs p → IsCount w m k → ways p ≡ k
