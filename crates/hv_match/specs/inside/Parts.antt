-- What a search finds, as candidates.
use Rattle.std.specs.Prelude.{◌≡◌, ◌↔◌, ◌≤◌, ℕ, true, List, [], ◌∷◌, ◌++◌, map, length, take, drop, slice_index_or, Option, Contains, if◌then◌else◌}
use Rattle.hv_lists.specs.Lists.{Once}
use Rattle.hv_world.specs.Bindings.{object_number}
use Rattle.hv_world.specs.Worlds.{World, Method}
use Rattle.hv_world.specs.declared.id.ObjectId.{ObjectId}
use Rattle.hv_state.specs.Needed.{needed}
use Rattle.hv_plan.specs.PlanTrees.{Node, PlanTree}
use Rattle.hv_match.specs.Possible.{are_possible}
use Rattle.hv_match.specs.Candidates.{IsCandidate, Listing, child_tasks}
use Rattle.hv_match.specs.Counts.{IsCount}
use Rattle.hv_match.specs.inside.Search.{below}
use Rattle.hv_match.specs.inside.States.{to_come, IsState}
use Rattle.hv_match.specs.inside.Puzzles.{Puzzle, options, levels, is_good}
use Rattle.hv_match.specs.inside.PuzzleViews.{puzzle_view}
use Rattle.hv_match.specs.inside.Ranges.{IsTableOf}
use Rattle.hv_match.specs.declared.candidates.Coming.{Coming}
use Rattle.hv_match.specs.declared.candidates.Coming.TheVariants as comings
use Rattle.hv_match.specs.declared.candidates.Seeker.{Seeker}
use Rattle.hv_match.specs.declared.puzzle.Puzzle as code
use Rattle.hv_match.specs.declared.state.State.{State}
use Rattle.hv_match.specs.declared.table.MethodTable.{MethodTable}

-- the first so many of a whole choice, and the others
abbrev pub parts : ℕ → List ℕ → List ℕ × List ℕ
parts n q = (take n q, drop n q)

-- the matches of a puzzle, in the order in which they are found
abbrev pub listed : Puzzle → List (List ℕ × List ℕ)
listed p = map (parts (length p.subtasks)) (below (options p) (is_good p) (levels p) [] 0)

-- those that are still to come
abbrev pub coming : Puzzle → State → List (List ℕ × List ℕ)
coming p at = map (parts (length p.subtasks)) (to_come (options p) (is_good p) (levels p) at)

-- each range has its objects once
abbrev pub AreEachOnce : Puzzle → Type 0
AreEachOnce p = (i : ℕ) → Once (slice_index_or p.ranges i [])

-- to come are the matches of a puzzle, in the order in which a search finds them
abbrev pub ListsMatches : Puzzle → Listing → Type 0
ListsMatches p l = AreEachOnce p → l.coming ≡ listed p

-- where the search for the matches of a puzzle may be
abbrev pub IsStateOf : code.Puzzle → State → Type 0
IsStateOf p at =
    IsState (options (puzzle_view p)) (levels (puzzle_view p)) (length p.table.now.subtasks.now)
    (length p.children.items) at

-- what a search has still to give
abbrev pub to_find : Seeker → List (List ℕ × List ℕ)
to_find s = coming (puzzle_view s.puzzle) s.at

-- the search stands where it may, and what is lent has room for the children and the
-- objects of a match
abbrev pub HasRoom : Seeker → List ℕ → List ObjectId → Type 0
HasRoom s M os =
    IsStateOf s.puzzle s.at × (length M ≡ length s.puzzle.table.now.subtasks.now)
    × (length os ≡ length s.puzzle.table.now.ranges.items)

-- those that are still to come; the one that is written down is the one that is lent then
abbrev pub still_coming : Coming → List ℕ → List ObjectId → List (List ℕ × List ℕ)
still_coming (comings.Written b) M os = if b then (M, map object_number os) ∷ [] else []
still_coming (comings.Sought s) M os = to_find s.value

-- a list of candidates, of which one with these children and objects is lent
abbrev pub listed_as : List ℕ → List ObjectId → List (List ℕ × List ℕ) → Listing
listed_as M os l = record { children = M; objects = map object_number os; coming = l }

abbrev pub listing : Coming → List ℕ → List ObjectId → Listing
listing c M os = listed_as M os (still_coming c M os)

abbrev pub IsListing : Coming → List ℕ → List ObjectId → Type 0
IsListing (comings.Written b) M os = Unit {0}
IsListing (comings.Sought s) M os = HasRoom s.value M os

-- the first of those that were to come are left out, which have their first children
-- at these places
pub record LosesSome (places : List ℕ) (old new : List (List ℕ × List ℕ)) : Type 0 where
  pub gone : List (List ℕ × List ℕ)
  pub coming : old ≡ gone ++ new
  pub alike : (M B : List ℕ) → Contains gone (M, B) → take (length places) M ≡ places

-- to come are just the candidates of a node by its method that are possible, each once, and no more
-- than the count
pub record IsWhole (w : World) (m : Method) (t : PlanTree) (n : Node)
    (ever : Option (List (List ℕ))) (l : Listing) : Type 0 where
  pub exact :
      (M B : List ℕ)
      → Contains l.coming (M, B)
      ↔ (IsCandidate w m n.objects (child_tasks t n) M B
      × (are_possible ever B (needed m.precondition) ≡ true))
  pub once : Once l.coming
  pub few : (k : ℕ) → IsCount w m k → length l.coming ≤ k

-- so for each method whose table this is
abbrev pub IsWholeBy : MethodTable → PlanTree → Node → Option (List (List ℕ)) → Listing → Type 0
IsWholeBy table t n ever l = (w : World) (m : Method) → IsTableOf w m table → IsWhole w m t n ever l

-- the choices begin with these places
abbrev pub BeginsWith : List ℕ → List ℕ → Type 0
BeginsWith places q = (length places ≤ length q) × (take (length places) q ≡ places)
