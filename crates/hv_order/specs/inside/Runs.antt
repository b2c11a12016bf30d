-- The row of a node as runs of starts.
use Rattle.std.specs.Prelude.{◌≡◌, ℕ, zero, suc, ◌+◌, ◌-◌, ◌<◌, ◌≤◌, ◌⊎◌, List, [], ◌∷◌, length, take, Option, Some, slice_get, get_or}
use Rattle.hv_world.specs.Worlds.{World}
use Rattle.hv_order.specs.LeastFinishes.{NodeCanBePlaced, IsNumberOfAnswers, HasDigits}
use Rattle.hv_order.specs.Settings.{Setting, last, HaveCandidates}
use Rattle.hv_order.specs.inside.Facts.{Facts, IsRunOf}
use Rattle.hv_order.specs.inside.PlanFacts.{IsSetting, plan_facts}
use Rattle.hv_order.specs.declared.trial.Run.{Run}
use Rattle.hv_order.specs.declared.runs.Row.{Row}
use Rattle.hv_order.specs.declared.runs.Row.TheVariants as kinds
use Rattle.hv_order.specs.declared.runs.Place.{Place}

-- runs cover the starts from s to n, one behind the other
abbrev pub IsRow : (ℕ → ℕ → Type 0) → ℕ → ℕ → List Run → Type 0
IsRow Fit n s [] = s ≡ n + 1
IsRow Fit n s (r ∷ rs) = IsRunOf Fit n s r × IsRow Fit n (r.last + 1) rs

-- the first of these runs has another finish than the run before it
abbrev pub IsApartFrom : Run → List Run → Type 0
IsApartFrom r [] = Unit {0}
IsApartFrom r (x ∷ xs) = r.finish ≡ x.finish → ⊥

-- no run has the same finish as the next
abbrev pub AreApart : List Run → Type 0
AreApart [] = Unit {0}
AreApart (r ∷ rs) = IsApartFrom r rs × AreApart rs

-- so many runs from s on, each of one start, which is its own finish
abbrev pub idle_runs : ℕ → ℕ → List Run
idle_runs s zero = []
idle_runs s (suc count) = record { last = s; finish = Some s } ∷ idle_runs (s + 1) count

-- the runs that a row stands for, where n is the last state
abbrev pub runs_of : ℕ → Row → List Run
runs_of n kinds.Idle = idle_runs 0 (suc n)
runs_of n (kinds.Runs runs) = runs.items

-- it is the row of a node
pub record IsRowOf (q : Facts) (v : ℕ) (r : Row) : Type 0 where
  pub runs : IsRow (q.fits v) q.last 0 (runs_of q.last r)
  pub apart : AreApart (runs_of q.last r)

-- each row is that of the node of its number
abbrev pub AreRows : Facts → List Row → Type 0
AreRows q rows = (v : ℕ) (r : Row) → slice_get rows v ≡ Some r → IsRowOf q v r

-- each run ends before the next
abbrev pub AreRising : List Run → Type 0
AreRising runs =
    (i j : ℕ) (d : Run) → i < j → j < length runs → (get_or runs i d).last < (get_or runs j d).last

-- the runs before place i end before the start
abbrev pub AreBefore : List Run → ℕ → ℕ → Type 0
AreBefore runs i start = (j : ℕ) (d : Run) → j < i → (get_or runs j d).last < start

-- the run at place i ends no earlier than the start
abbrev pub Reaches : List Run → ℕ → ℕ → Type 0
Reaches runs i start = (d : Run) → start ≤ (get_or runs i d).last

-- the last of these runs has this finish
pub record EndsWith (runs : List Run) (finish : Option ℕ) : Type 0 where
  pub run : Run
  pub is_last : slice_get runs (length runs - 1) ≡ Some run
  pub finish_is : run.finish ≡ finish

-- the runs are as they were, and the last had another finish
pub record StaysWhole (runs : List Run) (finish : Option ℕ) (runs' : List Run) : Type 0 where
  pub other : EndsWith runs finish → ⊥
  pub runs_are : runs' ≡ runs

-- the last run had this finish, and is gone
pub record LosesLast (runs : List Run) (finish : Option ℕ) (runs' : List Run) : Type 0 where
  pub last : EndsWith runs finish
  pub runs_are : runs' ≡ take (length runs - 1) runs

-- how the runs of a row go on where the next one has this finish
abbrev pub IsTrimmed : List Run → Option ℕ → List Run → Type 0
IsTrimmed runs finish runs' = StaysWhole runs finish runs' ⊎ LosesLast runs finish runs'

-- so many of these runs were looked at: one or more, and at most as many as their number
-- has binary digits
pub record AreFew (runs : List Run) (looked : ℕ) : Type 0 where
  pub one : 1 ≤ looked
  pub few : HasDigits (length runs) looked

-- so of the runs of a node, where n is the last state
abbrev pub AreFewOf : ℕ → List Row → ℕ → ℕ → Type 0
AreFewOf n rows v looked = (r : Row) → slice_get rows v ≡ Some r → AreFew (runs_of n r) looked

-- where a start was found among runs, and how many of them were looked at
pub record IsPlace (runs : List Run) (start : ℕ) (p : Place) : Type 0 where
  pub within : p.at < length runs
  pub behind : AreBefore runs p.at start
  pub here : Reaches runs p.at start
  pub few : AreFew runs p.looked

-- These are the rows of a plan's nodes, of which each has a candidate: a row for each node, that
-- stands for as many runs as the node has different answers
pub record ArePlanRows (q : Setting) (rows : List Row) : Type 0 where
  pub setting : IsSetting q
  pub candidates : HaveCandidates q
  pub as_many : length rows ≡ length q.tree.nodes
  pub each : AreRows (plan_facts q) rows
  pub as_many_runs :
      (v : ℕ) (r : Row) → slice_get rows v ≡ Some r
      → IsNumberOfAnswers (NodeCanBePlaced q v) (last q) (length (runs_of (last q) r))

-- These are the rows of the nodes of a plan in this world
pub record AreRowsIn (w : World) (q : Setting) (rs : List Row) : Type 0 where
  pub rows : ArePlanRows q rs
  pub world : q.plan.world ≡ w
