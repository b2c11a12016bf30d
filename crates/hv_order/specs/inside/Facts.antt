-- What is true of the nodes of a plan, however much of it is known.
use Rattle.std.specs.Prelude.{ℕ, ◌<◌, ◌≤◌, length, Option, Some, None}
use Rattle.hv_plan.specs.declared.tree.Child.{Child}
use Rattle.hv_order.specs.Tables.{IsLeast}
use Rattle.hv_order.specs.inside.Children.{child_at, ChildFits}
use Rattle.hv_order.specs.inside.Layouts.{PlacedTogether}
use Rattle.hv_order.specs.inside.Arrangements.{Arrangement}
use Rattle.hv_order.specs.declared.trial.Run.{Run}
use Rattle.hv_order.specs.declared.trial.Stretch.{Stretch}
use Rattle.hv_order.specs.declared.trial.Finish.{Finish}
use Rattle.hv_order.specs.declared.trial.Finish.TheVariants as finishes

-- The last state of the plan; between which states each node fits, and what its candidates are;
-- which subtasks of a candidate come before which; and in which states a candidate's precondition
-- is true
pub record Facts : Type 1 where
  pub last : ℕ
  pub fits : ℕ → ℕ → ℕ → Type 0
  pub is_candidate : ℕ → Arrangement → Type 0
  pub before : Arrangement → ℕ → ℕ → Type 0
  pub holds : Arrangement → ℕ → Type 0

-- nothing finishes before it starts, and what fits from a start fits from an earlier one
pub record AreFits (Fits : ℕ → ℕ → ℕ → Type 0) : Type 0 where
  pub climbs : (v s f : ℕ) → Fits v s f → s ≤ f
  pub earlier : (v s s' f : ℕ) → s' ≤ s → Fits v s f → Fits v s' f

-- a run gives the least finish for each start from s to its last
pub record IsRunOf (Fit : ℕ → ℕ → Type 0) (n s : ℕ) (r : Run) : Type 0 where
  pub begun : s ≤ r.last
  pub within : r.last ≤ n
  pub least : (x : ℕ) → s ≤ x → x ≤ r.last → IsLeast (Fit x) n r.finish

-- a run of a node from a start on
abbrev pub IsNodeRun : Facts → ℕ → ℕ → Run → Type 0
IsNodeRun q v s r = IsRunOf (q.fits v) q.last s r

-- a run of a child from a start on
abbrev pub IsChildRun : Facts → Child → ℕ → Run → Type 0
IsChildRun q x s r = IsRunOf (ChildFits q.fits x) q.last s r

-- where it is known, it is the run of the node in which this start lies
abbrev pub IsFinish : Facts → ℕ → ℕ → Finish → Type 0
IsFinish q v s (finishes.Known r) = IsNodeRun q v s r
IsFinish q v s finishes.Unknown = Unit {0}

-- where it is not known
abbrev pub IfUnknown : Finish → Type 0 → Type 0
IfUnknown (finishes.Known r) P = Unit {0}
IfUnknown finishes.Unknown P = P

-- Something is true at the indices of a stretch; its first is the first of a range at which it is
pub record IsFirstStretch (Holds : ℕ → Type 0) (from upto : ℕ) (r : Stretch) : Type 0 where
  pub behind : from ≤ r.first
  pub within : r.first ≤ upto
  pub begun : r.first ≤ r.last
  pub none_before : (k : ℕ) → from ≤ k → k < r.first → Holds k → ⊥
  pub holds : (k : ℕ) → r.first ≤ k → k ≤ r.last → Holds k

-- it is such a stretch, or something is true nowhere in the range
abbrev pub IsFirstTrue : (ℕ → Type 0) → ℕ → ℕ → Option Stretch → Type 0
IsFirstTrue Holds from upto None = (k : ℕ) → from ≤ k → k ≤ upto → Holds k → ⊥
IsFirstTrue Holds from upto (Some r) = IsFirstStretch Holds from upto r

-- A node fits with one candidate between s and f: the candidate's precondition is true at an index,
-- and the children are placed behind it
pub record FitsWith (q : Facts) (s : ℕ) (c : Arrangement) (f : ℕ) : Type 0 where
  pub at : ℕ
  pub late : s ≤ at
  pub early : at ≤ f
  pub holds : q.holds c at
  pub together :
      PlacedTogether (λ j. j < length c.children) (q.before c)
      (λ j. ChildFits q.fits (child_at c.children j)) at f
