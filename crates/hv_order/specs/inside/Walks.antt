-- Where each node of a plan begins and is over, found with parents first.
use Rattle.std.specs.Prelude.{◌≡◌, ℕ, ◌+◌, ◌-◌, ◌<◌, ◌≤◌, List, length, Option, Some, None, MatchOption}
use Rattle.std.specs.List.{slice_index_or}
use Rattle.hv_plan.specs.declared.tree.Child.{Child}
use Rattle.hv_plan.specs.declared.tree.Child.TheVariants as children
use Rattle.hv_order.specs.Tables.{IsLeastAt, IsLeast}
use Rattle.hv_order.specs.inside.Children.{child_at}
use Rattle.hv_order.specs.inside.Arrangements.{Arrangement, arrangement_of}
use Rattle.hv_order.specs.inside.Facts.{Facts}
use Rattle.hv_order.specs.declared.walk.Stand.{Stand}

-- what is said of a node, if anything is
abbrev pub said_of : {X : Type 0} → List (Option X) → ℕ → Option X
said_of xs v = slice_index_or xs v None

-- the node of number u stands for subtask j
abbrev pub IsChildAt : List Child → ℕ → ℕ → Type 0
IsChildAt cs j u = (j < length cs) × (child_at cs j ≡ children.Node u)

-- no node stands for two of these subtasks
abbrev pub AreApartNodes : List Child → Type 0
AreApartNodes cs = (i j u : ℕ) → IsChildAt cs i u → IsChildAt cs j u → i ≡ j

-- each node is a child of one node at most, and there stands for one subtask
pub record HaveOneParent (q : Facts) : Type 0 where
  pub parent :
      (v w : ℕ) (c d : Arrangement) (i j u : ℕ) → q.is_candidate v c → q.is_candidate w d
      → IsChildAt c.children i u → IsChildAt d.children j u → v ≡ w
  pub place : (v : ℕ) (c : Arrangement) → q.is_candidate v c → AreApartNodes c.children

-- the number of the root line's node among so many, which is the last
abbrev pub root_of : ℕ → ℕ
root_of count = count - 1

-- the candidate by which a node stands
abbrev pub winner_of : Stand → Arrangement
winner_of t = arrangement_of t.winner

-- where a node begins, where it is over, and the index of its precondition
abbrev pub start_in : Option Stand → ℕ
start_in None = 0
start_in (Some t) = t.start

abbrev pub finish_in : Option Stand → ℕ
finish_in None = 0
finish_in (Some t) = t.finish

abbrev pub index_in : Option Stand → ℕ
index_in None = 0
index_in (Some t) = t.at

abbrev pub index_of : List (Option Stand) → ℕ → ℕ
index_of stands v = index_in (said_of stands v)

-- where a child begins: an action in the state of its number
abbrev pub begins : List (Option Stand) → Child → ℕ
begins stands (children.Action k) = k
begins stands (children.Node u) = start_in (said_of stands u)

-- where a child is over: an action in the state behind it
abbrev pub over : List (Option Stand) → Child → ℕ
over stands (children.Action k) = k + 1
over stands (children.Node u) = finish_in (said_of stands u)

-- The children of a node stand too, by one candidate of the node: each begins behind the node's
-- precondition, and behind the children that come before it, and is over when the node is
pub record AreBranches
    (q : Facts) (stands : List (Option Stand)) (t : Stand) (c : Arrangement)
    : Type 0 where
  pub stand : (j u : ℕ) → IsChildAt c.children j u → (s : Stand) × (said_of stands u ≡ Some s)
  pub from : (j : ℕ) → j < length c.children → t.at ≤ begins stands (child_at c.children j)
  pub until : (j : ℕ) → j < length c.children → over stands (child_at c.children j) ≤ t.finish
  pub order :
      (i j : ℕ) → i < length c.children → j < length c.children → q.before c i j
      → over stands (child_at c.children i) ≤ begins stands (child_at c.children j)

-- A node stands by one of its candidates: it is over at the least finish from its start, and the
-- candidate's precondition is true at its index
pub record IsStand (q : Facts) (v : ℕ) (t : Stand) : Type 0 where
  pub is_candidate : q.is_candidate v (winner_of t)
  pub least : IsLeastAt (q.fits v t.start) q.last t.finish
  pub late : t.start ≤ t.at
  pub early : t.at ≤ t.finish
  pub holds : q.holds (winner_of t) t.at

-- a node stands, and its children stand by its candidate
pub record IsStanding (q : Facts) (stands : List (Option Stand)) (v : ℕ) (t : Stand) : Type 0 where
  pub is : IsStand q v t
  pub branches : AreBranches q stands t (winner_of t)

-- the root stands from the first state on, and so do all nodes that are reached from it by the
-- candidates of those that stand
pub record AreWalked (q : Facts) (count : ℕ) (stands : List (Option Stand)) : Type 0 where
  pub as_many : length stands ≡ count
  pub root : (t : Stand) × (said_of stands (root_of count) ≡ Some t) × (t.start ≡ 0)
  pub each : (v : ℕ) (t : Stand) → said_of stands v ≡ Some t → IsStanding q stands v t

-- the root has no finish from the first state on, or all nodes are walked from it
abbrev pub IsWalk : Facts → ℕ → Option (List (Option Stand)) → Type 0
IsWalk q count o =
    MatchOption o (IsLeast (q.fits (root_of count) 0) q.last None) (AreWalked q count)
