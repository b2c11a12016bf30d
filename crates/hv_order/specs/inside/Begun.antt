-- How the walk goes on from a node to its children.
use Rattle.std.specs.Prelude.{◌≡◌, ℕ, ◌<◌, ◌≤◌, ◌⊎◌, List, length, slice_index, Option, Some, None}
use Rattle.hv_plan.specs.declared.tree.Child.{Child}
use Rattle.hv_order.specs.Tables.{IsLeastAt}
use Rattle.hv_order.specs.inside.Children.{child_at, ChildFits}
use Rattle.hv_order.specs.inside.Layouts.{PlacedTogether}
use Rattle.hv_order.specs.inside.Arrangements.{Arrangement}
use Rattle.hv_order.specs.inside.Facts.{Facts}
use Rattle.hv_order.specs.inside.Walks.{said_of, IsChildAt, winner_of, IsStand}
use Rattle.hv_order.specs.declared.walk.Stand.{Stand}
use Rattle.hv_order.specs.declared.walk.Layout.{Layout}

-- behind some index that is no earlier than `at`, a candidate's subtasks can be over by f
pub record CanBeOver (q : Facts) (c : Arrangement) (at f : ℕ) : Type 0 where
  pub index : ℕ
  pub late : at ≤ index
  pub early : index ≤ f
  pub within : f ≤ q.last
  pub together :
      PlacedTogether (λ j. j < length c.children) (q.before c)
      (λ j. ChildFits q.fits (child_at c.children j)) index f

-- the starts of a candidate's subtasks behind `at`, and the least finish of each, which f allows
pub record AreLaidOut (q : Facts) (c : Arrangement) (at f : ℕ)
    (starts finishes : List ℕ) : Type 0 where
  pub as_many : length starts ≡ length c.children
  pub fits :
      (j : ℕ) → j < length c.children
      → IsLeastAt (ChildFits q.fits (child_at c.children j) (slice_index starts j)) q.last
      (slice_index finishes j)
  pub from : (j : ℕ) → j < length c.children → at ≤ slice_index starts j
  pub until : (j : ℕ) → j < length c.children → slice_index finishes j ≤ f
  pub order :
      (i j : ℕ) → i < length c.children → j < length c.children → q.before c i j
      → slice_index finishes i ≤ slice_index starts j

abbrev pub IsLaidOut : Facts → Arrangement → ℕ → ℕ → Layout → Type 0
IsLaidOut q c at f l = AreLaidOut q c at f l.starts.items l.finishes.items

-- a node has a finish from a start
abbrev pub HasFinish : Facts → ℕ → ℕ → Type 0
HasFinish q v s = (f : ℕ) × IsLeastAt (q.fits v s) q.last f

-- a node that is begun has a finish from its start
abbrev pub HaveFinishes : Facts → List (Option ℕ) → Type 0
HaveFinishes q starts = (v s : ℕ) → said_of starts v ≡ Some s → HasFinish q v s

-- a node stands that begins at s, and behind its index its candidate's subtasks can be
-- over when it is
pub record IsStandFrom (q : Facts) (v s : ℕ) (t : Stand) : Type 0 where
  pub start : t.start ≡ s
  pub is : IsStand q v t
  pub over : CanBeOver q (winner_of t) t.at t.finish

-- the nodes among these children are begun where it is said, and each other node is as it was
pub record AreSet
    (starts : List (Option ℕ)) (cs : List Child) (begins : List ℕ) (starts' : List (Option ℕ))
    : Type 0 where
  pub begun : (j u : ℕ) → IsChildAt cs j u → said_of starts' u ≡ Some (slice_index begins j)
  pub kept : (u : ℕ) → ((j : ℕ) × IsChildAt cs j u) ⊎ (said_of starts' u ≡ said_of starts u)

-- the children of a node that stands are begun by a candidate
pub record AreBegun (q : Facts) (starts : List (Option ℕ)) (t : Stand)
    (c : Arrangement) : Type 0 where
  pub begins : List ℕ
  pub ends : List ℕ
  pub laid : AreLaidOut q c t.at t.finish begins ends
  pub begun : (j u : ℕ) → IsChildAt c.children j u → said_of starts u ≡ Some (slice_index begins j)

-- a node stands, and its children are begun by its candidate
pub record IsPlaced (q : Facts) (starts : List (Option ℕ)) (v : ℕ) (t : Stand) : Type 0 where
  pub is : IsStand q v t
  pub begun : AreBegun q starts t (winner_of t)

-- a node was visited that begins at s: it stands, and of all nodes just its children are begun
pub record IsVisited
    (q : Facts) (v s : ℕ) (starts starts' : List (Option ℕ)) (t : Stand)
    : Type 0 where
  pub start : t.start ≡ s
  pub placed : IsPlaced q starts' v t
  pub kept :
      (u : ℕ) → ((j : ℕ) × IsChildAt t.winner.children.items j u)
      ⊎ (said_of starts' u ≡ said_of starts u)

-- so it is where the node was begun; else nothing is
abbrev pub IsVisit :
    Facts → ℕ → List (Option ℕ) → List (Option ℕ) → Option ℕ → Option Stand → Type 0
IsVisit q v starts starts' None o = (starts' ≡ starts) × (o ≡ None)
IsVisit q v starts starts' (Some s) None = ⊥
IsVisit q v starts starts' (Some s) (Some t) = IsVisited q v s starts starts' t
