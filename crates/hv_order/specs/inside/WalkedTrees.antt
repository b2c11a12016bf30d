-- What the nodes of a walk are to a tree of lines and a choice of meanings.
use Rattle.std.specs.Prelude.{◌≡◌, ℕ, ◌<◌, List, length, Option, Some, Contains}
use Rattle.hv_plan.specs.Trees.{Item, Tree}
use Rattle.hv_plan.specs.TreeViews.{child_view}
use Rattle.hv_order.specs.Meanings.{Meaning, Choice}
use Rattle.hv_order.specs.StandIns.{StandsFor}
use Rattle.hv_order.specs.inside.Children.{child_at}
use Rattle.hv_order.specs.inside.Arrangements.{Arrangement}
use Rattle.hv_order.specs.inside.Facts.{Facts}
use Rattle.hv_order.specs.inside.Walks.{said_of, root_of, winner_of}
use Rattle.hv_order.specs.declared.walk.Stand.{Stand}

-- the item that stands for a subtask
abbrev pub item_at : Arrangement → ℕ → Item
item_at c j = child_view (child_at c.children j)

-- each of these items stands for a subtask
abbrev pub HasAll : Arrangement → List Item → Type 0
HasAll c xs = (x : Item) → Contains xs x → (j : ℕ) × (j < length c.children) × (item_at c j ≡ x)

-- the candidates of the root's node have all initial tasks, and those of each node all its children
pub record AreOfTree (q : Facts) (t : Tree) (root : ℕ) : Type 0 where
  pub initial : (c : Arrangement) → q.is_candidate root c → HasAll c t.initial_tasks
  pub children : (v : ℕ) (c : Arrangement) → q.is_candidate v c → HasAll c (t.children v)

-- the meaning of an arrangement
abbrev pub IsMeaningOf : Facts → Arrangement → Meaning → Type 0
IsMeaningOf q c m = StandsFor (length c.children) (item_at c) (q.before c) (q.holds c) m

-- the candidate by which a node stands has this meaning
abbrev pub IsChosenAt : Facts → List (Option Stand) → ℕ → Meaning → Type 0
IsChosenAt q stands v m = (s : Stand) → said_of stands v ≡ Some s → IsMeaningOf q (winner_of s) m

-- the choice is of the candidates by which so many nodes stand
pub record IsChosen (q : Facts) (count : ℕ) (stands : List (Option Stand))
    (o : Choice) : Type 0 where
  pub root : IsChosenAt q stands (root_of count) o.root
  pub line : (v : ℕ) → IsChosenAt q stands v (o.line v)
