-- Whether the children of a candidate stand in the plan as their subtasks are ordered.
use Rattle.std.specs.Prelude.{◌≡◌, ℕ, suc, ◌+◌, ◌<◌, ◌≤◌, ◌⊎◌, Bool, true, false, ◌||◌, ◌&&◌, List, [], ◌∷◌, length, nat_le, Option, MatchOption, All, Contains}
use Rattle.hv_lists.specs.Lists.{Once}
use Rattle.hv_plan.specs.Trees.{Item}
use Rattle.hv_plan.specs.PlanTrees.{PlanTree}
use Rattle.hv_plan.specs.TreeViews.{child_view}
use Rattle.hv_plan.specs.declared.tree.Child.{Child}
use Rattle.hv_order.specs.inside.Arrangements.{Arrangement, listed_before}
use Rattle.hv_order.specs.inside.Children.{child_at}
use Rattle.hv_order.specs.inside.Ends.{item_end, AreEnds}
use Rattle.hv_order.specs.inside.Firsts.{never, item_first, AreFirsts}
use Rattle.hv_order.specs.declared.spans.Spans.{Spans}

-- the firsts and the ends of the nodes of a tree
pub record AreSpans (t : PlanTree) (s : Spans) : Type 0 where
  pub firsts : AreFirsts t s.firsts.items
  pub ends : AreEnds t s.ends.items

-- no action at or below y stands in front of one at or below x
abbrev pub is_behind : Spans → Item → Item → Bool
is_behind s x y =
    nat_le never (item_first s.firsts.items y)
    || nat_le (item_end s.ends.items x) (item_first s.firsts.items y)

-- so is y behind the children of these subtasks
abbrev pub is_behind_all : Spans → List Child → Child → List ℕ → Bool
is_behind_all s cs y [] = true
is_behind_all s cs y (i ∷ is) =
    is_behind s (child_view (child_at cs i)) (child_view y) && is_behind_all s cs y is

-- so is the child of each subtask from j on, for which these lists say what stands
-- directly before it
abbrev pub are_behind : Spans → List Child → ℕ → List (List ℕ) → Bool
are_behind s cs j [] = true
are_behind s cs j (is ∷ rest) =
    is_behind_all s cs (child_at cs j) is && are_behind s cs (j + 1) rest

-- the children of a candidate are in the order of their subtasks
abbrev pub is_in_order : Spans → Arrangement → Bool
is_in_order s c = are_behind s c.children 0 c.direct

-- one of these stands before a child that is not behind its own
pub record IsInFront (s : Spans) (cs : List Child) (y : Child) (is : List ℕ)
    (former : ℕ) : Type 0 where
  pub listed : Contains is former
  pub apart : is_behind s (child_view (child_at cs former)) (child_view y) ≡ false

-- the children of two subtasks, none of them behind this one, are not in their order
pub record IsMisplaced (s : Spans) (cs : List Child) (lists : List (List ℕ))
    (last : ℕ) : Type 0 where
  pub former : ℕ
  pub latter : ℕ
  pub pair : IsInFront s cs (child_at cs latter) (listed_before lists latter) former
  pub of_former : former ≤ last
  pub of_latter : latter ≤ last

-- all are in order where none is told
abbrev pub TellsMisplaced : Spans → List Child → List (List ℕ) → Option ℕ → Type 0
TellsMisplaced s cs lists o =
    MatchOption o (are_behind s cs 0 lists ≡ true) (IsMisplaced s cs lists)

abbrev pub TellsInFront : Spans → List Child → Child → List ℕ → Option ℕ → Type 0
TellsInFront s cs y is o = MatchOption o (is_behind_all s cs y is ≡ true) (IsInFront s cs y is)

-- just the one before it stands directly before each subtask, as they are written
abbrev pub IsChain : List (List ℕ) → Type 0
IsChain lists = (j : ℕ) → suc j < length lists → listed_before lists (suc j) ≡ j ∷ []

-- some action stands at or below it, by its span
pub record HasActions (s : Spans) (x : Item) : Type 0 where
  pub begins : item_first s.firsts.items x < never
  pub ends : item_first s.firsts.items x < item_end s.ends.items x

abbrev pub HaveActions : Spans → List Child → Type 0
HaveActions s cs = (j : ℕ) → j < length cs → HasActions s (child_view (child_at cs j))

-- the child at a place is not over when that at a later one begins
pub record IsMet (s : Spans) (cs : List Child) (at : ℕ) : Type 0 where
  pub later : ℕ
  pub behind : at < later
  pub within : later < length cs
  pub meets : item_first s.firsts.items (child_view (child_at cs later)) < item_end s.ends.items
      (child_view (child_at cs at))

-- the subtasks stand in one chain, and with the same children up to this one some child is left
-- that begins too soon
pub record IsBlocked (s : Spans) (cs : List Child) (lists : List (List ℕ)) (at : ℕ) : Type 0 where
  pub as_many : length lists ≡ length cs
  pub chain : IsChain lists
  pub actions : HaveActions s cs
  pub met : IsMet s cs at

-- all are in order where none is told, and else the children cannot stay as they are up
-- to this subtask
abbrev pub TellsStuck : Spans → List Child → List (List ℕ) → Option ℕ → Type 0
TellsStuck s cs lists o =
    MatchOption o (are_behind s cs 0 lists ≡ true)
    (λ last. IsMisplaced s cs lists last ⊎ IsBlocked s cs lists last)

-- the numbers are those below n, each once
pub record IsPlacing (n : ℕ) (M : List ℕ) : Type 0 where
  pub once : Once M
  pub within : All (λ x. x < n) M
  pub all : length M ≡ n

-- so are the places of each of these candidates
abbrev pub ArePlacings : ℕ → List (List ℕ × List ℕ) → Type 0
ArePlacings n cs = (M B : List ℕ) → Contains cs (M, B) → IsPlacing n M
