-- States that the nodes of a tree are over no earlier than, by the actions below them.
use Rattle.std.specs.Prelude.{ℕ, ◌+◌, ◌≤◌, List, Contains, slice_index}
use Rattle.hv_plan.specs.Trees.{Item, Act, Task, Pre}
use Rattle.hv_plan.specs.PlanTrees.{PlanTree, children_at}

-- the state behind an action, and the end of a node
abbrev pub item_end : List ℕ → Item → ℕ
item_end ends (Act k) = k + 1
item_end ends (Task v) = slice_index ends v
item_end ends (Pre v) = 0

-- no later than whatever all of these are no later than
abbrev pub IsEndOf : List ℕ → List Item → ℕ → Type 0
IsEndOf ends xs e = (f : ℕ) → ((x : Item) → Contains xs x → item_end ends x ≤ f) → e ≤ f

-- so is the end of each node, of its children
abbrev pub AreEnds : PlanTree → List ℕ → Type 0
AreEnds t ends = (v : ℕ) → IsEndOf ends (children_at t.nodes v) (slice_index ends v)
