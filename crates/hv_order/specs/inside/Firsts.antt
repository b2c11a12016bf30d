-- States that the nodes of a tree begin no later than, by the actions below them.
use Rattle.std.specs.Prelude.{ℕ, ◌≤◌, List, Contains}
use Rattle.std.specs.List.{slice_index_or}
use Rattle.hv_plan.specs.Trees.{Item, Act, Task, Pre}
use Rattle.hv_plan.specs.PlanTrees.{PlanTree, children_at}

-- behind the states of all plans: what no action stands below begins no later than this
abbrev pub never : ℕ
never = 4294967295

-- the first of a node
abbrev pub first_of : List ℕ → ℕ → ℕ
first_of firsts v = slice_index_or firsts v never

-- the state in which an action begins, and the first of a node
abbrev pub item_first : List ℕ → Item → ℕ
item_first firsts (Act k) = k
item_first firsts (Task v) = first_of firsts v
item_first firsts (Pre v) = never

-- no earlier than whatever all of these are no earlier than
abbrev pub IsFirstOf : List ℕ → List Item → ℕ → Type 0
IsFirstOf firsts xs b = (s : ℕ) → s ≤ never → ((x : Item) → Contains xs x → s ≤ item_first firsts x)
    → s ≤ b

-- so is the first of each node, of its children
abbrev pub AreFirsts : PlanTree → List ℕ → Type 0
AreFirsts t firsts = (v : ℕ) → IsFirstOf firsts (children_at t.nodes v) (first_of firsts v)
