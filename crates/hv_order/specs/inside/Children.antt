-- What stands for a candidate's subtasks: actions of the plan, and nodes.
use Rattle.std.specs.Prelude.{◌≡◌, ℕ, ◌<◌, ◌≤◌, List, length}
use Rattle.std.specs.List.{All, slice_index_or}
use Rattle.hv_plan.specs.declared.tree.Child.{Child}
use Rattle.hv_plan.specs.declared.tree.Child.TheVariants as children
use Rattle.hv_order.specs.Finishes.{ActionFits}

-- the child that stands for a subtask
abbrev pub child_at : List Child → ℕ → Child
child_at cs j = slice_index_or cs j (children.Action 0)

-- between which states a child fits: an action where it stands in the plan, a node as
-- it is said of it
abbrev pub ChildFits : (ℕ → ℕ → ℕ → Type 0) → Child → ℕ → ℕ → Type 0
ChildFits Fits (children.Action k) s f = ActionFits k s f
ChildFits Fits (children.Node v) s f = Fits v s f

-- if it is a node, its number is below n
abbrev pub IsNodeBelow : ℕ → Child → Type 0
IsNodeBelow n (children.Action k) = Unit {0}
IsNodeBelow n (children.Node v) = v < n

-- the nodes among these children have numbers below n
abbrev pub AreNodesBelow : ℕ → List Child → Type 0
AreNodesBelow n cs = All (IsNodeBelow n) cs

-- all of these children can still begin in state s: no action among them stands before it
abbrev pub CanBeginAt : List Child → ℕ → Type 0
CanBeginAt cs s = (j k : ℕ) → j < length cs → child_at cs j ≡ children.Action k → s ≤ k

-- it is such a state up to the cap, and none behind it is
pub record IsLatestStart (cs : List Child) (cap latest : ℕ) : Type 0 where
  pub within : latest ≤ cap
  pub serves : CanBeginAt cs latest
  pub bound : (s : ℕ) → s ≤ cap → CanBeginAt cs s → s ≤ latest
