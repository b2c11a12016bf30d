-- Nodes that finish where they start, whatever the start.
use Rattle.std.specs.Prelude.{ℕ, ◌<◌, ◌≤◌, List, length, Some}
use Rattle.hv_plan.specs.declared.tree.Child.{Child}
use Rattle.hv_plan.specs.declared.tree.Child.TheVariants as children
use Rattle.hv_order.specs.Tables.{IsLeast}
use Rattle.hv_order.specs.inside.Arrangements.{Arrangement}
use Rattle.hv_order.specs.inside.Children.{child_at}
use Rattle.hv_order.specs.inside.Facts.{Facts}

-- each start is the least finish of the node for it
abbrev pub IsIdle : Facts → ℕ → Type 0
IsIdle q v = (s : ℕ) → s ≤ q.last → IsLeast (q.fits v s) q.last (Some s)

-- the child is such a node
abbrev pub IsIdleChild : Facts → Child → Type 0
IsIdleChild q (children.Action k) = ⊥
IsIdleChild q (children.Node v) = IsIdle q v

-- all of these children are
abbrev pub AreIdle : Facts → List Child → Type 0
AreIdle q cs = (j : ℕ) → j < length cs → IsIdleChild q (child_at cs j)

-- the precondition of a candidate is true in each state
abbrev pub HoldsThroughout : Facts → Arrangement → Type 0
HoldsThroughout q c = (k : ℕ) → k ≤ q.last → q.holds c k

-- a candidate stands where it starts: its children do, and its precondition is true there
pub record IsIdleBy (q : Facts) (c : Arrangement) : Type 0 where
  pub children : AreIdle q c.children
  pub holds : HoldsThroughout q c
