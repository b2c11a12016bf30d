-- What the check of a certificate looks at: a choice, and one index for each precondition step.
use Rattle.std.specs.Prelude.{◌≡◌, ℕ, ◌+◌, ◌≤◌, true, Contains}
use Rattle.hv_plan.specs.Trees.{Item, Act, Task, Pre, Tree, Reached}
use Rattle.hv_order.specs.Meanings.{Choice}

-- where a child starts: an action in the state of its number, a line at its precondition's index
abbrev pub subtask_start : (ℕ → ℕ) → Item → ℕ
subtask_start at (Act k) = k
subtask_start at (Task v) = at v
subtask_start at (Pre v) = 0

-- where each child finishes: an action in the state behind it, a line at the latest of its
-- precondition's index and its children's finishes
pub record AreFinishes (t : Tree) (at : ℕ → ℕ) (finish : Item → ℕ) : Type 0 where
  pub act : (k : ℕ) → finish (Act k) ≡ k + 1
  pub own : (v : ℕ) → at v ≤ finish (Task v)
  pub child : (v : ℕ) (x : Item) → Contains (t.children v) x → finish x ≤ finish (Task v)
  pub least :
      (v g : ℕ) → at v ≤ g → ((x : Item) → Contains (t.children v) x → finish x ≤ g)
      → finish (Task v) ≤ g

-- What the check looks at, node by node: each precondition is true at its index, no child starts
-- before it, a child that must come before another finishes before that starts, and no initial task
-- finishes after n
pub record KeepsRules (t : Tree) (o : Choice) (at : ℕ → ℕ) (finish : Item → ℕ)
    (n : ℕ) : Type 0 where
  pub holds : (v : ℕ) → Reached t (Task v) → (o.line v).true_at (at v) ≡ true
  pub from : (v : ℕ) (x : Item) → Reached t (Task v) → Contains (t.children v) x
      → at v ≤ subtask_start at x
  pub order :
      (v : ℕ) (x y : Item) → Reached t (Task v) → Contains (t.children v) x
      → Contains (t.children v) y
      → (o.line v).before x y ≡ true → finish x ≤ subtask_start at y
  pub until : (x : Item) → Contains t.initial_tasks x → finish x ≤ n
  pub root_order :
      (x y : Item) → Contains t.initial_tasks x → Contains t.initial_tasks y
      → o.root.before x y ≡ true
      → finish x ≤ subtask_start at y
