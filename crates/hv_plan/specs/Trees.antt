-- The tree of a plan: its actions, its decomposition lines, and what stands below what.
use Rattle.std.specs.Prelude.{◌≡◌, ℕ, ◌<◌, List, [], ◌∷◌, Contains}

-- A member of a task network: an action of the plan, a compound task that is still to be
-- decomposed, or the precondition step of the method that was applied to one. Actions are numbered
-- from 0 in plan order. A compound task and its precondition step bear the number of the
-- decomposition line that the plan has for the task
pub data Item : Type 0 where
  Act : ℕ → Item
  Task : ℕ → Item
  Pre : ℕ → Item

-- The tasks of the initial network, and the children of each line: the tasks that the plan puts in
-- the place of the line's task. A list stands for the set of its members
pub record Tree : Type 0 where
  pub initial_tasks : List Item
  pub children : ℕ → List Item

-- x is c or stands below it. Below a line stand its precondition step, its children, and what
-- stands below those
pub data AtOrBelow (t : Tree) (c : Item) : Item → Type 0 where
  itself : AtOrBelow t c c
  its_pre : {v : ℕ} → AtOrBelow t c (Task v) → AtOrBelow t c (Pre v)
  its_child : {v : ℕ} {x : Item} → AtOrBelow t c (Task v) → Contains (t.children v) x
      → AtOrBelow t c x

-- x belongs to the tree: it is an initial task or stands below one
pub record Reached (t : Tree) (x : Item) : Type 0 where
  pub ancestor : Item
  pub is_initial : Contains t.initial_tasks ancestor
  pub below : AtOrBelow t ancestor x

-- an action or a precondition step: what is executed, and never decomposed
abbrev pub IsPrimitive : Item → Type 0
IsPrimitive (Act k) = Unit {0}
IsPrimitive (Task v) = ⊥
IsPrimitive (Pre v) = Unit {0}

-- an action or a compound task: what a method names as a subtask. A precondition step is none
abbrev pub IsSubtask : Item → Type 0
IsSubtask (Act k) = Unit {0}
IsSubtask (Task v) = Unit {0}
IsSubtask (Pre v) = ⊥

-- The lines form a tree: initial tasks and children are actions and compound tasks; a line has a
-- greater number than each line among its children, so that no line stands below itself; no item is
-- a child of two lines; and no initial task is a child of a line below an initial task
pub record IsTree (t : Tree) : Type 0 where
  pub initial_kind : (x : Item) → Contains t.initial_tasks x → IsSubtask x
  pub child_kind : (v : ℕ) (x : Item) → Contains (t.children v) x → IsSubtask x
  pub lower : (v u : ℕ) → Contains (t.children v) (Task u) → u < v
  pub one_parent : (v w : ℕ) (x : Item) → Contains (t.children v) x → Contains (t.children w) x
      → v ≡ w
  pub no_initial_below :
      (c x : Item) (v : ℕ) → Contains t.initial_tasks c → AtOrBelow t c (Task v)
      → Contains (t.children v) x
      → Contains t.initial_tasks x → ⊥

-- The tree that has one line's task as its only initial task: the network of that task alone
abbrev pub line_tree : Tree → ℕ → Tree
line_tree t v = record { initial_tasks = Task v ∷ []; children = t.children }

-- every initial task that is a line has a number below `depth`, and so every line of the tree has:
-- a walk of that many levels from an initial task comes to the end of each branch
abbrev pub IsWithin : Tree → ℕ → Type 0
IsWithin t depth = (u : ℕ) → Contains t.initial_tasks (Task u) → u < depth

-- each of the plan's n actions belongs to the tree
abbrev pub HasActions : Tree → ℕ → Type 0
HasActions t n = (k : ℕ) → k < n → Reached t (Act k)
