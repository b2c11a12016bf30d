-- What may be chosen for each node of the tree, that is for each line and for the root.
use Rattle.std.specs.Prelude.{◌≡◌, ℕ, Bool, true, false, List, Contains}
use Rattle.hv_plan.specs.Trees.{Item, Task, Tree, Reached}

-- What a candidate of a node amounts to. A candidate is a matching of the node's children to the
-- subtasks of its method, with an object for each parameter. Two things of it matter to the order
-- of steps: which children must come before which, and in which states the method's precondition is
-- true. `before` holds also of pairs that follow from written ones. A state is named by the number
-- of actions that lead to it from the initial state. The root has no precondition: the `true_at` of
-- its meaning is never asked
pub record Meaning : Type 0 where
  pub before : Item → Item → Bool
  pub true_at : ℕ → Bool

-- a candidate for the root and one for each line
pub record Choice : Type 0 where
  pub root : Meaning
  pub line : ℕ → Meaning

-- `before` is a strict partial order on the members of a list
pub record IsOrder (xs : List Item) (before : Item → Item → Bool) : Type 0 where
  pub strict : (x : Item) → Contains xs x → before x x ≡ true → ⊥
  pub passed :
      (x y z : Item) → Contains xs x → Contains xs y → Contains xs z → before x y ≡ true
      → before y z ≡ true
      → before x z ≡ true

-- the choice orders the children of each node of the tree
pub record AreOrders (t : Tree) (o : Choice) : Type 0 where
  pub of_root : IsOrder t.initial_tasks o.root.before
  pub of_lines : (v : ℕ) → Reached t (Task v) → IsOrder (t.children v) (o.line v).before

-- whatever may be chosen for a node orders the node's children
pub record AreMeanings (t : Tree) (roots : Meaning → Type 0)
    (lines : ℕ → Meaning → Type 0) : Type 0 where
  pub of_root : (c : Meaning) → roots c → IsOrder t.initial_tasks c.before
  pub of_lines : (v : ℕ) (c : Meaning) → lines v c → IsOrder (t.children v) c.before

-- the choice takes for each node of the tree one of those that may be chosen
pub record IsChoice (t : Tree) (roots : Meaning → Type 0) (lines : ℕ → Meaning → Type 0)
    (o : Choice) : Type 0 where
  pub of_root : roots o.root
  pub of_lines : (v : ℕ) → Reached t (Task v) → lines v (o.line v)

-- one of those that may be chosen, and a fact about it
pub record WithSome (Is : Meaning → Type 0) (P : Meaning → Type 0) : Type 0 where
  pub meaning : Meaning
  pub listed : Is meaning
  pub fact : P meaning

-- nothing is ordered, and the precondition is always true
abbrev pub free_meaning : Meaning
free_meaning = record { before = λ x y. false; true_at = λ k. true }

-- those of a list, and those of a list for each line
abbrev pub listed : List Meaning → Meaning → Type 0
listed cs c = Contains cs c

abbrev pub listed_for : (ℕ → List Meaning) → ℕ → Meaning → Type 0
listed_for lines v c = Contains (lines v) c
