-- The least finish of a node of a plan for a start, and how many answers a node has for its starts.
use Rattle.std.specs.Prelude.{◌≡◌, ℕ, zero, suc, ◌/◌, ◌<◌, ◌≤◌, List, [], ◌∷◌, length, Option, Contains}
use Rattle.hv_lists.specs.Lists.{Once}
use Rattle.hv_plan.specs.PlanTrees.{tree_of, root_number}
use Rattle.hv_plan.specs.Trees.{line_tree}
use Rattle.hv_order.specs.Meanings.{free_meaning, listed}
use Rattle.hv_order.specs.Sequences.{CanBePlaced}
use Rattle.hv_order.specs.Settings.{Setting, last, IsMeaning}
use Rattle.hv_order.specs.Tables.{IsLeast}

-- with some candidate for each node, the steps of the whole plan can be placed between two states
abbrev pub PlanCanBePlaced : Setting → ℕ → ℕ → Type 0
PlanCanBePlaced q = CanBePlaced (tree_of q.tree) (IsMeaning q (root_number q.tree)) (IsMeaning q)

-- and so can the steps at and below the line of the node of number v, alone
abbrev pub LineCanBePlaced : Setting → ℕ → ℕ → ℕ → Type 0
LineCanBePlaced q v =
    CanBePlaced (line_tree (tree_of q.tree) v) (listed (free_meaning ∷ [])) (IsMeaning q)

-- The steps of the node of number v can be placed between s and f: those of the root line's node
-- are all steps of the plan, and those of any other node are the steps at and below its line
pub record NodeCanBePlaced (q : Setting) (v s f : ℕ) : Type 0 where
  pub root : v ≡ root_number q.tree → PlanCanBePlaced q s f
  pub line : v < root_number q.tree → LineCanBePlaced q v s f

-- the least finish of the node of number v for the start s, which is at most the last state; there
-- is none where the node's steps cannot be placed between s and the last state
abbrev pub IsLeastFinishOf : Setting → ℕ → ℕ → Option ℕ → Type 0
IsLeastFinishOf q v s o = IsLeast (NodeCanBePlaced q v s) (last q) o

-- so many different answers are there to the starts from 0 to n, where Fit says which finishes a
-- start has and the answer is the least of them; none is counted as one answer
pub record IsNumberOfAnswers (Fit : ℕ → ℕ → Type 0) (n count : ℕ) : Type 0 where
  pub answers : List (Option ℕ)
  pub as_many : length answers ≡ count
  pub once : Once answers
  pub has : (s : ℕ) (o : Option ℕ) → s ≤ n → IsLeast (Fit s) n o → Contains answers o
  pub only : (o : Option ℕ) → Contains answers o → (s : ℕ) × (s ≤ n) × IsLeast (Fit s) n o

-- a number has so many binary digits, or more: one where it is not 0, the others in its half
abbrev pub HasDigits : ℕ → ℕ → Type 0
HasDigits m zero = Unit {0}
HasDigits m (suc k) = (1 ≤ m) × HasDigits (m / 2) k

-- so many runs of starts with one answer were looked at: one or more, and at most as many as the
-- number of different answers has binary digits
pub record IsCounted (Fit : ℕ → ℕ → Type 0) (n looked : ℕ) : Type 0 where
  pub answers : ℕ
  pub is_number : IsNumberOfAnswers Fit n answers
  pub one : 1 ≤ looked
  pub few : HasDigits answers looked
