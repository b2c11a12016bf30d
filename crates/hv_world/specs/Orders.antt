-- The order of a network's subtasks.
use Rattle.std.specs.Prelude.{ℕ, ◌≡◌, ◌+◌, ◌<◌, ◌⊎◌, ◌↔◌, Bool, true, false, List, length, Contains, slice_index}
use Rattle.hv_lists.specs.Lists.{Once}

-- what is written of the order: how many subtasks there are, whether the form orders them as
-- written, and the pairs
pub record Written : Type 0 where
  pub len : ℕ
  pub is_ordered : Bool
  pub pairs : List (ℕ × ℕ)

abbrev pub written : ℕ → Bool → List (ℕ × ℕ) → Written
written n b ps = record { len = n; is_ordered = b; pairs = ps }

-- one subtask is paired with a later one
abbrev pub IsPaired : Written → ℕ → ℕ → Type 0
IsPaired n i j = Contains n.pairs (i, j) ⊎ ((n.is_ordered ≡ true) × (i < j) × (j < n.len))

-- one or more pairs lead from one to the other
pub data Leads (Paired : ℕ → ℕ → Type 0) : ℕ → ℕ → Type 0 where
  one_step : {i j : ℕ} → Paired i j → Leads Paired i j
  more_steps : {i k j : ℕ} → Paired i k → Leads Paired k j → Leads Paired i j

-- one subtask comes before another
abbrev pub Before : Written → ℕ → ℕ → Type 0
Before n = Leads (IsPaired n)

-- some number comes before itself
abbrev pub HasCycle : (ℕ → ℕ → Type 0) → Type 0
HasCycle Paired = (i : ℕ) × Leads Paired i i

-- some subtask comes before itself
abbrev pub IsCyclic : Written → Type 0
IsCyclic n = HasCycle (IsPaired n)

-- the numbers below `len` stand in a row, each once, and none behind one that it comes before
pub record IsRow (Comes : ℕ → ℕ → Type 0) (len : ℕ) (xs : List ℕ) : Type 0 where
  pub within : (i : ℕ) → Contains xs i → i < len
  pub whole : (i : ℕ) → i < len → Contains xs i
  pub once : Once xs
  pub in_order : (p q : ℕ) → p < length xs → q < length xs
      → Comes (slice_index xs p) (slice_index xs q) → p < q

-- the subtasks stand in a row as their order allows
abbrev pub IsArrangement : Written → List ℕ → Type 0
IsArrangement n xs = IsRow (Before n) n.len xs

-- one subtask stands directly before another: in the ordered form in front of it, and otherwise by
-- a pair
abbrev pub IsDirect : Written → ℕ → ℕ → Type 0
IsDirect n i j = ((n.is_ordered ≡ true) × (i + 1 ≡ j) × (j < n.len))
    ⊎ ((n.is_ordered ≡ false) × Contains n.pairs (i, j))

-- these stand directly before j, each comes before it, and whatever else comes before j comes
-- before one of them
pub record AreDirect (n : Written) (j : ℕ) (xs : List ℕ) : Type 0 where
  pub direct : (i : ℕ) → Contains xs i ↔ IsDirect n i j
  pub sound : (i : ℕ) → Contains xs i → Before n i j
  pub whole : (i : ℕ) → Before n i j → Contains xs i ⊎ ((r : ℕ) × Contains xs r × Before n i r)
