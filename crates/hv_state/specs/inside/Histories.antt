-- The changes of atoms as the code keeps them, and the next of them.
use Rattle.std.specs.Prelude.{◌≡◌, ℕ, ◌<◌, ◌≤◌, ◌/◌, ◌%◌, ◌⊎◌, Bool, true, false, nat_eq, nat_le, length, List, [], ◌∷◌, ◌++◌, map, bytes_eq, option_to_list, AllPairs, All, if◌then◌else◌}
use Rattle.std.specs.List.{Contains}
use Rattle.std.specs.List.Sorted.{IsPartitionPoint}
use Rattle.hv_world.specs.Bindings.{GroundAtom}
use Rattle.hv_state.specs.Atoms.{row_of}
use Rattle.hv_state.specs.Changes.{Change}
use Rattle.hv_state.specs.inside.Bits.{Has}
use Rattle.hv_state.specs.inside.Rows.{atom_of, Ascend}
use Rattle.hv_state.specs.declared.history.Change as code_change
use Rattle.hv_state.specs.declared.history.History as code_history

-- the rows of atoms, and beside each the changes of its atom
abbrev pub Table : Type 0
Table = List (List ℕ × List Change)

abbrev pub beside : Table → List ℕ → List Change
beside [] row = []
beside (e ∷ es) row = if bytes_eq row e.0 then e.1 else beside es row

abbrev pub rows_of : Table → List (List ℕ)
rows_of t = map (λ e. e.0) t

-- the changes of an atom, as they are kept
abbrev pub kept : Table → GroundAtom → List Change
kept t g = beside t (row_of g)

-- indices rise
abbrev pub Rise : List Change → Type 0
Rise cs = AllPairs (λ c d. c.0 < d.0) cs

pub record IsTable (t : Table) : Type 0 where
  pub rows : Ascend (rows_of t)
  pub lists : All (λ e. Rise e.1) t

-- a change's number is twice the index from which on, and one more where the atom is true then
abbrev pub index_of : code_change.Change → ℕ
index_of c = c.number / 2

abbrev pub truth_of : code_change.Change → Bool
truth_of c = nat_eq (c.number % 2) 1

abbrev pub change_view : code_change.Change → Change
change_view c = (index_of c, truth_of c)

-- the changes of a history: the last one stands behind those before it
abbrev pub in_order : code_history.History → List code_change.Change
in_order h = h.earlier.items ++ option_to_list h.last

abbrev pub changes_of : code_history.History → List Change
changes_of h = map change_view (in_order h)

abbrev pub history_view : code_history.History → List ℕ × List Change
history_view h = (h.row.numbers.items, changes_of h)

-- each predicate of these rows has its bit
abbrev pub AreFlagged : List ℕ → List (List ℕ) → Type 0
AreFlagged flags rows = (r : List ℕ) → Contains rows r → Has flags (atom_of r).predicate

-- so many changes are up to an index, and those behind them are after it
abbrev pub ArePast : List code_change.Change → ℕ → ℕ → Type 0
ArePast cs k past = (past ≤ length cs)
    × IsPartitionPoint (λ c. nat_le (index_of c) k ≡ true)
    (λ c. nat_le (index_of c) k ≡ false) cs past

-- j is the first index after k at which one of these changes is, or else the end
pub record IsNextIn (cs : List Change) (k end j : ℕ) : Type 0 where
  pub after : k < j
  pub within : j ≤ end
  pub quiet : (c : Change) → Contains cs c → k < c.0 → j ≤ c.0
  pub change : j < end → (c : Change) × Contains cs c × (c.0 ≡ j)

-- the same of the changes of all these atoms
pub record IsNext (t : Table) (k end : ℕ) (M : GroundAtom → Type 0) (j : ℕ) : Type 0 where
  pub after : k < j
  pub within : j ≤ end
  pub quiet : (g : GroundAtom) → M g → (c : Change) → Contains (kept t g) c → k < c.0 → j ≤ c.0
  pub change : j < end → (g : GroundAtom) × M g × ((c : Change) × Contains (kept t g) c × (c.0 ≡ j))

-- the one of two numbers that is not above the other
abbrev pub IsLeast : ℕ → ℕ → ℕ → Type 0
IsLeast a b c = (c ≤ a) × (c ≤ b) × ((c ≡ a) ⊎ (c ≡ b))
