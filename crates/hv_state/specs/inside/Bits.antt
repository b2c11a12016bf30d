-- Sets of atoms as rows of bits.
use Rattle.std.specs.Prelude.{◌≡◌, ℕ, ◌≤◌, ◌*◌, ◌/◌, ◌%◌, ◌↔◌, ◌⊎◌, List, length, slice_index}
use Rattle.std.specs.List.{Contains}
use Rattle.std.specs.Int.{bit_at}
use Rattle.hv_state.specs.Atoms.{Atoms, row_of}
use Rattle.hv_state.specs.inside.Rows.{Ascend}

-- the bit of i is set; 64 bits stand in a word, and behind the last word none is set
abbrev pub Has : List ℕ → ℕ → Type 0
Has words i = bit_at (slice_index words (i / 64)) (i % 64) ≡ 1

-- the rows of atoms, the i-th of which has the i-th bit, and the words of the bits
abbrev pub Bits : Type 0
Bits = List (List ℕ) × List ℕ

-- the row has a bit, and it is set
abbrev pub Lit : Bits → List ℕ → Type 0
Lit b row = (m : Contains b.0 row) × Has b.1 m.0

abbrev pub Shown : Bits → Atoms
Shown b g = Lit b (row_of g)

-- the rows whose bits are set are these
abbrev pub AreThoseLit : Bits → List (List ℕ) → Type 0
AreThoseLit b rows = (r : List ℕ) → Contains rows r ↔ Lit b r

-- the same bits are set, and that of a row, or those of rows, too; or not these
abbrev pub IsLit : List (List ℕ) → List ℕ → List ℕ → List ℕ → Type 0
IsLit rows old row new = (r : List ℕ) → Lit (rows, new) r ↔ (Lit (rows, old) r ⊎ (r ≡ row))

abbrev pub IsDark : List (List ℕ) → List ℕ → List ℕ → List ℕ → Type 0
IsDark rows old row new = (r : List ℕ) → Lit (rows, new) r ↔ (Lit (rows, old) r × (r ≡ row → ⊥))

abbrev pub AreLit : List (List ℕ) → List ℕ → List (List ℕ) → List ℕ → Type 0
AreLit rows old more new = (r : List ℕ) → Lit (rows, new) r ↔ (Lit (rows, old) r ⊎ Contains more r)

abbrev pub AreDark : List (List ℕ) → List ℕ → List (List ℕ) → List ℕ → Type 0
AreDark rows old gone new = (r : List ℕ)
    → Lit (rows, new) r ↔ (Lit (rows, old) r × (Contains gone r → ⊥))

-- the bits of deletes cleared, and then those of adds set
abbrev pub IsChanged : List (List ℕ) → List ℕ → List (List ℕ) → List (List ℕ) → List ℕ → Type 0
IsChanged rows old deletes adds new = (r : List ℕ)
    → Lit (rows, new) r ↔ ((Lit (rows, old) r × (Contains deletes r → ⊥)) ⊎ Contains adds r)

-- new are the rows of more that others lack
pub record AreLacking (rows more new : List (List ℕ)) : Type 0 where
  pub all : (r : List ℕ) → Contains more r → Contains rows r ⊎ Contains new r
  pub apart : (r : List ℕ) → Contains new r → Contains rows r → ⊥

-- each of these rows has a bit
abbrev pub Knows : List (List ℕ) → List (List ℕ) → Type 0
Knows rows more = (r : List ℕ) → Contains more r → Contains rows r

-- the rows are in order, and there is a bit for each
pub record AreBits (rows : List (List ℕ)) (words : List ℕ) : Type 0 where
  pub order : Ascend rows
  pub room : length rows ≤ 64 * length words
