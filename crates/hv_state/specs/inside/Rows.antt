-- Atoms as rows of numbers, in order.
use Rattle.std.specs.Prelude.{◌≡◌, ℕ, ◌<◌, ◌≤◌, ◌↔◌, ◌⊎◌, List, [], ◌∷◌, ◌++◌, map, length, Result, Ok, Err, slice_index_or}
use Rattle.std.specs.List.{AllPairs, Contains}
use Rattle.std.specs.Ordering.{nat_cmp}
use Rattle.std.specs.Cmp.Lexicographic.{slice_cmp}
use Rattle.std.specs.declared.cmp.Ordering.TheVariants.{Less}
use Rattle.hv_world.specs.Values.{Atom}
use Rattle.hv_world.specs.Bindings.{GroundAtom, ground_atom, objects_in, object_of}
use Rattle.hv_world.specs.Views.{term_view}
use Rattle.hv_world.specs.declared.binding.Binding.{Binding}
use Rattle.hv_world.specs.declared.formula.Term as code_term
use Rattle.hv_state.specs.declared.rows.Row.{Row}
use Rattle.hv_state.specs.declared.shared.SharedRow.{SharedRow}
use Rattle.hv_state.specs.Atoms.{Atoms, atoms_under, row_of}

-- the atom of a row
abbrev pub atom_of : List ℕ → GroundAtom
atom_of [] = ground_atom 0 []
atom_of (p ∷ os) = ground_atom p os

abbrev pub rows_under : List ℕ → List Atom → List (List ℕ)
rows_under env xs = map row_of (atoms_under env xs)

-- the rows that the code keeps
abbrev pub rows_in : List Row → List (List ℕ)
rows_in rs = map (λ r. r.numbers.items) rs

abbrev pub shared_numbers : SharedRow → List ℕ
shared_numbers r = r.row.value.numbers.items

abbrev pub rows_shared : List SharedRow → List (List ℕ)
rows_shared rs = map shared_numbers rs

-- these rows have come behind the old ones
abbrev pub HaveCome : List Row → List (List ℕ) → List Row → Type 0
HaveCome old more new = rows_in new ≡ rows_in old ++ more

-- the row of some atom of a set
abbrev pub IsRowOf : Atoms → List ℕ → Type 0
IsRowOf S r = (g : GroundAtom) × S g × (row_of g ≡ r)

-- the rows of the atoms of a set have come to the old ones, in whatever order and however often
abbrev pub HaveJoined : List Row → Atoms → List Row → Type 0
HaveJoined old S new = (r : List ℕ)
    → Contains (rows_in new) r ↔ (Contains (rows_in old) r ⊎ IsRowOf S r)

-- these are the rows of the atoms of a set
abbrev pub AreRowsOfAtoms : Atoms → List (List ℕ) → Type 0
AreRowsOfAtoms S rows = (r : List ℕ) → Contains rows r ↔ IsRowOf S r

abbrev pub AreRowsOf : Atoms → List Row → Type 0
AreRowsOf S rows = AreRowsOfAtoms S (rows_in rows)

-- the objects of the terms of the code, where variables have those of a binding
abbrev pub objects_with : Binding → List code_term.Term → List ℕ
objects_with b terms = map (object_of (objects_in b)) (map term_view terms)

-- the atoms whose rows are listed
abbrev pub Listed : List (List ℕ) → Atoms
Listed rows g = Contains rows (row_of g)

-- the one row is below the other: so is its number where they first differ, or it is a part of it
abbrev pub IsBelow : List ℕ → List ℕ → Type 0
IsBelow x y = slice_cmp nat_cmp x y ≡ Less

abbrev pub Ascend : List (List ℕ) → Type 0
Ascend rows = AllPairs IsBelow rows

-- all rows before the place are below the row, and it is below all others
abbrev pub IsGap : List (List ℕ) → List ℕ → ℕ → Type 0
IsGap rows row i = (i ≤ length rows) × ((k : ℕ) → k < i → IsBelow (slice_index_or rows k []) row)
    × ((k : ℕ) → i ≤ k → k < length rows → IsBelow row (slice_index_or rows k []))

-- where a row stands, or else would stand
abbrev pub IsPlace : List (List ℕ) → List ℕ → Result ℕ ℕ → Type 0
IsPlace rows row (Ok i) = (i < length rows) × (slice_index_or rows i [] ≡ row)
IsPlace rows row (Err i) = IsGap rows row i

-- the same rows, in whatever order and however often
abbrev pub HasSameRows : List (List ℕ) → List (List ℕ) → Type 0
HasSameRows old new = (r : List ℕ) → Contains new r ↔ Contains old r

-- the same rows without one, with one, without several, with several
abbrev pub IsWithout : List (List ℕ) → List ℕ → List (List ℕ) → Type 0
IsWithout old row new = (r : List ℕ) → Contains new r ↔ (Contains old r × (r ≡ row → ⊥))

abbrev pub IsWith : List (List ℕ) → List ℕ → List (List ℕ) → Type 0
IsWith old row new = (r : List ℕ) → Contains new r ↔ (Contains old r ⊎ (r ≡ row))

abbrev pub IsWithoutAll : List (List ℕ) → List (List ℕ) → List (List ℕ) → Type 0
IsWithoutAll old rows new = (r : List ℕ) → Contains new r ↔ (Contains old r × (Contains rows r → ⊥))

abbrev pub IsWithAll : List (List ℕ) → List (List ℕ) → List (List ℕ) → Type 0
IsWithAll old rows new = (r : List ℕ) → Contains new r ↔ (Contains old r ⊎ Contains rows r)
