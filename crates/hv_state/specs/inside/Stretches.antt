-- Which rows are those of atoms that are true somewhere in a stretch of states.
use Rattle.std.specs.Prelude.{ℕ, suc, ◌/◌, ◌%◌, Bool, false, ◌||◌, ◌&&◌, List, [], ◌∷◌, Option, Some, None, nat_eq, nat_lt, bytes_eq, slice_index}
use Rattle.std.specs.Int.{bit_at}
use Rattle.hv_state.specs.Changes.{Change, told}
use Rattle.hv_state.specs.inside.Bits.{Bits}

-- whether the bit of a row is set, where the first of these rows has the i-th
abbrev pub is_lit_from : List (List ℕ) → List ℕ → ℕ → List ℕ → Bool
is_lit_from [] words i row = false
is_lit_from (r ∷ rows) words i row =
    (bytes_eq row r && nat_eq (bit_at (slice_index words (i / 64)) (i % 64)) 1)
    || is_lit_from rows words (suc i) row

abbrev pub is_lit : Bits → List ℕ → Bool
is_lit b row = is_lit_from b.0 b.1 0 row

-- whether a change is behind an index, and before an end
abbrev pub turns_in : ℕ → ℕ → List Change → Bool
turns_in from end [] = false
turns_in from end (c ∷ cs) = (nat_lt from c.0 && nat_lt c.0 end) || turns_in from end cs

-- what was said, or else what was so at the start
abbrev pub or_start : Bool → Option Bool → Bool
or_start b None = b
or_start b (Some said) = said

-- whether an atom is true at an index, or turns behind it, before an end: b says whether it was
-- true at the start
abbrev pub is_true_in : Bool → ℕ → ℕ → List Change → Bool
is_true_in b from end cs = or_start b (told from cs) || turns_in from end cs
