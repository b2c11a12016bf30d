-- What may be told of a candidate before its precondition is tested: whether the atoms that it
-- needs may be true at all.
use Rattle.std.specs.Prelude.{ℕ, Bool, true, ◌&&◌, List, [], ◌∷◌, length, nat_le, Option, Some, None, if◌then◌else◌}
use Rattle.hv_world.specs.Values.{Atom}
use Rattle.hv_world.specs.Bindings.{atom_under}
use Rattle.hv_state.specs.Ever.{is_listed}

-- where rows are given, among which each atom is that is ever true, the atom has to be one of them,
-- with these objects for the parameters; of an atom with more than three terms nothing is asked
abbrev pub is_possible : Option (List (List ℕ)) → List ℕ → Atom → Bool
is_possible None B a = true
is_possible (Some rows) B a =
    if nat_le (length a.terms) 3 then is_listed rows (atom_under B a) else true

abbrev pub are_possible : Option (List (List ℕ)) → List ℕ → List Atom → Bool
are_possible ever B [] = true
are_possible ever B (a ∷ as') = is_possible ever B a && are_possible ever B as'
