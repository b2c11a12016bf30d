-- Literals over names alone.
use Rattle.std.specs.Prelude.{◌&&◌, Bool, true, false, List, [], ◌∷◌}
use Rattle.hv_syntax.specs.Values.{Term, constant, variable}

-- whether a term is a name
abbrev pub is_constant : Term → Bool
is_constant (constant w) = true
is_constant (variable w) = false

-- whether all terms are names
abbrev pub are_constants : List Term → Bool
are_constants [] = true
are_constants (x ∷ xs) = is_constant x && are_constants xs
