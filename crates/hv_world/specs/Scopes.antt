-- The variables in scope.
use Rattle.std.specs.Prelude.{ℕ, ◌+◌, Bool, ◌||◌, List, length, Option, Some, None, is_some}
use Rattle.hv_world.specs.Names.{place_in}

-- the parameters of a section, by how many there are and the number of each, or the variables of a
-- quantifier inside a scope
pub data Scope : Type 0 where
  outer : ℕ → (List ℕ → Option ℕ) → Scope
  inside : Scope → List (List ℕ) → Scope

abbrev pub parameters : List (List ℕ) → Scope
parameters ns = outer (length ns) (place_in ns)

-- how many variables are in scope
abbrev pub size : Scope → ℕ
size (outer k number) = k
size (inside s ns) = size s + length ns

-- the number of a variable: one of the innermost quantifier hides one of its name further out
abbrev pub variable_in : Scope → List ℕ → Option ℕ
variable_in (outer k number) n = number n
variable_in (inside s ns) n =
    elim (place_in ns n) [ None ↦ variable_in s n | Some i ↦ Some (size s + i) ]

-- a variable is in scope
abbrev pub is_bound : Scope → List ℕ → Bool
is_bound (outer k number) n = is_some (number n)
is_bound (inside s ns) n = is_some (place_in ns n) || is_bound s n
