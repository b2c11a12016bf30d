-- The atoms without which a formula is not true, as far as its form shows.
use Rattle.std.specs.Prelude.{List, [], ◌∷◌, ◌++◌}
use Rattle.hv_world.specs.Values.{Atom, Formula, Formulas, holds, and, or, not, imply, forall, exists, equal, no_formulas, more_formulas}

-- an atom is itself needed
abbrev pub needed_alone : Formula → List Atom
needed_alone (holds a) = a ∷ []
needed_alone (and fs) = []
needed_alone (or fs) = []
needed_alone (not f) = []
needed_alone (imply f g) = []
needed_alone (forall ts f) = []
needed_alone (exists ts f) = []
needed_alone (equal s t) = []

-- the atoms of several formulas, where this says those of each
abbrev pub of_parts : (Formula → List Atom) → Formulas → List Atom
of_parts alone no_formulas = []
of_parts alone (more_formulas f fs) = alone f ++ of_parts alone fs

-- and a conjunction needs those atoms that are its parts
abbrev pub needed : Formula → List Atom
needed (holds a) = a ∷ []
needed (and fs) = of_parts needed_alone fs
needed (or fs) = []
needed (not f) = []
needed (imply f g) = []
needed (forall ts f) = []
needed (exists ts f) = []
needed (equal s t) = []
