-- Sets of atoms without variables, which states are.
use Rattle.std.specs.Prelude.{◌≡◌, ℕ, ◌<◌, ◌≤◌, ◌↔◌, ◌⊎◌, List, [], ◌∷◌, ◌++◌, map}
use Rattle.hv_world.specs.Values.{Atom}
use Rattle.hv_world.specs.Views.{term_view}
use Rattle.hv_world.specs.Bindings.{GroundAtom, ground_atom, atom_under, objects_in, object_of}
use Rattle.hv_state.specs.declared.atom.AtomView.{AtomView}
use Rattle.hv_state.specs.declared.atom.Objects.{Objects}
use Rattle.hv_state.specs.declared.atom.Objects.TheVariants.{OfTerms, Given, OfRow}

-- a set of atoms without variables, by which are in it
abbrev pub Atoms : Type 1
Atoms = GroundAtom → Type 0

-- two sets have the same atoms
abbrev pub Same : Atoms → Atoms → Type 0
Same S T = (g : GroundAtom) → S g ↔ T g

-- atoms, with the objects that their terms stand for
abbrev pub atoms_under : List ℕ → List Atom → List GroundAtom
atoms_under env xs = map (atom_under env) xs

-- what is true after all deletes and then all adds: an atom both deleted and added is true
abbrev pub After : Atoms → Atoms → Atoms → Atoms
After S deletes adds g = (S g × (deletes g → ⊥)) ⊎ adds g

-- the objects, and the atom, that the code reads
abbrev pub objects_read : Objects → List ℕ
objects_read (OfTerms terms binding) =
    map (object_of (objects_in binding.now)) (map term_view terms.now)
objects_read (Given numbers) = numbers.now
objects_read (OfRow numbers) = numbers.now

abbrev pub atom_read : AtomView → GroundAtom
atom_read v = ground_atom v.predicate.0 (objects_read v.objects)

-- with other last objects, from its own on up to before a number, an atom is not in the set
abbrev pub IsPassedOver : Atoms → GroundAtom → ℕ → Type 0
IsPassedOver S g until = (os : List ℕ) (o n : ℕ) → g.objects ≡ os ++ o ∷ [] → o ≤ n → n < until
    → S (ground_atom g.predicate (os ++ n ∷ [])) → ⊥

-- an atom as a row: its predicate, and then its objects
abbrev pub row_of : GroundAtom → List ℕ
row_of g = g.predicate ∷ g.objects
