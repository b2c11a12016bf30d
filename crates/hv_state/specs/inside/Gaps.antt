-- Which objects need not be tried, since an atom that a formula needs is false with them.
use Rattle.std.specs.Prelude.{◌≡◌, ℕ, ◌<◌, ◌≤◌, List, [], ◌∷◌, ◌++◌, map, Option, IsSomeAnd}
use Rattle.std.specs.List.{Contains}
use Rattle.hv_world.specs.Values.{Term, Atom, Formula, holds, and, or, not, imply, forall, exists, equal}
use Rattle.hv_world.specs.Bindings.{object_of, atom_under}
use Rattle.hv_state.specs.Atoms.{Atoms}
use Rattle.hv_state.specs.Needed.{needed, of_parts}
use Rattle.hv_state.specs.declared.gap.Gap.{Gap}

-- an atom without which a negation is true
abbrev pub denied_alone : Formula → List Atom
denied_alone (holds a) = []
denied_alone (and fs) = []
denied_alone (or fs) = []
denied_alone (not f) = needed f
denied_alone (imply f g) = []
denied_alone (forall ts f) = []
denied_alone (exists ts f) = []
denied_alone (equal s t) = []

-- the atoms without which a formula is true, as far as its form shows: those that its premise
-- needs, or what it says is not so
abbrev pub denied : Formula → List Atom
denied (holds a) = []
denied (and fs) = []
denied (or fs) = of_parts denied_alone fs
denied (not f) = needed f
denied (imply f g) = needed f
denied (forall ts f) = []
denied (exists ts f) = []
denied (equal s t) = []

-- whatever objects more variables have, the term stands for one and the same
abbrev pub IsBound : List ℕ → Term → Type 0
IsBound env t = (more : List ℕ) → object_of (env ++ more) t ≡ object_of env t

-- it is the next variable
abbrev pub IsNext : List ℕ → Term → Type 0
IsNext env t = (n : ℕ) (more : List ℕ) → object_of ((env ++ n ∷ []) ++ more) t ≡ n

-- the next variable is the atom's last term, and all others stand for objects
abbrev pub EndsIn : List ℕ → Atom → Type 0
EndsIn env a = (os : List ℕ)
    × ((n : ℕ) (more : List ℕ) → map (object_of ((env ++ n ∷ []) ++ more)) a.terms ≡ os ++ n ∷ [])

-- one of these atoms that ends so
abbrev pub IsGuide : List ℕ → List Atom → Atom → Type 0
IsGuide env atoms a = EndsIn env a × Contains atoms a

-- with the numbers of a gap for the next variable, the atom is false
abbrev pub IsGap : Atoms → List ℕ → Option Atom → Gap → Type 0
IsGap S env guide gap = (n : ℕ) → gap.from ≤ n → n < gap.until
    → IsSomeAnd guide (λ a. (more : List ℕ) → S (atom_under ((env ++ n ∷ []) ++ more) a) → ⊥)
