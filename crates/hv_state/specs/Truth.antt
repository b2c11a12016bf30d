-- When a formula is true in a state, by cases on the formula.
use Rattle.std.specs.Prelude.{◌≡◌, ℕ, ◌⊎◌, List, [], ◌∷◌, ◌++◌}
use Rattle.hv_world.specs.Values.{Formula, Formulas, holds, and, or, not, imply, forall, exists, equal, no_formulas, more_formulas}
use Rattle.hv_world.specs.Types.{Typing, Of}
use Rattle.hv_world.specs.Views.{formula_view}
use Rattle.hv_world.specs.WorldViews.{world_view}
use Rattle.hv_world.specs.declared.binding.Binding.{Binding}
use Rattle.hv_world.specs.declared.formula.Formula as code_formula
use Rattle.hv_world.specs.declared.world.World as code_world
use Rattle.hv_world.specs.Bindings.{atom_under, objects_in, object_of}
use Rattle.hv_state.specs.Atoms.{Atoms}

-- it is so, or it is not
abbrev pub IsDecided : Type 0 → Type 0
IsDecided P = P ⊎ (P → ⊥)

-- P holds whichever objects of these types follow env
abbrev pub ForEach : Typing → (List ℕ → Type 0) → List ℕ → List ℕ → Type 0
ForEach w P [] env = P env
ForEach w P (t ∷ ts) env = (o : ℕ) → Of w o t → ForEach w P ts (env ++ o ∷ [])

-- P holds for some objects of these types that follow env
abbrev pub ForSome : Typing → (List ℕ → Type 0) → List ℕ → List ℕ → Type 0
ForSome w P [] env = P env
ForSome w P (t ∷ ts) env = (o : ℕ) × Of w o t × ForSome w P ts (env ++ o ∷ [])

module _ (w : Typing) (S : Atoms) where
  abbrev mutual
    -- the formula is true, where the variables have these objects
    pub True : Formula → List ℕ → Type 0
    True (holds a) env = S (atom_under env a)
    True (and fs) env = AllTrue fs env
    True (or fs) env = SomeTrue fs env
    True (not f) env = True f env → ⊥
    True (imply f g) env = True f env → True g env
    True (forall ts f) env = ForEach w (True f) ts env
    True (exists ts f) env = ForSome w (True f) ts env
    True (equal s t) env = object_of env s ≡ object_of env t

    pub AllTrue : Formulas → List ℕ → Type 0
    AllTrue no_formulas env = Unit {0}
    AllTrue (more_formulas f fs) env = True f env × AllTrue fs env

    pub SomeTrue : Formulas → List ℕ → Type 0
    SomeTrue no_formulas env = ⊥
    SomeTrue (more_formulas f fs) env = True f env ⊎ SomeTrue fs env

-- the same of a formula, a world and a binding of the code
abbrev pub IsTrueIn : code_world.World → Atoms → code_formula.Formula → Binding → Type 0
IsTrueIn w S f b = True (world_view w).typing S (formula_view f) (objects_in b)
