-- Formulas and effects that do not speak of a variable.
use Rattle.std.specs.Prelude.{◌≡◌, ℕ, All}
use Rattle.hv_world.specs.Values.{Term, object, variable, Formula, Formulas, holds, and, or, not, imply, forall, exists, equal, no_formulas, more_formulas}
use Rattle.hv_world.specs.Values.{Effect, Effects, becomes, for_each, no_effects, more_effects}

-- the term is not the variable
abbrev pub IsOther : ℕ → Term → Type 0
IsOther v (object o) = Unit {0}
IsOther v (variable u) = u ≡ v → ⊥

-- no term in the formula is the variable
module _ (v : ℕ) where
  abbrev mutual
    pub Lacks : Formula → Type 0
    Lacks (holds a) = All (IsOther v) a.terms
    Lacks (and fs) = LackAll fs
    Lacks (or fs) = LackAll fs
    Lacks (not f) = Lacks f
    Lacks (imply f g) = Lacks f × Lacks g
    Lacks (forall ts f) = Lacks f
    Lacks (exists ts f) = Lacks f
    Lacks (equal s t) = IsOther v s × IsOther v t

    pub LackAll : Formulas → Type 0
    LackAll no_formulas = Unit {0}
    LackAll (more_formulas f fs) = Lacks f × LackAll fs

-- the same of effects
module _ (v : ℕ) where
  abbrev mutual
    pub EffectLacks : Effect → Type 0
    EffectLacks (becomes b a) = All (IsOther v) a.terms
    EffectLacks (for_each ts es) = EffectsLack es

    pub EffectsLack : Effects → Type 0
    EffectsLack no_effects = Unit {0}
    EffectsLack (more_effects e es) = EffectLacks e × EffectsLack es
