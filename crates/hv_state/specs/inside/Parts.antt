-- Truth, and what is spoken of, for what a formula of the code has for parts, and what is made so
-- for what an effect has.
use Rattle.std.specs.Prelude.{◌≡◌, ℕ, Bool, List, [], map}
use Rattle.hv_world.specs.Bindings.{GroundAtom, objects_in}
use Rattle.hv_world.specs.Types.{Typing}
use Rattle.hv_world.specs.Values.{formulas_of, effects_of}
use Rattle.hv_world.specs.Views.{formula_view, effect_view, type_number}
use Rattle.hv_world.specs.WorldViews.{world_view}
use Rattle.hv_world.specs.declared.binding.Binding.{Binding}
use Rattle.hv_world.specs.declared.effect.Effect.{Effect}
use Rattle.hv_world.specs.declared.formula.Formula.{Formula}
use Rattle.hv_world.specs.declared.id.TypeId.{TypeId}
use Rattle.hv_world.specs.declared.world.World.{World}
use Rattle.hv_state.specs.Atoms.{Atoms}
use Rattle.hv_state.specs.Truth.{True, AllTrue, SomeTrue, ForEach, ForSome}
use Rattle.hv_state.specs.Changes.{Mentions, SomeMention}
use Rattle.hv_state.specs.inside.Histories.{Table, kept}
use Rattle.hv_state.specs.inside.Makings.{IsMadeBy, IsMadeBySome}

-- all of the formulas are true, or some of them
abbrev pub AreAllTrueIn : World → Atoms → List Formula → Binding → Type 0
AreAllTrueIn w S fs b =
    AllTrue (world_view w).typing S (formulas_of (map formula_view fs)) (objects_in b)

abbrev pub IsSomeTrueIn : World → Atoms → List Formula → Binding → Type 0
IsSomeTrueIn w S fs b =
    SomeTrue (world_view w).typing S (formulas_of (map formula_view fs)) (objects_in b)

-- the formula is true whichever objects of these types the next variables have, or for some of them
abbrev pub IsTrueForEach : World → Atoms → Formula → List TypeId → Binding → Type 0
IsTrueForEach w S f ts b =
    ForEach (world_view w).typing (True (world_view w).typing S (formula_view f))
    (map type_number ts) (objects_in b)

abbrev pub IsTrueForSome : World → Atoms → Formula → List TypeId → Binding → Type 0
IsTrueForSome w S f ts b =
    ForSome (world_view w).typing (True (world_view w).typing S (formula_view f))
    (map type_number ts) (objects_in b)

-- the atoms that the formula speaks of, or some of the formulas, or it where the next variables
-- have objects of these types
abbrev pub SpokenOf : World → Formula → Binding → GroundAtom → Type 0
SpokenOf w f b g = Mentions (world_view w).typing g (formula_view f) (objects_in b)

abbrev pub SpokenOfBySome : World → List Formula → Binding → GroundAtom → Type 0
SpokenOfBySome w fs b g =
    SomeMention (world_view w).typing g (formulas_of (map formula_view fs)) (objects_in b)

abbrev pub SpokenOfForSome : World → Formula → List TypeId → Binding → GroundAtom → Type 0
SpokenOfForSome w f ts b g =
    ForSome (world_view w).typing (Mentions (world_view w).typing g (formula_view f))
    (map type_number ts) (objects_in b)

-- no atom has changes that the formula speaks of, or some of the formulas, whatever objects there
-- are and the variables have
abbrev pub IsStill : Table → Formula → Type 0
IsStill t f = (types : Typing) (env : List ℕ) (g : GroundAtom)
    → Mentions types g (formula_view f) env → kept t g ≡ []

abbrev pub AreStill : Table → List Formula → Type 0
AreStill t fs = (types : Typing) (env : List ℕ) (g : GroundAtom)
    → SomeMention types g (formulas_of (map formula_view fs)) env → kept t g ≡ []

-- the atoms that an effect of the code makes true, or false, or some of several effects, or they
-- where the next variables have objects of these types
abbrev pub MadeBy : World → Bool → Effect → Binding → Atoms
MadeBy w is_true e b g = IsMadeBy (world_view w).typing is_true g (effect_view e) (objects_in b)

abbrev pub MadeBySome : World → Bool → List Effect → Binding → Atoms
MadeBySome w is_true es b g =
    IsMadeBySome (world_view w).typing is_true g (effects_of (map effect_view es)) (objects_in b)

abbrev pub MadeForSome : World → Bool → List Effect → List TypeId → Binding → Atoms
MadeForSome w is_true es ts b g =
    ForSome (world_view w).typing
    (IsMadeBySome (world_view w).typing is_true g (effects_of (map effect_view es)))
    (map type_number ts) (objects_in b)

-- no atom is made true, or false, by an effect, or by some of several effects, whatever objects
-- there are and the variables have
abbrev pub MakesNothing : Bool → Effect → Type 0
MakesNothing is_true e = (types : Typing) (env : List ℕ) (g : GroundAtom)
    → IsMadeBy types is_true g (effect_view e) env → ⊥

abbrev pub MakeNothing : Bool → List Effect → Type 0
MakeNothing is_true es = (types : Typing) (env : List ℕ) (g : GroundAtom)
    → IsMadeBySome types is_true g (effects_of (map effect_view es)) env → ⊥
