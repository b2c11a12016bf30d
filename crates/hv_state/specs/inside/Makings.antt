-- What effects make true or false, by cases on the effect.
use Rattle.std.specs.Prelude.{◌≡◌, ◌⊎◌, ℕ, Bool, List}
use Rattle.hv_world.specs.Bindings.{GroundAtom, atom_under}
use Rattle.hv_world.specs.Types.{Typing}
use Rattle.hv_world.specs.Values.{Effect, Effects, becomes, for_each, no_effects, more_effects}
use Rattle.hv_state.specs.Truth.{ForSome}

-- the effect makes the atom true, or false, where the variables have these objects; or some of
-- several effects do
module _ (w : Typing) (b : Bool) (g : GroundAtom) where
  abbrev mutual
    pub IsMadeBy : Effect → List ℕ → Type 0
    IsMadeBy (becomes c a) env = (c ≡ b) × (atom_under env a ≡ g)
    IsMadeBy (for_each ts es) env = ForSome w (IsMadeBySome es) ts env

    pub IsMadeBySome : Effects → List ℕ → Type 0
    IsMadeBySome no_effects env = ⊥
    IsMadeBySome (more_effects e es) env = IsMadeBy e env ⊎ IsMadeBySome es env
