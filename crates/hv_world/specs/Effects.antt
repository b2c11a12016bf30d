-- What effects bring about.
use Rattle.std.specs.Prelude.{ℕ, Bool, true, false, List, ◌++◌}
use Rattle.hv_world.specs.Values.{Atom, Effect, Effects, becomes, for_each, more_effects}
use Rattle.hv_world.specs.Types.{Typing}
use Rattle.hv_world.specs.Groundings.{AreOf}
use Rattle.hv_world.specs.Bindings.{GroundAtom, atom_under}

-- an effect makes a ground atom true, or false, where the variables around have these objects: as
-- it says itself, or for some objects of the types of its variables, which follow those around, one
-- of its effects does
mutual
  pub data Makes (w : Typing) (b : Bool) : List ℕ → Effect → GroundAtom → Type 0 where
    itself : {env : List ℕ} {a : Atom} → Makes w b env (becomes b a) (atom_under env a)
    for_objects : {env ts : List ℕ} {es : Effects} {g : GroundAtom} (os : List ℕ) → AreOf w os ts
        → SomeMakes w b (env ++ os) es g → Makes w b env (for_each ts es) g

  -- one of these effects makes it so
  pub data SomeMakes (w : Typing) (b : Bool) : List ℕ → Effects → GroundAtom → Type 0 where
    first : {env : List ℕ} {e : Effect} {es : Effects} {g : GroundAtom} → Makes w b env e g
        → SomeMakes w b env (more_effects e es) g
    later : {env : List ℕ} {e : Effect} {es : Effects} {g : GroundAtom} → SomeMakes w b env es g
        → SomeMakes w b env (more_effects e es) g

-- the ground atoms that effects add, and those that they delete, where the variables around have
-- these objects
abbrev pub Adds : Typing → List ℕ → Effects → GroundAtom → Type 0
Adds w env es g = SomeMakes w true env es g

abbrev pub Deletes : Typing → List ℕ → Effects → GroundAtom → Type 0
Deletes w env es g = SomeMakes w false env es g
