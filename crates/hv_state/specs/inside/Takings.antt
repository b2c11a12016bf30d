-- Atoms taken one after another into what holds them.
use Rattle.std.specs.Prelude.{List, [], ◌∷◌}
use Rattle.std.specs.List.{Contains}
use Rattle.hv_world.specs.Bindings.{GroundAtom}
use Rattle.hv_state.specs.Atoms.{Atoms, Same}

-- these atoms have been taken, one after another, where `takes` says what it is to take one
pub data TakenInTurn {X : Type 0} (takes : GroundAtom → X → X → Type 0) : List GroundAtom → X → X
    → Type 0 where
  no_more : {x : X} → TakenInTurn takes [] x x
  one_more : {g : GroundAtom} {gs : List GroundAtom} {x y z : X} → takes g x y
      → TakenInTurn takes gs y z → TakenInTurn takes (g ∷ gs) x z

-- the atoms of a set have been taken, in whatever order and however often
abbrev pub HaveBeenTaken : {X : Type 0} → (GroundAtom → X → X → Type 0) → Atoms → X → X → Type 0
HaveBeenTaken takes S x y = (gs : List GroundAtom) × Same (Contains gs) S × TakenInTurn takes gs x y
