-- Which actions with objects a world has.
use Rattle.std.specs.Prelude.{ℕ, List, MatchOption}
use Rattle.std.specs.List.{AllZip, slice_get}
use Rattle.hv_world.specs.Types.{Typing, Of}
use Rattle.hv_world.specs.Bindings.{GroundAction}
use Rattle.hv_world.specs.Worlds.{World}

-- these are as many objects as types, and each is of its type
abbrev pub AreOf : Typing → List ℕ → List ℕ → Type 0
AreOf w os ts = AllZip (Of w) os ts

-- the world has the action, and its parameters can have these objects
abbrev pub IsGrounding : World → GroundAction → Type 0
IsGrounding w g =
    MatchOption (slice_get w.actions g.action) ⊥ (λ a. AreOf w.typing g.objects a.parameters)
