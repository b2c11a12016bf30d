-- The states that a plan passes.
use Rattle.std.specs.Prelude.{ℕ, ◌<◌, List, [], ◌∷◌, take, length, slice_get, IsSomeAnd, MatchOption, Some, None}
use Rattle.std.specs.List.{Contains}
use Rattle.hv_world.specs.Bindings.{GroundAction, objects_in, ground_actions_view}
use Rattle.hv_world.specs.Effects.{Adds, Deletes}
use Rattle.hv_world.specs.Views.{formula_view}
use Rattle.hv_world.specs.WorldViews.{world_view}
use Rattle.hv_world.specs.declared.binding.Binding.{Binding}
use Rattle.hv_world.specs.declared.formula.Formula as code_formula
use Rattle.hv_world.specs.declared.grounding.GroundActions.{GroundActions}
use Rattle.hv_world.specs.declared.world.World as code_world
use Rattle.hv_world.specs.Worlds.{World}
use Rattle.hv_state.specs.Atoms.{Atoms, After, atoms_under}
use Rattle.hv_state.specs.Truth.{True}
use Rattle.hv_state.specs.declared.trace.Stop as code_stop
use Rattle.hv_state.specs.declared.trace.Stop.TheVariants as stops

-- a plan: the world that it is for, and its actions
pub record Plan : Type 0 where
  pub world : World
  pub actions : List GroundAction

abbrev pub plan : World → List GroundAction → Plan
plan w actions = record { world = w; actions = actions }

-- the plan of a world and ground actions of the code
abbrev pub plan_of : code_world.World → GroundActions → Plan
plan_of w actions = plan (world_view w) (ground_actions_view actions)

-- an action is applicable in a state: the world has it, and its precondition is true there
abbrev pub IsApplicableIn : World → Atoms → GroundAction → Type 0
IsApplicableIn w S g =
    IsSomeAnd (slice_get w.actions g.action) (λ a. True w.typing S a.precondition g.objects)

-- what is true after an action, with its objects: all that its effect deletes, and then all that it
-- adds; an action that the world does not have changes nothing
abbrev pub AfterAction : World → Atoms → GroundAction → Atoms
AfterAction w S g =
    elim (slice_get w.actions g.action) [
      | None ↦ S
      | Some a ↦ After S (Deletes w.typing g.objects a.effect)
          (Adds w.typing g.objects a.effect)
    ]

-- what is true after actions, one after another
abbrev pub AfterActions : World → Atoms → List GroundAction → Atoms
AfterActions w S [] = S
AfterActions w S (g ∷ rest) = AfterActions w (AfterAction w S g) rest

-- what is true at the start
abbrev pub Start : World → Atoms
Start w = Contains (atoms_under [] w.init)

-- what is true after the first k actions
abbrev pub StateAt : Plan → ℕ → Atoms
StateAt p k = AfterActions p.world (Start p.world) (take k p.actions)

-- a formula of the code is true after the first k actions, where its variables have the objects of
-- a binding
abbrev pub IsTrueAt : Plan → ℕ → code_formula.Formula → Binding → Type 0
IsTrueAt p k f b = True p.world.typing (StateAt p k) (formula_view f) (objects_in b)

-- the action of number k, from 0, is applicable where it stands
abbrev pub IsApplicable : Plan → ℕ → Type 0
IsApplicable p k = IsSomeAnd (slice_get p.actions k) (IsApplicableIn p.world (StateAt p k))

-- every action is applicable
abbrev pub CanRun : Plan → Type 0
CanRun p = (k : ℕ) → k < length p.actions → IsApplicable p k

-- the action of number k is the first that is not
abbrev pub StopsAt : Plan → ℕ → Type 0
StopsAt p k = (k < length p.actions) × (IsApplicable p k → ⊥) × ((j : ℕ) → j < k → IsApplicable p j)

-- why a plan did not run
abbrev pub IsStop : Plan → code_stop.Stop → Type 0
IsStop p (stops.Inapplicable k) = StopsAt p k
IsStop p stops.Memory = Unit {0}

-- the goal is true at the end of the plan; where there is none, so it is
abbrev pub GoalHolds : Plan → Type 0
GoalHolds p =
    MatchOption p.world.goal (Unit {0})
    (λ f. True p.world.typing (StateAt p (length p.actions)) f [])
