-- The objects of variables, and actions with their objects.
use Rattle.std.specs.Prelude.{ℕ, List, [], ◌∷◌, ◌++◌, map, slice_index_or}
use Rattle.hv_world.specs.Values.{Term, object, variable, Atom}
use Rattle.hv_world.specs.declared.id.ObjectId.{ObjectId}
use Rattle.hv_world.specs.declared.binding.Binding.{Binding, Given, With'}
use Rattle.hv_world.specs.declared.grounding.GroundAction as code
use Rattle.hv_world.specs.declared.grounding.GroundActions.{GroundActions}
use Rattle.hv_world.specs.declared.id.ActionId.{ActionId}

abbrev pub object_number : ObjectId → ℕ
object_number o = o.0

-- the objects of the variables, in the order of their numbers
abbrev pub objects_in : Binding → List ℕ
objects_in (Given os) = map object_number os.now
objects_in (With' p b o) = objects_in b ++ object_number o ∷ []

-- the object of a term; a variable that has none reads as object 0
abbrev pub object_of : List ℕ → Term → ℕ
object_of env (object o) = o
object_of env (variable v) = slice_index_or env v 0

-- a predicate's number, and the numbers of its objects
pub record GroundAtom : Type 0 where
  pub predicate : ℕ
  pub objects : List ℕ

abbrev pub ground_atom : ℕ → List ℕ → GroundAtom
ground_atom p os = record { predicate = p; objects = os }

-- an atom, with the objects that its terms stand for
abbrev pub atom_under : List ℕ → Atom → GroundAtom
atom_under env a = ground_atom a.predicate (map (object_of env) a.terms)

-- an action, and the objects of its parameters
pub record GroundAction : Type 0 where
  pub action : ℕ
  pub objects : List ℕ

abbrev pub ground_action : ℕ → List ℕ → GroundAction
ground_action a os = record { action = a; objects = os }

abbrev pub ground_action_view : code.GroundAction → GroundAction
ground_action_view a = ground_action a.action.0 (map object_number a.objects.now)

-- actions and the lists of their objects, one by one
abbrev pub grounded : List ActionId → List (List ObjectId) → List GroundAction
grounded [] oss = []
grounded (a ∷ as') [] = []
grounded (a ∷ as') (os ∷ oss) = ground_action a.0 (map object_number os) ∷ grounded as' oss

abbrev pub ground_actions_view : GroundActions → List GroundAction
ground_actions_view g = grounded g.actions.items g.objects
