-- How the children of a node of a plan's tree can stand for the subtasks of its method.
use Rattle.std.specs.Prelude.{◌≡◌, ◌↔◌, ◌<◌, ℕ, true, List, [], ◌∷◌, ◌++◌, map, length, take, slice_get, slice_index, Option, Some, None, option_map, option_and_then, IsSome, MatchOption, All, Contains, Bool, IsTrue, MatchBool}
use Rattle.std.specs.List.{AllZip}
use Rattle.hv_world.specs.Values.{object, Subtask, Constraint, compound, primitive}
use Rattle.hv_world.specs.Alike.{instance, subtask_instance, with_objects}
use Rattle.hv_world.specs.Bindings.{GroundAction, object_number}
use Rattle.hv_lists.specs.Lists.{Once}
use Rattle.hv_world.specs.Worlds.{World, Method, terms_of}
use Rattle.hv_world.specs.Groundings.{AreOf}
use Rattle.hv_world.specs.WorldViews.{world_view}
use Rattle.hv_world.specs.declared.id.ObjectId.{ObjectId}
use Rattle.hv_world.specs.declared.world.World as code_world
use Rattle.hv_plan.specs.BuiltTrees.{tree_view}
use Rattle.hv_plan.specs.Trees.{Item, Act, Task, Pre}
use Rattle.hv_plan.specs.PlanTrees.{Node, PlanTree}
use Rattle.hv_plan.specs.declared.tree.Tree as code_tree
use Rattle.hv_state.specs.Needed.{needed}
use Rattle.hv_match.specs.Possible.{are_possible}

-- what an action and a node do: a subtask with objects for terms
abbrev pub action_task : GroundAction → Subtask
action_task a = with_objects (primitive a.action) a.objects

abbrev pub node_task : Node → Option Subtask
node_task n = option_map (λ k. with_objects (compound k) n.objects) n.task

-- what a child does, where the tree has it
abbrev pub child_task : PlanTree → Item → Option Subtask
child_task t (Act k) = option_map action_task (slice_get t.actions k)
child_task t (Task v) = option_and_then node_task (slice_get t.nodes v)
child_task t (Pre v) = None

-- what the children of a node do
abbrev pub child_tasks : PlanTree → Node → List (Option Subtask)
child_tasks t n = map (child_task t) n.children

-- a constraint holds under B
abbrev pub Holds : List ℕ → Constraint → Type 0
Holds B c = (instance (slice_index B) c.left ≡ instance (slice_index B) c.right)
    ↔ (c.is_equal ≡ true)

-- the child at place x does what the subtask says under B
abbrev pub Does : List (Option Subtask) → List ℕ → ℕ → Subtask → Type 0
Does children B x s = slice_get children x ≡ Some (Some (subtask_instance (slice_index B) s))

-- M gives to each subtask of the method, in written order, the place of a child, to each another,
-- and none is left out; B gives to each parameter an object of its type. Under B the method's task
-- has the objects of the node's, each child does its subtask, and the constraints hold. The initial
-- network has no task, and its node no objects
pub record IsCandidate (w : World) (m : Method) (objects : List ℕ)
    (children : List (Option Subtask)) (M B : List ℕ) : Type 0 where
  pub once : Once M
  pub within : All (λ x. x < length children) M
  pub all : length M ≡ length children
  pub typed : AreOf w.typing B m.parameters
  pub task : map (instance (slice_index B)) (terms_of m.task) ≡ map object objects
  pub done : AllZip (Does children B) M m.network.subtasks
  pub constraints : All (Holds B) m.network.constraints

-- the method of a node, which for the root line's is the initial network
abbrev pub node_method : World → Node → Option Method
node_method w n = elim n.method [ None ↦ Some w.top | Some k ↦ slice_get w.methods k ]

-- the method of the node of a number
abbrev pub method_at : World → PlanTree → ℕ → Option Method
method_at w t v = option_and_then (node_method w) (slice_get t.nodes v)

-- the tree has a node of the number, and the world its method
abbrev pub IsNode : World → PlanTree → ℕ → Type 0
IsNode w t v = IsSome (method_at w t v)

-- a candidate of the node of a number
abbrev pub IsCandidateAt : World → PlanTree → ℕ → List ℕ → List ℕ → Type 0
IsCandidateAt w t v M B =
    MatchOption (slice_get t.nodes v) ⊥
    (λ n. MatchOption (node_method w n) ⊥
    (λ m. IsCandidate w m n.objects (child_tasks t n) M B))

-- A list of candidates, one of which is lent: the places of its children and its objects, and the
-- candidates that are still to come
pub record Listing : Type 0 where
  pub children : List ℕ
  pub objects : List ℕ
  pub coming : List (List ℕ × List ℕ)

-- with these objects the atoms that the precondition of a node's method needs may be true
abbrev pub IsPossibleAt : World → PlanTree → ℕ → Option (List (List ℕ)) → List ℕ → Type 0
IsPossibleAt w t v ever B =
    MatchOption (method_at w t v) ⊥ (λ m. are_possible ever B (needed m.precondition) ≡ true)

-- to come are just the candidates of the node of a number that are possible
abbrev pub HasAllAt : World → PlanTree → ℕ → Option (List (List ℕ)) → Listing → Type 0
HasAllAt w t v ever l = (M B : List ℕ)
    → Contains l.coming (M, B) ↔ (IsCandidateAt w t v M B × IsPossibleAt w t v ever B)

-- one was to come, which is lent now, and the others are still to come; or none was to come, and
-- none is
abbrev pub IsAdvance : Listing → Listing → Bool → Type 0
IsAdvance old new b =
    MatchBool b (old.coming ≡ (new.children, new.objects) ∷ new.coming)
    ((old.coming ≡ []) × (new.coming ≡ []))

-- the first of the candidates that were to come are left out, and for each of these the same
-- children as for the one that is lent stand for the first n subtasks
pub record IsPassing (n : ℕ) (old new : Listing) : Type 0 where
  pub children : new.children ≡ old.children
  pub objects : new.objects ≡ old.objects
  pub gone : List (List ℕ × List ℕ)
  pub coming : old.coming ≡ gone ++ new.coming
  pub alike : (M B : List ℕ) → Contains gone (M, B) → take n M ≡ take n old.children

-- b says whether P holds
abbrev pub Tells : Type 0 → Bool → Type 0
Tells P b = IsTrue b ↔ P

-- the code's places and objects are a candidate of the node of a number
abbrev pub IsCandidateOf : code_world.World → code_tree.Tree → ℕ → List ℕ → List ObjectId → Type 0
IsCandidateOf w t v M os = IsCandidateAt (world_view w) (tree_view t) v M (map object_number os)
