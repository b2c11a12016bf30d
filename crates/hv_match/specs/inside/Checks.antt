-- What the test of children and objects that are given goes by.
use Rattle.std.specs.List.{AllZip}
use Rattle.std.specs.Prelude.{◌≡◌, ◌≢◌, ◌<◌, ℕ, Bool, true, false, List, Option, length, map, set, slice_index_or, All, AllPairs, Contains}
use Rattle.hv_world.specs.Bindings.{object_number}
use Rattle.hv_world.specs.Values.{Subtask}
use Rattle.hv_world.specs.MethodViews.{method_view}
use Rattle.hv_world.specs.Views.{subtask_view}
use Rattle.hv_world.specs.WorldViews.{world_view}
use Rattle.hv_world.specs.declared.formula.Subtask as code_subtask
use Rattle.hv_world.specs.declared.method.Method as code_method
use Rattle.hv_world.specs.declared.world.World as code_world
use Rattle.hv_world.specs.declared.id.ObjectId.{ObjectId}
use Rattle.hv_plan.specs.BuiltTrees.{tree_view}
use Rattle.hv_plan.specs.TreeViews.{child_view, node_view}
use Rattle.hv_plan.specs.declared.tree.Node as code_node
use Rattle.hv_plan.specs.declared.tree.Tree as code_tree
use Rattle.hv_plan.specs.declared.tree.Child as code_child
use Rattle.hv_match.specs.Candidates.{Does, IsCandidate, child_task, child_tasks}

-- M are the places of so many children, each once
pub record AreAllPlaces (n : ℕ) (M : List ℕ) : Type 0 where
  pub once : AllPairs ◌≢◌ M
  pub within : All (λ x. x < n) M
  pub all : length M ≡ n

-- just the places of M, each of which stands there once, are marked
pub record AreMarked (marks : List Bool) (M : List ℕ) : Type 0 where
  pub once : AllPairs ◌≢◌ M
  pub within : All (λ x. x < length marks) M
  pub marked : (x : ℕ) → slice_index_or marks x false ≡ true → Contains M x
  pub unmarked : (x : ℕ) → slice_index_or marks x true ≡ false → Contains M x → ⊥

-- the place was not marked, and now is
abbrev pub IsMarkedAnew : List Bool → ℕ → List Bool → Type 0
IsMarkedAnew old x new = (slice_index_or old x true ≡ false) × (new ≡ set old x true)

-- a place that is there was marked
abbrev pub WasMarked : List Bool → ℕ → Type 0
WasMarked old x = x < length old → slice_index_or old x false ≡ true

-- what these children of the code do
abbrev pub tasks_of : code_tree.Tree → List code_child.Child → List (Option Subtask)
tasks_of t cs = map (child_task (tree_view t)) (map child_view cs)

-- what the children of a node of the code do
abbrev pub tasks_at : code_tree.Tree → code_node.Node → List (Option Subtask)
tasks_at t n = child_tasks (tree_view t) (node_view n)

-- the child at a place does what a subtask of the code says
abbrev pub ChildDoes : code_tree.Tree → List code_child.Child → List ℕ → ℕ → code_subtask.Subtask
    → Type 0
ChildDoes t cs B x s = Does (tasks_of t cs) B x (subtask_view s)

-- the children at these places do what the subtasks say
abbrev pub ChildrenDo : code_tree.Tree → List code_child.Child → List ℕ → List ℕ
    → List code_subtask.Subtask → Type 0
ChildrenDo t cs B M ss = AllZip (Does (tasks_of t cs) B) M (map subtask_view ss)

-- a candidate of a node by a method, all of the code
abbrev pub IsCandidateBy : code_world.World → code_method.Method → code_tree.Tree → code_node.Node
    → List ℕ → List ObjectId → Type 0
IsCandidateBy w m t n M os =
    IsCandidate (world_view w) (method_view m) (node_view n).objects (tasks_at t n) M
    (map object_number os)
