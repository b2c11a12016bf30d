-- When the lines of a plan fit a world.
use Rattle.std.specs.Prelude.{◌≡◌, ℕ, List, [], map, length, count_by, slice_get, All, Contains, Option, Some, None, option_and_then}
use Rattle.std.specs.List.{AllZip}
use Rattle.hv_world.specs.Values.{TaskName, compound, primitive, Subtask}
use Rattle.hv_world.specs.Names.{place_in}
use Rattle.hv_world.specs.Alike.{same_name}
use Rattle.hv_world.specs.Groundings.{AreOf}
use Rattle.hv_world.specs.Worlds.{World, Method, Task, Action, task_named, method_named}
use Rattle.hv_plan.specs.Values as text
use Rattle.hv_plan.specs.Values.{Plan}
use Rattle.hv_plan.specs.Shapes.{head, heads, Parent, parents}

-- the types of the parameters of a task or an action; none where the world has none of the number
abbrev pub task_parameters : Option Task → List ℕ
task_parameters None = []
task_parameters (Some t) = t.parameters

abbrev pub action_parameters : Option Action → List ℕ
action_parameters None = []
action_parameters (Some a) = a.parameters

abbrev pub parameters_of : World → TaskName → List ℕ
parameters_of w (compound t) = task_parameters (slice_get w.tasks t)
parameters_of w (primitive a) = action_parameters (slice_get w.actions a)

-- names are those of objects
abbrev pub AreObjects : World → List (List ℕ) → List ℕ → Type 0
AreObjects w ns os = AllZip (λ n o. place_in w.objects n ≡ Some o) ns os

-- What a line says of its id: the task or the action of this name, with these objects, as many as
-- it has parameters, each of its parameter's type
pub record Says (w : World) (a : text.Action) (t : TaskName) (os : List ℕ) : Type 0 where
  pub name : task_named w a.name ≡ Some t
  pub objects : AreObjects w a.arguments os
  pub typed : AreOf w.typing os (parameters_of w t)

-- a method for this task
abbrev pub IsForTask : Option Subtask → ℕ → Type 0
IsForTask None t = ⊥
IsForTask (Some x) t = x.name ≡ compound t

-- an action line names an action
pub record FitsAction (w : World) (a : text.Action) : Type 0 where
  pub action : ℕ
  pub objects : List ℕ
  pub says : Says w a (primitive action) objects

-- a decomposition line names a task, and a method for it
pub record FitsDecomposition (w : World) (d : text.Decomposition) : Type 0 where
  pub task : ℕ
  pub objects : List ℕ
  pub says : Says w (head d) (compound task) objects
  pub number : ℕ
  pub method : Method
  pub named : method_named w d.method ≡ Some number
  pub numbered : slice_get w.methods number ≡ Some method
  pub is_for : IsForTask method.task task

-- the id begins a line that names this task or action
pub record IsNamed (w : World) (p : Plan) (i : ℕ) (n : TaskName) : Type 0 where
  pub line : text.Action
  pub begins : Contains (heads p) line
  pub id : line.id ≡ i
  pub name : task_named w line.name ≡ Some n

-- how often a name stands in a list
abbrev pub multiplicity : TaskName → List TaskName → ℕ
multiplicity n ns = count_by (same_name n) ns

-- the names of subtasks
abbrev pub names_of : List Subtask → List TaskName
names_of xs = map (λ x. x.name) xs

-- the method of a line that names children: that of its name, and for the root line the
-- initial network
abbrev pub method_of : World → Option (List ℕ) → Option Method
method_of w None = Some w.top
method_of w (Some n) = option_and_then (slice_get w.methods) (method_named w n)

-- the children of a line have the names of its method's subtasks, each name as often
pub record FitsSubtasks (w : World) (p : Plan) (q : Parent) : Type 0 where
  pub method : Method
  pub is_method : method_of w q.method ≡ Some method
  pub names : List TaskName
  pub are_named : AllZip (IsNamed w p) q.children names
  pub as_many : length q.children ≡ length method.network.subtasks
  pub as_often : (n : TaskName)
      → multiplicity n names ≡ multiplicity n (names_of method.network.subtasks)

-- Each line names what the world has, with objects of the right types: an action line an
-- action, a decomposition line a task and a method for it; and the children of each are as its
-- method's subtasks
pub record FitWorld (w : World) (p : Plan) : Type 0 where
  pub actions : All (FitsAction w) p.actions
  pub decompositions : All (FitsDecomposition w) p.decompositions
  pub children : All (FitsSubtasks w p) (parents p)
