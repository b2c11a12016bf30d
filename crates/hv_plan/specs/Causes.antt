-- For which cause the lines of a plan form no tree that fits a world, and at which line.
use Rattle.std.specs.Prelude.{◌≡◌, ℕ, ◌<◌, ◌≤◌, List, Some, None, codes, length, Contains}
use Rattle.std.specs.List.{AllZip}
use Rattle.hv_world.specs.Values.{TaskName, compound, primitive}
use Rattle.hv_world.specs.Names.{place_in}
use Rattle.hv_lists.specs.Lists.{Once}
use Rattle.hv_world.specs.Worlds.{World, Method, task_named, method_named}
use Rattle.hv_plan.specs.Values.{Action, Decomposition, Plan}
use Rattle.hv_plan.specs.Shapes.{heads, ids, Parent, parents, IsReached}
use Rattle.hv_plan.specs.Fits.{parameters_of, AreObjects, IsForTask, IsNamed, multiplicity, names_of, method_of}
use Rattle.hv_world.specs.Groundings.{AreOf}
use Rattle.hv_plan.specs.declared.cause.CauseKind.{CauseKind}
use Rattle.hv_plan.specs.declared.cause.CauseKind.TheVariants as kinds
use Rattle.hv_plan.specs.declared.cause.Cause.{Cause}
use Rattle.hv_plan.specs.declared.cause.TreeFault.{TreeFault}
use Rattle.hv_plan.specs.declared.cause.TreeFault.TheVariants as faults

-- the number under which a cause is reported
abbrev pub number : CauseKind → ℕ
number kinds.RepeatedId = 50
number kinds.UnknownChild = 51
number kinds.TwoParents = 52
number kinds.Unreached = 53
number kinds.UnknownTask = 54
number kinds.UnknownMethod = 55
number kinds.UnknownObject = 56
number kinds.ArgumentCount = 57
number kinds.ArgumentType = 58
number kinds.NotPrimitive = 59
number kinds.NotAbstract = 60
number kinds.OtherTask = 61
number kinds.ChildCount = 62
number kinds.ChildNames = 63

-- its name
abbrev pub name : CauseKind → List ℕ
name kinds.RepeatedId = codes "RepeatedId"
name kinds.UnknownChild = codes "UnknownChild"
name kinds.TwoParents = codes "TwoParents"
name kinds.Unreached = codes "Unreached"
name kinds.UnknownTask = codes "UnknownTask"
name kinds.UnknownMethod = codes "UnknownMethod"
name kinds.UnknownObject = codes "UnknownObject"
name kinds.ArgumentCount = codes "ArgumentCount"
name kinds.ArgumentType = codes "ArgumentType"
name kinds.NotPrimitive = codes "NotPrimitive"
name kinds.NotAbstract = codes "NotAbstract"
name kinds.OtherTask = codes "OtherTask"
name kinds.ChildCount = codes "ChildCount"
name kinds.ChildNames = codes "ChildNames"

-- The line of this number qualifies for a cause, read where no cause of a smaller number applies:
--     repeated_id      its id begins a line before it
--     unknown_child      a child begins no line
--     child_before, child_twice      a child stood as one before, on an earlier line or this one
--     unreached      it is not reached from `root` by children
--     unknown_task      its name is neither a task nor an action
--     unknown_method      its method is none
--     unknown_object      an argument is no object
--     argument_count      it has not as many arguments as are declared
--     argument_type      an object is not of its parameter's type
--     not_primitive      an action line names a task
--     not_abstract      a decomposition line names an action
--     other_task      the method is for another task
--     child_count      it has not as many children as there are subtasks
--     child_names      a name is not as often that of a child as that of a subtask
pub data Qualifies (w : World) (p : Plan) : CauseKind → ℕ → Type 0 where
  repeated_id : (a b : Action) → Contains (heads p) a → Contains (heads p) b → a.id ≡ b.id
      → a.line < b.line
      → Qualifies w p kinds.RepeatedId b.line
  unknown_child : (q : Parent) (i : ℕ) → Contains (parents p) q → Contains q.children i
      → (Contains (ids p) i → ⊥)
      → Qualifies w p kinds.UnknownChild q.line
  child_before : (q r : Parent) (i : ℕ) → Contains (parents p) q → Contains (parents p) r
      → q.line < r.line
      → Contains q.children i → Contains r.children i → Qualifies w p kinds.TwoParents r.line
  child_twice : (q : Parent) → Contains (parents p) q → (Once q.children → ⊥)
      → Qualifies w p kinds.TwoParents q.line
  unreached : (a : Action) → Contains (heads p) a → (IsReached p a.id → ⊥)
      → Qualifies w p kinds.Unreached a.line
  unknown_task : (a : Action) → Contains (heads p) a → task_named w a.name ≡ None
      → Qualifies w p kinds.UnknownTask a.line
  unknown_method : (d : Decomposition) → Contains p.decompositions d
      → method_named w d.method ≡ None
      → Qualifies w p kinds.UnknownMethod d.line
  unknown_object : (a : Action) (n : List ℕ) → Contains (heads p) a → Contains a.arguments n
      → place_in w.objects n ≡ None
      → Qualifies w p kinds.UnknownObject a.line
  argument_count : (a : Action) (t : TaskName) → Contains (heads p) a → task_named w a.name ≡ Some t
      → (length a.arguments ≡ length (parameters_of w t) → ⊥)
      → Qualifies w p kinds.ArgumentCount a.line
  argument_type : (a : Action) (t : TaskName) (os : List ℕ) → Contains (heads p) a
      → task_named w a.name ≡ Some t
      → AreObjects w a.arguments os → (AreOf w.typing os (parameters_of w t) → ⊥)
      → Qualifies w p kinds.ArgumentType a.line
  not_primitive : (a : Action) (t : ℕ) → Contains p.actions a
      → task_named w a.name ≡ Some (compound t)
      → Qualifies w p kinds.NotPrimitive a.line
  not_abstract : (d : Decomposition) (a : ℕ) → Contains p.decompositions d
      → task_named w d.name ≡ Some (primitive a)
      → Qualifies w p kinds.NotAbstract d.line
  other_task : (d : Decomposition) (t : ℕ) (m : Method) → Contains p.decompositions d
      → task_named w d.name ≡ Some (compound t)
      → method_of w (Some d.method) ≡ Some m → (IsForTask m.task t → ⊥)
      → Qualifies w p kinds.OtherTask d.line
  child_count : (q : Parent) (m : Method) → Contains (parents p) q → method_of w q.method ≡ Some m
      → (length q.children ≡ length m.network.subtasks → ⊥) → Qualifies w p kinds.ChildCount q.line
  child_names : (q : Parent) (m : Method) (names : List TaskName) (n : TaskName)
      → Contains (parents p) q
      → method_of w q.method ≡ Some m → AllZip (IsNamed w p) q.children names
      → (multiplicity n names ≡ multiplicity n (names_of m.network.subtasks) → ⊥)
      → Qualifies w p kinds.ChildNames q.line

-- No line qualifies for a cause of a smaller number, and this is the first line that qualifies
pub record IsCause (w : World) (p : Plan) (c : Cause) : Type 0 where
  pub qualifies : Qualifies w p c.kind c.line
  pub smallest : (k : CauseKind) (l : ℕ) → number k < number c.kind → Qualifies w p k l → ⊥
  pub first : (l : ℕ) → Qualifies w p c.kind l → c.line ≤ l

-- why there is no tree: memory ran out, or there is a cause
abbrev pub IsTreeFault : World → Plan → TreeFault → Type 0
IsTreeFault w p (faults.Cause c) = IsCause w p c
IsTreeFault w p faults.Memory = Unit {0}
