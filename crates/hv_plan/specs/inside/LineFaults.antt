-- For which causes a line is at fault by itself, and which of several causes is reported.
use Rattle.std.specs.Prelude.{◌≡◌, ℕ, ◌<◌, ◌≤◌, ◌⊎◌, Bool, ◌&&◌, ◌||◌, nat_lt, nat_eq, nat_le, if◌then◌else◌, List, ◌++◌, Option, Some, None, map, length, Contains}
use Rattle.hv_world.specs.Values.{TaskName, compound, primitive}
use Rattle.hv_world.specs.Names.{place_in}
use Rattle.hv_world.specs.Worlds.{World, Method, task_named, method_named}
use Rattle.hv_plan.specs.Values.{Action, Decomposition, Plan}
use Rattle.hv_plan.specs.Shapes.{head}
use Rattle.hv_plan.specs.Fits.{parameters_of, AreObjects, IsForTask, method_of}
use Rattle.hv_world.specs.Groundings.{AreOf}
use Rattle.hv_plan.specs.Causes.{number}
use Rattle.hv_plan.specs.declared.cause.CauseKind.{CauseKind}
use Rattle.hv_plan.specs.declared.cause.CauseKind.TheVariants as kinds
use Rattle.hv_plan.specs.declared.cause.Cause.{Cause}
use Rattle.hv_plan.specs.declared.fit.LineFault.{LineFault}
use Rattle.hv_plan.specs.declared.fit.LineFault.TheVariants as faults

-- a line that begins with an id: what it says of the id, and the method where it is a
-- decomposition line
pub record Entry : Type 0 where
  pub said : Action
  pub method : Option (List ℕ)

abbrev pub action_entry : Action → Entry
action_entry a = record { said = a; method = None }

abbrev pub line_entry : Decomposition → Entry
line_entry d = record { said = head d; method = Some d.method }

-- the action lines, and then the decomposition lines
abbrev pub entries : Plan → List Entry
entries p = map action_entry p.actions ++ map line_entry p.decompositions

-- a line is at fault for a cause by what stands on it alone
abbrev pub IsAtFault : World → Entry → CauseKind → Type 0
IsAtFault w e kinds.RepeatedId = ⊥
IsAtFault w e kinds.UnknownChild = ⊥
IsAtFault w e kinds.TwoParents = ⊥
IsAtFault w e kinds.Unreached = ⊥
IsAtFault w e kinds.UnknownTask = task_named w e.said.name ≡ None
IsAtFault w e kinds.UnknownMethod = (n : List ℕ) × (e.method ≡ Some n) × (method_named w n ≡ None)
IsAtFault w e kinds.UnknownObject = (n : List ℕ) × Contains e.said.arguments n
    × (place_in w.objects n ≡ None)
IsAtFault w e kinds.ArgumentCount =
    (t : TaskName) × (task_named w e.said.name ≡ Some t)
    × (length e.said.arguments ≡ length (parameters_of w t) → ⊥)
IsAtFault w e kinds.ArgumentType =
    (t : TaskName) × (os : List ℕ) × (task_named w e.said.name ≡ Some t)
    × AreObjects w e.said.arguments os × (AreOf w.typing os (parameters_of w t) → ⊥)
IsAtFault w e kinds.NotPrimitive = (t : ℕ) × (e.method ≡ None)
    × (task_named w e.said.name ≡ Some (compound t))
IsAtFault w e kinds.NotAbstract = (n : List ℕ) × (a : ℕ) × (e.method ≡ Some n)
    × (task_named w e.said.name ≡ Some (primitive a))
IsAtFault w e kinds.OtherTask =
    (n : List ℕ) × (t : ℕ) × (m : Method) × (e.method ≡ Some n)
    × (task_named w e.said.name ≡ Some (compound t))
    × (method_of w (Some n) ≡ Some m) × (IsForTask m.task t → ⊥)
IsAtFault w e kinds.ChildCount = ⊥
IsAtFault w e kinds.ChildNames = ⊥

-- the cause of the smallest number for which a line is at fault by itself
pub record IsSmallest (w : World) (e : Entry) (k : CauseKind) : Type 0 where
  pub applies : IsAtFault w e k
  pub smallest : (j : CauseKind) → number j < number k → IsAtFault w e j → ⊥

-- what keeps objects from being as the parameters of a task or an action
pub data IsObjectFault (w : World) (t : TaskName) (os : List ℕ) : CauseKind → Type 0 where
  count : (length os ≡ length (parameters_of w t) → ⊥) → IsObjectFault w t os kinds.ArgumentCount
  type : length os ≡ length (parameters_of w t) → (AreOf w.typing os (parameters_of w t) → ⊥)
      → IsObjectFault w t os kinds.ArgumentType

-- what keeps arguments from being objects that are as the parameters of a task or an action
pub data IsArgumentFault (w : World) (t : TaskName) (ns : List (List ℕ)) : CauseKind → Type 0 where
  unknown : (n : List ℕ) → Contains ns n → place_in w.objects n ≡ None
      → IsArgumentFault w t ns kinds.UnknownObject
  objects : (os : List ℕ) (k : CauseKind) → AreObjects w ns os → IsObjectFault w t os k
      → IsArgumentFault w t ns k

-- arguments are objects that are as the parameters of a task or an action
pub record AreArguments (w : World) (t : TaskName) (ns : List (List ℕ)) (os : List ℕ) : Type 0 where
  pub known : AreObjects w ns os
  pub typed : AreOf w.typing os (parameters_of w t)

-- why nothing is found of a line: for a cause of which P holds, or for want of memory
abbrev pub IsLineFault : (CauseKind → Type 0) → LineFault → Type 0
IsLineFault P (faults.Cause k) = P k
IsLineFault P faults.Memory = Unit {0}

-- a cause comes before another that is not of a smaller number, nor of the same number on an
-- earlier line
abbrev pub ComesBefore : Cause → CauseKind → ℕ → Type 0
ComesBefore c k l = (number c.kind < number k) ⊎ ((number c.kind ≡ number k) × (c.line ≤ l))

abbrev pub comes_before : Cause → Cause → Bool
comes_before c d =
    nat_lt (number c.kind) (number d.kind)
    || (nat_eq (number c.kind) (number d.kind) && nat_le c.line d.line)

-- the one of two causes that is reported
abbrev pub earlier : Option Cause → Option Cause → Option Cause
earlier None o = o
earlier (Some c) None = Some c
earlier (Some c) (Some d) = if comes_before c d then Some c else Some d

-- of the causes at lines for which Q holds, the one that is reported; None where there are none
abbrev pub IsEarliest : (CauseKind → ℕ → Type 0) → Option Cause → Type 0
IsEarliest Q None = (k : CauseKind) (l : ℕ) → Q k l → ⊥
IsEarliest Q (Some c) = Q c.kind c.line × ((k : CauseKind) (l : ℕ) → Q k l → ComesBefore c k l)

-- one of these lines, with this number, is at fault by itself for this cause
abbrev pub FaultIn : World → List Entry → CauseKind → ℕ → Type 0
FaultIn w es k l = (e : Entry) × Contains es e × IsAtFault w e k × (e.said.line ≡ l)
