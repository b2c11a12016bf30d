-- How often tasks and actions stand in lists, by numbers for both.
use Rattle.std.specs.Prelude.{◌≡◌, ℕ, ◌+◌, nat_eq, nat_lt, List, Option, Some, None, length, count_by, if◌then◌else◌}
use Rattle.hv_world.specs.Values.{TaskName, compound, primitive}
use Rattle.hv_plan.specs.Fits.{multiplicity}
use Rattle.hv_plan.specs.declared.cause.CauseKind.{CauseKind}
use Rattle.hv_plan.specs.declared.cause.CauseKind.TheVariants as kinds

-- how often a number stands in a list
abbrev pub times : ℕ → List ℕ → ℕ
times n ns = count_by (nat_eq n) ns

-- the number of a task or an action among all: the tasks of the world, and then its actions
abbrev pub number_in : ℕ → ℕ → TaskName → Option ℕ
number_in tasks actions (compound t) = if nat_lt t tasks then Some t else None
number_in tasks actions (primitive a) = if nat_lt a actions then Some (tasks + a) else None

-- names are as many, and each as often
pub record HaveSameNames (ns ms : List TaskName) : Type 0 where
  pub as_many : length ns ≡ length ms
  pub as_often : (n : TaskName) → multiplicity n ns ≡ multiplicity n ms

-- why names are not those of subtasks, each as often
pub data IsNamesFault (ns ms : List TaskName) : CauseKind → Type 0 where
  count : (length ns ≡ length ms → ⊥) → IsNamesFault ns ms kinds.ChildCount
  names : length ns ≡ length ms → (n : TaskName) → (multiplicity n ns ≡ multiplicity n ms → ⊥)
      → IsNamesFault ns ms kinds.ChildNames
