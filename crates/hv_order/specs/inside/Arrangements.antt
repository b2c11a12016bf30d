-- A candidate that is arranged to be laid out, as lists of numbers.
use Rattle.std.specs.Prelude.{ℕ, List, [], map}
use Rattle.std.specs.List.{slice_index_or}
use Rattle.hv_world.specs.Bindings.{object_number}
use Rattle.hv_plan.specs.declared.tree.Child.{Child}
use Rattle.hv_order.specs.declared.trial.Arranged.{Arranged}

-- Whose candidate it is, and the numbers of its objects; the child that stands for each subtask,
-- the subtasks in an order that is allowed, and those directly before each
pub record Arrangement : Type 0 where
  pub node : ℕ
  pub objects : List ℕ
  pub children : List Child
  pub order : List ℕ
  pub direct : List (List ℕ)

-- the subtasks directly before one, none where nothing is said of it
abbrev pub listed_before : List (List ℕ) → ℕ → List ℕ
listed_before lists j = slice_index_or lists j []

-- what the code has arranged
abbrev pub arrangement_of : Arranged → Arrangement
arrangement_of c =
    record {
      node = c.node;
      objects = map object_number c.objects.items;
      children = c.children.items;
      order = c.sequencing.value.order.items;
      direct = c.sequencing.value.direct;
    }
