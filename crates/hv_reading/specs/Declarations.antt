-- Where nothing is said: `()` or `(and)`; and the fields of methods and initial networks.
use Rattle.std.specs.Prelude.{Bool, true, false, List, [], ◌∷◌, Option, Some, None}
use Rattle.hv_text.specs.Trees.{Tree, Trees, none, more}
use Rattle.hv_reading.specs.declared.field.Slot.{Slot}
use Rattle.hv_reading.specs.declared.field.Slot.TheVariants as slots
use Rattle.hv_reading.specs.Lists.{conjuncts}

-- there are no members
abbrev pub are_none : Trees → Bool
are_none none = true
are_none (more t ts) = false

-- a list that stands as `()` or behind `and`, with no members
abbrev pub no_conjuncts : Option Trees → Bool
no_conjuncts None = false
no_conjuncts (Some ts) = are_none ts

-- `()` or `(and)`
abbrev pub is_empty_list : Tree → Bool
is_empty_list t = no_conjuncts (conjuncts t)

-- `()` or `(and)`, or no field at all
abbrev pub is_nothing : Option Tree → Bool
is_nothing None = true
is_nothing (Some t) = is_empty_list t

-- the fields that a method may have
abbrev pub method_slots : List Slot
method_slots =
    slots.Parameters ∷ slots.Task ∷ slots.Precondition ∷ slots.Subtasks ∷ slots.OrderedSubtasks
    ∷ slots.Ordering ∷ slots.Constraints ∷ []

-- the fields that an initial network may have
abbrev pub htn_slots : List Slot
htn_slots =
    slots.Parameters ∷ slots.Subtasks ∷ slots.OrderedSubtasks ∷ slots.Ordering ∷ slots.Constraints
    ∷ []
