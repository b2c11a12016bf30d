-- Fields in any order, each at most once.
use Rattle.std.specs.Prelude.{ℕ, ◌&&◌, ◌||◌, Bool, true, false, not, List, [], ◌∷◌, Option, Some, None, codes, if◌then◌else◌}
use Rattle.std.specs.Option.{is_some}
use Rattle.hv_text.specs.Trees.{Tree, word, list, Trees, none, more}
use Rattle.hv_reading.specs.declared.field.Slot.{Slot}
use Rattle.hv_reading.specs.declared.field.Slot.TheVariants as slots
use Rattle.hv_reading.specs.Words.{is}

-- which field a keyword names
abbrev pub slot_of : List ℕ → Slot
slot_of w =
    if is w (codes ":parameters") then slots.Parameters else
    if is w (codes ":task") then slots.Task else
    if is w (codes ":precondition") then slots.Precondition else
    if is w (codes ":effect") then slots.Effect else
    if is w (codes ":subtasks") || is w (codes ":tasks") then slots.Subtasks else
    if is w (codes ":ordered-subtasks")
    || is w (codes ":ordered-tasks") then slots.OrderedSubtasks else
    if is w (codes ":ordering") || is w (codes ":order") then slots.Ordering else
    if is w (codes ":constraints") then slots.Constraints else
    slots.Other

-- two slots are the same; a keyword of no slot is none that is looked for
abbrev pub same_slot : Slot → Slot → Bool
same_slot slots.Parameters slots.Parameters = true
same_slot slots.Task slots.Task = true
same_slot slots.Precondition slots.Precondition = true
same_slot slots.Effect slots.Effect = true
same_slot slots.Subtasks slots.Subtasks = true
same_slot slots.OrderedSubtasks slots.OrderedSubtasks = true
same_slot slots.Ordering slots.Ordering = true
same_slot slots.Constraints slots.Constraints = true
same_slot _ _ = false

-- whether a slot is among these
abbrev pub is_in : List Slot → Slot → Bool
is_in [] s = false
is_in (r ∷ rs) s = same_slot r s || is_in rs s

-- the expression of the first field of this slot
abbrev pub field : Slot → Trees → Option Tree
field s none = None
field s (more (list us p) ts) = None
field s (more (word k p) none) = None
field s (more (word k p) (more e ts)) = if same_slot (slot_of k) s then Some e else field s ts

-- pairs of a keyword of these slots and an expression, no slot twice
abbrev pub is_field_list : List Slot → Trees → Bool
is_field_list allowed none = true
is_field_list allowed (more (list us p) ts) = false
is_field_list allowed (more (word k p) none) = false
is_field_list allowed (more (word k p) (more e ts)) =
    is_in allowed (slot_of k) && not (is_some (field (slot_of k) ts)) && is_field_list allowed ts
