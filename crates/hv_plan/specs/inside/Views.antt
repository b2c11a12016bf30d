-- What the code reads of lines, and what that stands for.
use Rattle.std.specs.Prelude.{◌≡◌, ◌+◌, ◌≤◌, ℕ, List, map, Option, None, Some, Result, Ok, Err, length, if◌then◌else◌}
use Rattle.std.specs.List.{list_all}
use Rattle.hv_text.specs.Names.{text_of}
use Rattle.hv_plan.specs.Lines.{NumberedLine, lines, numbered}
use Rattle.hv_plan.specs.LineViews.{action_view, decomposition_view}
use Rattle.hv_plan.specs.Forms.{Form, blank, action, decomposition, root, is_id, Task}
use Rattle.hv_plan.specs.declared.fault.PlanFault.{PlanFault}
use Rattle.hv_plan.specs.declared.fault.PlanFault.TheVariants as faults
use Rattle.hv_plan.specs.declared.lines.Line.{Line}
use Rattle.hv_plan.specs.declared.lines.Lines.{Lines}
use Rattle.hv_plan.specs.declared.id.Id.{Id}
use Rattle.hv_plan.specs.declared.id.Id.TheVariants as ids
use Rattle.hv_plan.specs.declared.ids.Ids.{Ids}
use Rattle.hv_plan.specs.declared.ids.Ids.TheVariants as lists
use Rattle.hv_plan.specs.declared.task.TaskText.{TaskText}
use Rattle.hv_plan.specs.declared.form.LineText.{LineText}
use Rattle.hv_plan.specs.declared.form.LineText.TheVariants as texts

abbrev pub line_view : Line → NumberedLine
line_view l = record { number = l.number; bytes = l.bytes.now }

-- the lines that are left
abbrev pub lines_left : Lines → List NumberedLine
lines_left ls = numbered ls.number (lines ls.left.now)

-- how large the lines that are left may be, with the lines before them
abbrev pub IsWithin : Lines → Type 0
IsWithin ls = (1 ≤ ls.number) × (ls.number + length ls.left.now ≤ 268435457)

-- a number as an id
abbrev pub as_id : Option ℕ → Id
as_id None = ids.NoId
as_id (Some i) = if is_id i then ids.Fits i else ids.TooLarge

-- what words are as ids: ids that all have at most 64 bits, ids of which some is larger,
-- or not all ids
pub data Found : Type 0 where
  fitting : List ℕ → Found
  too_large : Found
  no_ids : Found

abbrev pub as_ids : Option (List ℕ) → Found
as_ids None = no_ids
as_ids (Some is) = if list_all is_id is then fitting is else too_large

abbrev pub ids_view : Ids → Found
ids_view (lists.Fit is) = fitting is.now
ids_view lists.TooLarge = too_large
ids_view lists.NoIds = no_ids

abbrev pub task_view : TaskText → Task
task_view t = record { name = text_of t.name; arguments = map text_of t.arguments.now }

abbrev pub form_view : LineText → Form
form_view texts.Blank = blank
form_view (texts.Action a) = action (action_view a)
form_view (texts.Decomposition d) = decomposition (decomposition_view d)
form_view (texts.Root is n) = root (record { ids = is.now; line = n })

-- the fault of a line that says this, refused memory aside
abbrev pub IsLineFault : {Y : Type 0} → PlanFault → Result Y PlanFault → Type 0
IsLineFault faults.Memory r = Unit {0}
IsLineFault (faults.BadByte n) r = r ≡ Err (faults.BadByte n)
IsLineFault (faults.BadLine n) r = r ≡ Err (faults.BadLine n)
IsLineFault (faults.IdTooLarge n) r = r ≡ Err (faults.IdTooLarge n)
IsLineFault (faults.RepeatedRoot n) r = ⊥
IsLineFault faults.TooLong r = ⊥
IsLineFault faults.NoStart r = ⊥
IsLineFault faults.NoEnd r = ⊥
IsLineFault faults.NoRoot r = ⊥

-- what the code reads in a line that says this
abbrev pub Reads : {X Y : Type 0} → (X → Y) → Result X PlanFault → Result Y PlanFault → Type 0
Reads view (Ok x) r = r ≡ Ok (view x)
Reads view (Err f) r = IsLineFault f r

-- what line n says, where it has an arrow, of what its parts are read as
abbrev pub decomposition_said : ℕ → Id → Task → List ℕ → Found → Result Form PlanFault
decomposition_said n ids.NoId t v is = Err (faults.BadLine n)
decomposition_said n ids.TooLarge t v no_ids = Err (faults.BadLine n)
decomposition_said n ids.TooLarge t v too_large = Err (faults.IdTooLarge n)
decomposition_said n ids.TooLarge t v (fitting is) = Err (faults.IdTooLarge n)
decomposition_said n (ids.Fits i) t v no_ids = Err (faults.BadLine n)
decomposition_said n (ids.Fits i) t v too_large = Err (faults.IdTooLarge n)
decomposition_said n (ids.Fits i) t v (fitting is) =
    Ok (decomposition
    (record {
      id = i;
      name = t.name;
      arguments = t.arguments;
      method = v;
      children = is;
      line = n;
    }))
