-- What the code finds that lines say.
use Rattle.std.specs.Prelude.{◌≡◌, ℕ, List, [], ◌∷◌, Option, Some, None, option_map, option_and_then, Result, Ok, Err, length, map, slice_get, MatchOption}
use Rattle.std.specs.List.{AllZip}
use Rattle.hv_world.specs.Bindings.{GroundAction, ground_action, object_number}
use Rattle.hv_world.specs.Values.{TaskName, compound, primitive}
use Rattle.hv_world.specs.Worlds.{World, method_named}
use Rattle.hv_plan.specs.Values.{Decomposition}
use Rattle.hv_plan.specs.Shapes.{head}
use Rattle.hv_plan.specs.Trees.{Item, Act, Task, Pre}
use Rattle.hv_plan.specs.Fits.{IsForTask, Says}
use Rattle.hv_plan.specs.inside.LineFaults.{Entry, IsEarliest, FaultIn}
use Rattle.hv_plan.specs.declared.fit.LineFault.{LineFault}
use Rattle.hv_plan.specs.declared.fit.LineFault.TheVariants as faults
use Rattle.hv_plan.specs.declared.cause.Cause.{Cause}
use Rattle.hv_world.specs.declared.id.ObjectId.{ObjectId}
use Rattle.hv_lists.specs.Lists.{with_lists}
use Rattle.hv_plan.specs.declared.fit.Decomposed as code
use Rattle.hv_plan.specs.declared.fit.Grounded as code_action
use Rattle.hv_plan.specs.declared.fit.lines.DecomposedHead as code_head
use Rattle.hv_plan.specs.declared.fit.lines.DecomposedLine as code_line
use Rattle.hv_plan.specs.declared.fit.lines.DecomposedLines as code_lines

-- a task with objects, and a method
pub record Decomposed : Type 0 where
  pub task : ℕ
  pub objects : List ℕ
  pub method : ℕ

-- what a decomposition line says: its task with the objects, and a method for it
pub record IsDecomposed (w : World) (d : Decomposition) (x : Decomposed) : Type 0 where
  pub says : Says w (head d) (compound x.task) x.objects
  pub named : method_named w d.method ≡ Some x.method
  pub is_for : MatchOption (slice_get w.methods x.method) ⊥ (λ m. IsForTask m.task x.task)

-- what the code found of one line, and of all lines
abbrev pub grounded_view : code_action.Grounded → GroundAction
grounded_view g = ground_action g.action.0 (map object_number g.objects.items)

abbrev pub decomposed_view : code.Decomposed → Decomposed
decomposed_view x =
    record { task = x.task.0; objects = map object_number x.objects.items; method = x.method.0 }

abbrev pub decomposed_line : code_line.DecomposedLine → Decomposed
decomposed_line x =
    record { task = x.task.0; objects = map object_number x.objects.now; method = x.method.0 }

abbrev pub headed : code_head.DecomposedHead → List ObjectId → Decomposed
headed h os = record { task = h.task.0; objects = map object_number os; method = h.method.0 }

abbrev pub decomposed_lines : code_lines.DecomposedLines → List Decomposed
decomposed_lines ls = with_lists headed ls.heads.items ls.objects

-- each line has a list of objects
pub record AreTidy (ls : code_lines.DecomposedLines) : Type 0 where
  pub as_many : length ls.objects ≡ length ls.heads.items

-- what a line was found to say, and the cause where it was found at fault
abbrev pub kept : {X : Type 0} → Result X LineFault → List X
kept (Ok x) = x ∷ []
kept (Err f) = []

abbrev pub cause_at : {X : Type 0} → Result X LineFault → ℕ → Option Cause
cause_at (Ok x) l = None
cause_at (Err (faults.Cause k)) l = Some (record { kind = k; line = l })
cause_at (Err faults.Memory) l = None

-- memory did not run out
abbrev pub IsTold : {X : Type 0} → Result X LineFault → Type 0
IsTold (Ok x) = Unit {0}
IsTold (Err (faults.Cause k)) = Unit {0}
IsTold (Err faults.Memory) = ⊥

-- The cause that is reported of those for which one of these lines is at fault by itself; and where
-- there is none, what each line says
pub record AreFitted {D N : Type 0} (w : World) (entry : D → Entry) (Is : D → N → Type 0)
    (ds : List D) (ns : List N) (c : Option Cause) : Type 0 where
  pub cause : IsEarliest (FaultIn w (map entry ds)) c
  pub said : c ≡ None → AllZip Is ds ns

-- the action or the task of an item, by the actions, by what the decomposition lines say, and by
-- the place of the line of each node
abbrev pub item_name : List GroundAction → List Decomposed → List ℕ → Item → Option TaskName
item_name as' ds places (Act k) = option_map (λ a. primitive a.action) (slice_get as' k)
item_name as' ds places (Task v) =
    option_and_then (λ k. option_map (λ d. compound d.task) (slice_get ds k)) (slice_get places v)
item_name as' ds places (Pre v) = None
