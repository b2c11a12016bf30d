-- How the code reads: the grammar of what domains declare: predicates, tasks, methods, actions.
use Rattle.std.specs.Prelude.{◌&&◌, List, [], ◌∷◌, Option, Some, None, option_map, option_and_then, if◌then◌else◌}
use Rattle.hv_text.specs.Trees.{Tree, word, list, Trees, none, more}
use Rattle.hv_text.specs.declared.span.Span.{Span}
use Rattle.hv_reading.specs.declared.field.Slot.TheVariants as slots
use Rattle.hv_reading.specs.inside.Words.{symbol_of}
use Rattle.hv_reading.specs.inside.Reading.{both, tuple}
use Rattle.hv_syntax.specs.Values.{WordAt, Atom, Variable, Formula, and, no_formulas, Effect, no_items, Predicate, predicate, Task, task, Method, method, Action, action}
use Rattle.hv_reading.specs.inside.Terms.{atom_of}
use Rattle.hv_reading.specs.inside.TypedLists.{typed_variables_of}
use Rattle.hv_reading.specs.inside.Formulas.{formula_of}
use Rattle.hv_reading.specs.inside.Effects.{effect_of}
use Rattle.hv_reading.specs.Fields.{field, is_field_list}
use Rattle.hv_reading.specs.inside.Networks.{network_of}
use Rattle.hv_reading.specs.Declarations.{is_nothing, method_slots}

-- a predicate: `(symbol typed(var))`
abbrev pub predicate_of : Tree → Option Predicate
predicate_of (word w s) = None
predicate_of (list none s) = None
predicate_of (list (more t ts) s) = both predicate (symbol_of t) (typed_variables_of ts)

-- parameters, `(typed(var))`, none where they are absent
abbrev pub parameters_at : Option Tree → Option (List Variable)
parameters_at None = Some []
parameters_at (Some (word w s)) = None
parameters_at (Some (list ts s)) = typed_variables_of ts

-- a precondition, always true where it is absent
abbrev pub precondition_at : Option Tree → Option Formula
precondition_at None = Some (and no_formulas)
precondition_at (Some t) = formula_of t

-- an effect, none where it is absent
abbrev pub effect_at : Option Tree → Option Effect
effect_at None = Some no_items
effect_at (Some t) = effect_of t

-- the task of a method, which must be written
abbrev pub task_at : Option Tree → Option Atom
task_at None = None
task_at (Some t) = atom_of t

-- the fields of a task of this name: `:parameters`; also `:precondition` and `:effect`
-- that say nothing
abbrev pub task_named : Span → Trees → WordAt → Option Task
task_named s ts w =
    if is_field_list (slots.Parameters ∷ slots.Precondition ∷ slots.Effect ∷ []) ts
    && is_nothing (field slots.Precondition ts) && is_nothing (field slots.Effect ts)
    then option_map (task s w) (parameters_at (field slots.Parameters ts))
    else None

-- a task, of the section at this place: `symbol field*`
abbrev pub task_of : Span → Trees → Option Task
task_of s none = None
task_of s (more t ts) = option_and_then (task_named s ts) (symbol_of t)

-- the fields of a method of this name: `:parameters`, `:task`, `:precondition`, and
-- those of a network
abbrev pub method_named : Span → Trees → WordAt → Option Method
method_named s ts w =
    if is_field_list method_slots ts
    then both (method s w)
    (both tuple
    (both tuple (parameters_at (field slots.Parameters ts)) (task_at (field slots.Task ts)))
    (network_of ts)) (precondition_at (field slots.Precondition ts))
    else None

-- a method, of the section at this place: `symbol field*`
abbrev pub method_of : Span → Trees → Option Method
method_of s none = None
method_of s (more t ts) = option_and_then (method_named s ts) (symbol_of t)

-- the fields of an action of this name: `:parameters`, `:precondition`, `:effect`
abbrev pub action_named : Span → Trees → WordAt → Option Action
action_named s ts w =
    if is_field_list (slots.Parameters ∷ slots.Precondition ∷ slots.Effect ∷ []) ts
    then both (action s w)
    (both tuple (parameters_at (field slots.Parameters ts)) (effect_at (field slots.Effect ts)))
    (precondition_at (field slots.Precondition ts))
    else None

-- an action, of the section at this place: `symbol field*`
abbrev pub action_of : Span → Trees → Option Action
action_of s none = None
action_of s (more t ts) = option_and_then (action_named s ts) (symbol_of t)
