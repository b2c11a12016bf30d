-- What the declarations of the code say.
use Rattle.std.specs.Prelude.{map}
use Rattle.hv_syntax.specs.declared.predicate.PredicateText.{PredicateText}
use Rattle.hv_syntax.specs.declared.task.TaskText.{TaskText}
use Rattle.hv_syntax.specs.declared.method.MethodText.{MethodText}
use Rattle.hv_syntax.specs.declared.action.ActionText.{ActionText}
use Rattle.hv_syntax.specs.Values.{Predicate, predicate, Task, task, Method, method, Action, action}
use Rattle.hv_syntax.specs.Views.{word_view, variable_view, atom_view, formula_view, effect_view}
use Rattle.hv_syntax.specs.NetworkViews.{network_view}

abbrev pub predicate_view : PredicateText → Predicate
predicate_view p = predicate (word_view p.name) (map variable_view p.parameters.items)

abbrev pub task_view : TaskText → Task
task_view t = task t.span (word_view t.name) (map variable_view t.parameters.items)

abbrev pub method_view : MethodText → Method
method_view m =
    method m.span (word_view m.name)
    ((map variable_view m.parameters.items, atom_view m.task), network_view m.network)
    (formula_view m.precondition)

abbrev pub action_view : ActionText → Action
action_view a =
    action a.span (word_view a.name) (map variable_view a.parameters.items, effect_view a.effect)
    (formula_view a.precondition)
