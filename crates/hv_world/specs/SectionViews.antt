-- What the tasks and actions of the code say.
use Rattle.std.specs.Prelude.{map}
use Rattle.hv_text.specs.Names.{text_of}
use Rattle.hv_world.specs.declared.task.Task as code_task
use Rattle.hv_world.specs.declared.action.Action as code_action
use Rattle.hv_world.specs.Values.{effects_of}
use Rattle.hv_world.specs.Views.{type_number, formula_view, effect_view}
use Rattle.hv_world.specs.Worlds.{Task, task, Action, action}

abbrev pub task_view : code_task.Task → Task
task_view t = task (text_of t.name) (map type_number t.parameters.items)

abbrev pub action_view : code_action.Action → Action
action_view a =
    action (text_of a.name) (map type_number a.parameters.items) (formula_view a.precondition)
    (effects_of (map effect_view a.effect.items))
