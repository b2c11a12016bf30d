use Rattle.std.proofs.Common.{◌≡◌, ◌++◌, drop, map}
use Rattle.hv_syntax.specs.Views.{word_view}
use Rattle.hv_syntax.specs.DeclarationViews.{task_view as said_task}
use Rattle.hv_world.specs.Names.{names}
use Rattle.hv_world.specs.Worlds.{said_task_names}
use Rattle.hv_world.proofs.build.task_names.Given as goal

abbrev pub invariant-loop-task : goal.invariant-loop-task
invariant-loop-task l = names (map word_view l.words.items) ++ said_task_names (map said_task (drop l.task-index l.tasks)) ≡ said_task_names (map said_task l.tasks)
