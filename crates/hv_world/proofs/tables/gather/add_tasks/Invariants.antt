use Rattle.std.proofs.Common.{map, take}
use Rattle.std.specs.List.{flat_map}
use Rattle.hv_syntax.specs.DeclarationViews.{task_view}
use Rattle.hv_world.specs.inside.Gathers.{lists_in, AreGathered}
use Rattle.hv_world.proofs.tables.gather.add_tasks.Given as goal

abbrev pub invariant-loop-task : goal.invariant-loop-task
invariant-loop-task l = AreGathered (lists_in l.initial.lists) (flat_map (λ t. t.parameters) (map task_view (take l.task-index l.tasks))) (lists_in l.lists)
