use Rattle.std.proofs.Common.{◌≡◌, ◌++◌, drop, map}
use Rattle.hv_reading.specs.CanonicalSections.{lines, section_of_each, task_section}
use Rattle.hv_syntax.specs.DeclarationViews.{task_view}
use Rattle.hv_reading.proofs.print.declarations.put_tasks.Given as goal

abbrev pub invariant-loop-task : goal.invariant-loop-task
invariant-loop-task l = l.out.items ++ lines (section_of_each task_section (map task_view (drop l.task-index l.tasks))) ≡ l.initial.out.items ++ lines (section_of_each task_section (map task_view l.tasks))
