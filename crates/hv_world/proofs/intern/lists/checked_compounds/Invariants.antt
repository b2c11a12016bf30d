use Rattle.hv_syntax.specs.DeclarationViews.{task_view as said_task}
use Rattle.hv_world.specs.declared.fault.Side.TheVariants as sides
use Rattle.hv_world.specs.SectionViews.{task_view}
use Rattle.hv_world.specs.StaticRules.{variable_faults}
use Rattle.hv_world.specs.Worlds.{task_by}
use Rattle.hv_world.specs.inside.Tables.{known_by}
use Rattle.hv_world.proofs.CheckedLemmas.{AreChecked}
use Rattle.hv_world.proofs.intern.lists.checked_compounds.Given as goal

abbrev pub invariant-loop-task : goal.invariant-loop-task
invariant-loop-task l = AreChecked said_task (task_by (known_by l.tables)) task_view (λ x. variable_faults (known_by l.tables) sides.Domain x.parameters) l.tasks l.task-index l.numbered.value.items l.numbered.fault
