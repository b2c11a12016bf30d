use Rattle.std.proofs.Common.{arith}
use Rattle.hv_syntax.specs.DeclarationViews.{task_view as said_task}
use Rattle.hv_world.specs.declared.fault.Side.TheVariants as sides
use Rattle.hv_world.specs.SectionViews.{task_view}
use Rattle.hv_world.specs.StaticRules.{variable_faults}
use Rattle.hv_world.specs.Worlds.{task_by}
use Rattle.hv_world.specs.inside.Tables.{known_by}
use Rattle.hv_world.proofs.CheckedLemmas.{one_more}
use Rattle.hv_world.proofs.intern.lists.checked_compounds.Goals as goal

pub loop-task-preserved : goal.loop-task-preserved
loop-task-preserved c =
    let l = c.loop-task in
    let a = c.args in
    let k = known_by a.tables.now in
    one_more said_task (task_by k) task_view (λ x. variable_faults k sides.Domain x.parameters) a.tasks.now l.task-index c.task-item.result l.numbered.value.items l.numbered.fault l.invariant (omega arith) c.task-item.is c.in_ok-checked_compound.ensures.value c.in_ok-checked_compound.ensures.fault c.in_ok-push.ensures.value c.in_ok-push.ensures.fault
