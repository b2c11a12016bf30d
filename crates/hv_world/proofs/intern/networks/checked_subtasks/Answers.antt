use Rattle.std.proofs.Common.{arith}
use Rattle.hv_syntax.specs.NetworkViews.{subtask_view as said_subtask}
use Rattle.hv_world.specs.StaticRules.{subtask_faults}
use Rattle.hv_world.specs.inside.Tables.{known_by, scope_view}
use Rattle.hv_world.specs.Views.{subtask_view}
use Rattle.hv_world.specs.Worlds.{task_in}
use Rattle.hv_world.proofs.CheckedLemmas.{one_more}
use Rattle.hv_world.proofs.intern.networks.checked_subtasks.Goals as goal

pub loop-subtask-preserved : goal.loop-subtask-preserved
loop-subtask-preserved c =
    let l = c.loop-subtask in
    let a = c.args in
    let k = known_by a.tables.now in
    let scope = scope_view a.scope.now in
    one_more said_subtask (λ x. task_in k scope x.task) subtask_view (subtask_faults k a.side scope) a.subtasks.now l.subtask-index c.subtask-item.result l.numbered.value.items l.numbered.fault l.invariant (omega arith) c.subtask-item.is c.in_ok-checked.ensures.value c.in_ok-checked.ensures.fault c.in_ok-push.ensures.value c.in_ok-push.ensures.fault
