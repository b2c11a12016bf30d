use Rattle.std.proofs.Common.{arith}
use Rattle.hv_reading.specs.CanonicalSections.{task_section}
use Rattle.hv_syntax.specs.DeclarationViews.{task_view}
use Rattle.hv_reading.proofs.PrintLemmas.{put_line}
use Rattle.hv_reading.proofs.print.declarations.put_tasks.Goals as goal

pub loop-task-preserved : goal.loop-task-preserved
loop-task-preserved c =
    let l = c.loop-task in
    put_line task_section task_view c.args.tasks.now l.task-index c.task-item.result l.out.items _ (omega arith) c.task-item.is c.in_ok-put_task.ensures c.in_ok-push.ensures.items l.invariant
