use Rattle.std.proofs.Common.{arith}
use Rattle.hv_reading.specs.inside.Networks.{subtask_of}
use Rattle.hv_syntax.specs.NetworkViews.{subtask_view}
use Rattle.hv_reading.proofs.Lists.{read_more}
use Rattle.hv_reading.proofs.network.read_subtasks.Goals as goal

pub loop-e-preserved : goal.loop-e-preserved
loop-e-preserved c =
    let l = c.loop-e in
    rw c.in_ok-push.ensures.items
    (read_more subtask_of subtask_view c.args.es.now l.e-index c.e-item.result l.subtasks.items c.in_ok-read_subtask.field-0 _ (omega arith) c.e-item.is c.in_ok-read_subtask.ensures l.invariant)
