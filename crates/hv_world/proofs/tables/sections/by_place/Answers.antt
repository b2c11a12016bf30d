use Rattle.std.proofs.Common.{arith}
use Rattle.hv_world.proofs.TableLemmas.{merge_next}
use Rattle.hv_world.proofs.tables.sections.by_place.Goals as goal

pub loop-task-preserved : goal.loop-task-preserved
loop-task-preserved c =
    let l = c.loop-task in (
      c.first_behind-next.ensures.within,
      merge_next c.args.tasks.now c.args.actions.now l.task-index c.task-item.result l.done c.first_behind-next.result (omega arith) c.task-item.is l.merged.items c.push_behind.new.merged.items _
          c.first_behind-next.ensures.counted c.in_ok-push_behind.ensures l.invariant.1,
    )
