use Rattle.hv_order.proofs.Memos.{none_said, one_none_more}
use Rattle.hv_order.proofs.memo.none_won.Goals as goal

pub loop-init : goal.loop-init
loop-init c = rw c.in_ok-won.ensures.items none_said

pub loop-preserved : goal.loop-preserved
loop-preserved c = rw c.in_ok-push.ensures.items (one_none_more c.loop.counter c.loop.won.items c.loop.invariant)
