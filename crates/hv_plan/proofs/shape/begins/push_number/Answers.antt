use Rattle.hv_plan.proofs.HeadLists.{push_next}
use Rattle.hv_plan.proofs.shape.begins.push_number.Goals as goal

pub loop-child-preserved : goal.loop-child-preserved
loop-child-preserved c =
    push_next (λ _. c.args.line) c.args.children.now c.loop-child._child-index c.loop-child.numbers.items c.push.new.self.items _ c.loop-child-test.true c.in_ok-push.ensures.items
    c.loop-child.invariant
