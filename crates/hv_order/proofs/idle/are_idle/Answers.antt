use Rattle.std.proofs.Common.{arith}
use Rattle.hv_order.proofs.Idling.{idle_more}
use Rattle.hv_order.proofs.idle.are_idle.Goals as goal

pub loop-child-init : goal.loop-child-init
loop-child-init g c = λ j lt. absurd (omega (arith, lt))

pub loop-child-preserved : goal.loop-child-preserved
loop-child-preserved g c =
    let q = g.N.Nodes.facts c.args.nodes.now in
    let here = c.is_idle_child.ensures c.if-not-is_idle_child.false in
    idle_more q c.args.children.now c.loop-child.child-index c.loop-child.invariant here

pub returns : goal.returns
returns g c = λ e j lt. c.loop-child.invariant j (omega (arith, lt, c.loop-child-test.false))
