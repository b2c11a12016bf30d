use Rattle.std.proofs.Common.{min}
use Rattle.hv_order.proofs.LatestStarts.{none_looked, action_looked, node_looked, all_looked, min_first, min_second, under_both}
use Rattle.hv_order.proofs.children.latest_start.Goals as goal
use Rattle.hv_order.proofs.children.latest_start.Goals.{in-Action, in-Node}

pub loop-child-init : goal.loop-child-init
loop-child-init c = none_looked c.args.children.now c.args.cap

pub loop-child-preserved : goal.loop-child-preserved
loop-child-preserved c =
    let cs = c.args.children.now in
    let i = c.loop-child.child-index in
    let latest = c.loop-child.latest in
    elim c.match-child.branch [
      | in-Action w ↦ (
          let k = w.in-Action.action in
          rw (w.latest-is, w.min-latest.ensures)
          (action_looked cs c.args.cap i latest (min latest k) k c.loop-child.invariant w.in-Action.is (min_first latest k) (min_second latest k) (under_both latest k))
          )
      | in-Node w ↦ rw w.latest-is (node_looked cs c.args.cap i latest w.in-Node.field-0 c.loop-child.invariant w.in-Node.is)
    ]

pub returns : goal.returns
returns c = all_looked c.args.children.now c.args.cap c.loop-child.child-index c.loop-child.latest c.loop-child.invariant c.loop-child.auto.child-index-end c.loop-child-test.false
