use Rattle.std.proofs.Common.{arith, below_more}
use Rattle.hv_world.specs.WorldViews.{world_view}
use Rattle.hv_plan.specs.BuiltTrees.{tree_view}
use Rattle.hv_order.specs.inside.Checks.{KeepsNode, matching_in}
use Rattle.hv_order.proofs.Checked.{told_no}
use Rattle.hv_order.proofs.check.out_of_order.Goals as goal

pub loop-node-preserved : goal.loop-node-preserved
loop-node-preserved c =
    let e = c.args.entries.now in
    below_more (λ v. KeepsNode (world_view c.args.world.now) (tree_view c.args.tree.now) e.starts.items c.args.finishes.now v (matching_in e.matchings v)) c.loop-node.node
    c.loop-node.invariant (c.keeps_node.ensures.0 c.if-not-keeps_node.false)

pub returns-then-not-keeps_node-clause-order : goal.returns-then-not-keeps_node-clause-order
returns-then-not-keeps_node-clause-order c =
    let e = c.args.entries.now in
    let v = c.loop-node.node in
    record {
      is_node = omega (arith, c.loop-node-test.true, c.node_count-node-end.ensures);
      not = told_no (KeepsNode (world_view c.args.world.now) (tree_view c.args.tree.now) e.starts.items c.args.finishes.now v (matching_in e.matchings v)) c.keeps_node.result c.keeps_node.ensures
          c.if-not-keeps_node.true;
    }

pub returns-clause-order : goal.returns-clause-order
returns-clause-order c = λ v lt.
    c.loop-node.invariant v (omega (arith, lt, c.loop-node-test.false, c.node_count-node-end.ensures))
