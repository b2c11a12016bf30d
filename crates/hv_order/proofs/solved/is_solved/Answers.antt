use Rattle.std.proofs.Common.{rules, ◌≡◌, length, arith}
use Rattle.hv_order.proofs.NodeFits.{plan_nodes}
use Rattle.hv_order.proofs.PlanWalks.{told_by_run}
use Rattle.hv_order.proofs.solved.is_solved.Goals as goal

pub run_for-requires-clause-nodes : goal.run_for-requires-clause-nodes
run_for-requires-clause-nodes c = plan_nodes c.args.nodes.now c.requires.setting

pub returns-clause-solved : goal.returns-clause-solved
returns-clause-solved c =
    let count : c.node_count-root.result ≡ length c.args.nodes.now.tree.nodes = search rules in
    rw c.is_some.ensures
    (told_by_run c.args.nodes.now c.requires.setting c.node_count-root.result count c.in_ok-run.run'.finish
    (c.in_ok-run.ensures.run.least 0 (omega arith) c.in_ok-run.ensures.run.begun))
