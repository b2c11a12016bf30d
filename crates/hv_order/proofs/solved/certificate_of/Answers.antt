use Rattle.std.proofs.Common.{rules, ◌≡◌, length}
use Rattle.hv_order.specs.inside.PlanFacts.{plan_facts}
use Rattle.hv_order.proofs.Learning.{none_left, still_known}
use Rattle.hv_order.proofs.NodeFits.{plan_nodes}
use Rattle.hv_order.proofs.PlanWalks.{one_parent, none_walked}
use Rattle.hv_order.proofs.solved.certificate_of.Goals as goal

pub walk-requires-clause-nodes : goal.walk-requires-clause-nodes
walk-requires-clause-nodes c = plan_nodes c.args.nodes.now c.requires.setting

pub walk-requires-clause-tree : goal.walk-requires-clause-tree
walk-requires-clause-tree c = one_parent c.args.nodes.now c.requires.setting

pub returns-in-None-clause-certificate : goal.returns-in-None-clause-certificate
returns-in-None-clause-certificate c =
    let count : c.node_count.result ≡ length c.args.nodes.now.tree.nodes = search rules in
    none_walked c.args.nodes.now c.requires.setting c.node_count.result c.in_ok-walk.field-0 count c.in_ok-walk.ensures.walk c.in-None.is

pub returns-in_err-certificate-in-Some-clause-memo : goal.returns-in_err-certificate-in-Some-clause-memo
returns-in_err-certificate-in-Some-clause-memo c =
    still_known (plan_facts c.args.nodes.now) (length c.args.nodes.now.tree.nodes) _ _ c.in_ok-walk.ensures.memo c.forget_winners.ensures.same
    (none_left _ _ c.forget_winners.ensures.gone)

pub returns-in_ok-certificate-in-Some-clause-memo : goal.returns-in_ok-certificate-in-Some-clause-memo
returns-in_ok-certificate-in-Some-clause-memo c =
    still_known (plan_facts c.args.nodes.now) (length c.args.nodes.now.tree.nodes) _ _ c.in_ok-walk.ensures.memo c.forget_winners.ensures.same
    (none_left _ _ c.forget_winners.ensures.gone)
