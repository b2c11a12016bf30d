use Rattle.std.proofs.Common.{◌∙◌}
use Rattle.hv_order.proofs.NodeFits.{plan_nodes}
use Rattle.hv_order.proofs.NodesPlaced.{plan_rows}
use Rattle.hv_order.proofs.rows.rows_of.Goals as goal

pub build-requires-clause-nodes : goal.build-requires-clause-nodes
build-requires-clause-nodes c = plan_nodes c.args.nodes.now c.requires.setting

pub returns : goal.returns
returns c =
    plan_rows c.args.nodes.now c.in_ok-rows.rows.items c.requires.setting c.requires.candidates
    (c.in_ok-rows.ensures.count ∙ c.requires.count) c.in_ok-rows.ensures.rows
