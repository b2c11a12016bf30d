use Rattle.std.proofs.Common.{ap}
use Rattle.hv_lists.proofs.Options.{on_err}
use Rattle.hv_certificate.specs.Texts.{node_text}
use Rattle.hv_answer.proofs.WriteLemmas.{item_fails}
use Rattle.hv_answer.proofs.write.write_nodes.Goals as goal

pub returns-in_err-write_node-clause-err : goal.returns-in_err-write_node-clause-err
returns-in_err-write_node-clause-err g c =
    on_err c.from_residual.result _
    (item_fails node_text _ _ _ c.args.nodes.now c.loop-node.node-index c.node-item.result _ c.loop-node-test.true (ap node_text c.node-item.is) c.loop-node.invariant.0 c.in_err-write_node.ensures.err)
