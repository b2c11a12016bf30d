use Rattle.std.proofs.Common.{◌≡◌, ◌++◌, drop}
use Rattle.hv_certificate.specs.Texts.{nodes_text}
use Rattle.hv_certificate.proofs.print.put_nodes.Given as goal

abbrev pub invariant-loop-node : goal.invariant-loop-node
invariant-loop-node l = l.out.items ++ nodes_text (drop l.node-index l.nodes) ≡ l.initial.out.items ++ nodes_text l.nodes
