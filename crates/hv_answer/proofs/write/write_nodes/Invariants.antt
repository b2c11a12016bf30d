use Rattle.std.proofs.Common.{◌≡◌, take}
use Rattle.std.specs.Io.KnownBytes.{Appends}
use Rattle.hv_certificate.specs.Texts.{nodes_text}
use Rattle.hv_answer.proofs.write.write_nodes.Given as goal

-- the texts so far were written, and no write failed
abbrev pub invariant-loop-node : goal.invariant-loop-node
invariant-loop-node g l =
    Appends (g.W.Sink.taken l.fn.out) (g.W.Sink.taken l.out) (nodes_text (take l.node-index l.nodes))
    × (g.W.Sink.failures l.out ≡ g.W.Sink.failures l.fn.out)
