use Rattle.std.proofs.Common.{◌+◌}
use Rattle.hv_order.specs.inside.Memos.{AreKnown, to_learn}
use Rattle.hv_order.specs.inside.Tasks.{pair_of}
use Rattle.hv_order.proofs.Stacks.{IsStack}
use Rattle.hv_order.proofs.solve.solve.Given as goal

abbrev pub invariant-loop-room : goal.invariant-loop-room
invariant-loop-room g l =
    let q = g.N.Nodes.facts l.nodes in
    let size = g.N.Nodes.size l.nodes in
    AreKnown q size l.memo
    × IsStack g.N.Left.Candidates.left q size l.memo (record { node = l.node; start = l.start }) l.below.items l.top

abbrev pub decreases-loop-room : goal.decreases-loop-room
decreases-loop-room g l =
    to_learn (g.N.Nodes.facts l.nodes).last (g.N.Nodes.size l.nodes) l.memo + (pair_of l.top).node
