use Rattle.hv_order.specs.inside.Memos.{AreKnown}
use Rattle.hv_order.proofs.Visiting.{IsWalkedFrom}
use Rattle.hv_order.proofs.walk.visit_all.Given as goal

abbrev pub invariant-loop-node : goal.invariant-loop-node
invariant-loop-node g l =
    IsWalkedFrom (g.N.Nodes.facts l.nodes) l.count l.node l.starts l.stands.items
    × AreKnown (g.N.Nodes.facts l.nodes) (g.N.Nodes.size l.nodes) l.memo
