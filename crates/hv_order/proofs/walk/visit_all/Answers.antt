use Rattle.std.proofs.Common.{◌≡◌, ℕ, subst, arith}
use Rattle.hv_order.proofs.Visiting.{IsWalkedFrom, visited_next, all_walked, none_visited}
use Rattle.hv_order.proofs.walk.visit_all.Goals as goal

pub loop-node-init : goal.loop-node-init
loop-node-init g c = (
  none_visited (g.N.Nodes.facts c.args.nodes.now) c.args.count c.args.starts.now c.in_ok-stands.stands.items c.requires.as_many
      c.in_ok-stands.ensures c.requires.finishes c.requires.root,
  c.requires.memo,
)

pub visit-requires-clause-finishes : goal.visit-requires-clause-finishes
visit-requires-clause-finishes g c = c.loop-node.invariant.0.finishes

-- where nothing is said yet of the node
pub loop-node-preserved : goal.loop-node-preserved
loop-node-preserved g c = (
  visited_next (g.N.Nodes.facts c.args.nodes.now) c.args.count c.requires.nodes c.requires.tree c.loop-node.node c.loop-node.starts
      c.visit.new.starts c.loop-node.stands.items c.in_ok-stands-2.field-0 c.loop-node-test.true c.loop-node.auto.node c.loop-node.invariant.0
      c.visit.auto.starts c.in_ok-stands-2.ensures.visit,
  c.in_ok-stands-2.ensures.memo,
)

-- where something was, which never comes, and is let go
pub loop-node-preserved-in_ok-stands-2 : goal.loop-node-preserved-in_ok-stands-2
loop-node-preserved-in_ok-stands-2 g c = (
  visited_next (g.N.Nodes.facts c.args.nodes.now) c.args.count c.requires.nodes c.requires.tree c.loop-node.node c.loop-node.starts
      c.visit.new.starts c.loop-node.stands.items c.in_ok-stands-2.field-0 c.loop-node-test.true c.loop-node.auto.node c.loop-node.invariant.0
      c.visit.auto.starts c.in_ok-stands-2.ensures.visit,
  c.in_ok-stands-2.ensures.memo,
)

pub returns-clause-walked : goal.returns-clause-walked
returns-clause-walked g c =
    let q = g.N.Nodes.facts c.args.nodes.now in
    let count = c.args.count in
    let over = c.loop-node-test.false in
    let none : c.loop-node.node ≡ 0 = omega arith in
    let P : ℕ → Type 0 = λ i. IsWalkedFrom q count i c.loop-node.starts c.loop-node.stands.items in
    all_walked q count c.requires.nodes c.requires.tree c.loop-node.starts c.loop-node.stands.items (subst P none c.loop-node.invariant.0)
