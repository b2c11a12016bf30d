use Rattle.hv_order.proofs.Settling.{all_arranged, from_both}
use Rattle.hv_order.proofs.Tasks.{one_begun}
use Rattle.hv_order.proofs.solve.open.Goals as goal

pub next_turn-requires-clause-arranged : goal.next_turn-requires-clause-arranged
next_turn-requires-clause-arranged g c = all_arranged (g.N.Nodes.facts c.args.nodes.now) c.requires.nodes c.args.node c.args.start _ c.in_ok-left.ensures

pub next_turn-requires-clause-earliest : goal.next_turn-requires-clause-earliest
next_turn-requires-clause-earliest g c =
    let q = g.N.Nodes.facts c.args.nodes.now in
    from_both q c.requires.nodes c.args.node c.args.start c.earliest.result c.max-earliest.result (g.N.Left.Candidates.left c.in_ok-left.left)
    c.in_ok-left.ensures c.earliest.ensures c.max-earliest.ensures

pub returns-in_ok-no_candidate-in-Some : goal.returns-in_ok-no_candidate-in-Some
returns-in_ok-no_candidate-in-Some g c =
    let q = g.N.Nodes.facts c.args.nodes.now in
    let all = g.N.Left.Candidates.left c.in_ok-left.left in
    let early =
    from_both q c.requires.nodes c.args.node c.args.start c.earliest.result c.max-earliest.result all c.in_ok-left.ensures c.earliest.ensures
    c.max-earliest.ensures in
    one_begun g.N.Left.Candidates.left q (g.N.Nodes.size c.args.nodes.now) c.args.node c.args.start all c.next_turn.new.left
    c.in_ok-no_candidate-in-Some.field-0 c.in-Some.turn c.max-earliest.result c.requires.node c.in_ok-left.ensures c.requires.start early
    (rw c.in-Some.is at c.in_ok-next_turn.ensures.next) (rw c.in-Some.is at c.in_ok-next_turn.ensures.turn)
