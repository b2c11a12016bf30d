use Rattle.hv_order.proofs.Learning.{still_known, taken_settled}
use Rattle.hv_order.proofs.solve.settled_from.Goals as goal

pub solve-requires-clause-memo : goal.solve-requires-clause-memo
solve-requires-clause-memo g c =
    still_known (g.N.Nodes.facts c.args.nodes.now) (g.N.Nodes.size c.args.nodes.now) c.args.memo.now c.take_won.new.self c.requires.memo c.take_won.ensures.same c.take_won.ensures.left

pub returns-in-Some-clause-settled : goal.returns-in-Some-clause-settled
returns-in-Some-clause-settled g c =
    taken_settled (g.N.Nodes.facts c.args.nodes.now) (g.N.Nodes.size c.args.nodes.now) c.args.memo.now c.requires.memo c.args.node c.args.start c.in-Some.settled c.in-Some.ensures.taken

pub returns-in-Some-clause-memo : goal.returns-in-Some-clause-memo
returns-in-Some-clause-memo g c =
    still_known (g.N.Nodes.facts c.args.nodes.now) (g.N.Nodes.size c.args.nodes.now) c.args.memo.now c.take_won.new.self c.requires.memo c.take_won.ensures.same c.take_won.ensures.left
