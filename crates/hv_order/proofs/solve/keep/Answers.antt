use Rattle.hv_order.proofs.Learning.{learned, remembered, keeps_still}
use Rattle.hv_order.proofs.solve.keep.Goals as goal

pub returns-in_err-learn-clause-memo : goal.returns-in_err-learn-clause-memo
returns-in_err-learn-clause-memo g c =
    learned (g.N.Nodes.facts c.args._nodes.now) (g.N.Nodes.size c.args._nodes.now) c.args.memo.now c.learn.new.self c.args.node c.args.start c.args.settled.run
    c.requires.memo c.learn.ensures.keeps c.learn.ensures.won c.requires.settled.run

pub returns-then-is_some-clause-memo : goal.returns-then-is_some-clause-memo
returns-then-is_some-clause-memo g c =
    let q = g.N.Nodes.facts c.args._nodes.now in
    let size = g.N.Nodes.size c.args._nodes.now in
    remembered q size c.learn.new.self c.remember.new.self c.args.node c.args.start c.args.settled
    (learned q size c.args.memo.now c.learn.new.self c.args.node c.args.start c.args.settled.run
    c.requires.memo c.learn.ensures.keeps c.learn.ensures.won c.requires.settled.run)
    c.remember.ensures.same c.remember.ensures.won c.requires.settled

pub returns-then-is_some-clause-keeps : goal.returns-then-is_some-clause-keeps
returns-then-is_some-clause-keeps g c =
    keeps_still c.args.memo.now c.learn.new.self c.remember.new.self c.args.node c.args.start c.args.settled.run c.learn.ensures.keeps c.remember.ensures.same

pub returns-else-is_some-clause-memo : goal.returns-else-is_some-clause-memo
returns-else-is_some-clause-memo g c =
    learned (g.N.Nodes.facts c.args._nodes.now) (g.N.Nodes.size c.args._nodes.now) c.args.memo.now c.learn.new.self c.args.node c.args.start c.args.settled.run
    c.requires.memo c.learn.ensures.keeps c.learn.ensures.won c.requires.settled.run
