use Rattle.std.proofs.Common.{sym}
use Rattle.hv_order.proofs.Learning.{known_run}
use Rattle.hv_order.proofs.solve.run_for.Goals as goal

pub returns-in-Known-clause-run : goal.returns-in-Known-clause-run
returns-in-Known-clause-run g c =
    known_run (g.N.Nodes.facts c.args.nodes.now) (g.N.Nodes.size c.args.nodes.now) c.args.memo.now c.requires.memo c.args.node c.args.start c.in-Known.run' (sym c.in-Known.ensures)
