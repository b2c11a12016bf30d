use Rattle.std.proofs.Common.{arith}
use Rattle.hv_order.proofs.Idling.{idle_as_many, kept_as_many}
use Rattle.hv_order.proofs.runs.count_in.Goals as goal

pub returns-in-Idle : goal.returns-in-Idle
returns-in-Idle g c = idle_as_many (g.N.Nodes.facts c.args.nodes.now).last _ c.args.row.now c.in-Idle.is (omega (arith, c.last.ensures.last))

pub returns-in-Runs : goal.returns-in-Runs
returns-in-Runs g c = kept_as_many (g.N.Nodes.facts c.args.nodes.now).last _ c.args.row.now c.in-Runs.runs c.in-Runs.is (omega (arith, c.in-Runs.runs.ok.0, c.len.ensures))
