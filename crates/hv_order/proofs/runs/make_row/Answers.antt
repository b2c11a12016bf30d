use Rattle.std.proofs.Common.{length}
use Rattle.hv_order.proofs.Idling.{idle_is_row}
use Rattle.hv_order.proofs.runs.make_row.Goals as goal

pub make_runs-requires-clause-first : goal.make_runs-requires-clause-first
make_runs-requires-clause-first g c = c.in_ok-first.ensures.run

pub returns-then-is_idle : goal.returns-then-is_idle
returns-then-is_idle g c = idle_is_row (g.N.Nodes.facts c.args.nodes.now) (length c.args.rows.now) (c.is_idle.ensures c.if-is_idle.true)

pub returns : goal.returns
returns g c = record { runs = c.in_ok-runs.ensures.row; apart = c.in_ok-runs.ensures.apart }
