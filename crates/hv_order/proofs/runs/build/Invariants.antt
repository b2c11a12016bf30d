use Rattle.std.proofs.Common.{◌≡◌, length}
use Rattle.hv_order.specs.inside.Runs.{AreRows}
use Rattle.hv_order.proofs.runs.build.Given as goal

abbrev pub invariant-loop-node : goal.invariant-loop-node
invariant-loop-node g l = record {
  count : length l.rows.items ≡ l.node;
  rows : AreRows (g.N.Nodes.facts l.nodes) l.rows.items;
}
