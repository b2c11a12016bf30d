use Rattle.std.proofs.Common.{◌≡◌, ◌+◌, length, length-append, refl, arith}
use Rattle.hv_order.specs.inside.Runs.{IsRowOf}
use Rattle.hv_order.proofs.RunLemmas.{each_more}
use Rattle.hv_order.proofs.runs.build.Goals as goal

pub make_row-requires-clause-rows : goal.make_row-requires-clause-rows
make_row-requires-clause-rows g c = rw c.deref.ensures.value c.loop-node.invariant.rows

pub loop-node-preserved : goal.loop-node-preserved
loop-node-preserved g c =
    let q = g.N.Nodes.facts c.args.nodes.now in
    let rows = c.loop-node.rows.items in
    let inv = c.loop-node.invariant in
    let count = inv.count in
    let items = c.in_ok-push.ensures.items in
    let made : IsRowOf q (length rows) c.in_ok-made.made = rw c.deref.ensures.value at c.in_ok-made.ensures in
    let long : length c.push.new.self.items ≡ length rows + 1 = rw (items, length-append) refl in
    record {
      count = omega arith;
      rows = rw items (each_more (λ v r. IsRowOf q v r) rows c.in_ok-made.made inv.rows made);
    }
