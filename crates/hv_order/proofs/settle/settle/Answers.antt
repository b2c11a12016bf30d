use Rattle.std.proofs.Common.{length}
use Rattle.hv_order.proofs.Settling.{all_arranged, settled_is}
use Rattle.hv_order.proofs.settle.settle.Goals as goal

pub best_of-requires-clause-known : goal.best_of-requires-clause-known
best_of-requires-clause-known g c = λ v s h. h

pub best_of-requires-clause-arranged : goal.best_of-requires-clause-arranged
best_of-requires-clause-arranged g c =
    let q = g.N.Nodes.facts c.args.nodes.now in
    all_arranged q c.requires.nodes (length c.args.rows.now) c.args.start _ c.in_ok-left.ensures

pub returns : goal.returns
returns g c =
    let q = g.N.Nodes.facts c.args.nodes.now in
    let v = length c.args.rows.now in
    let last = c.last-last.ensures.last in
    rw (c.run_of.ensures, last) (settled_is q c.requires.nodes v c.args.start _ c.in_ok-left.ensures c.requires.start c.in_ok-winner.winner c.in_ok-winner.ensures)
