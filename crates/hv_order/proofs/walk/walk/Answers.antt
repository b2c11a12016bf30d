use Rattle.std.proofs.Common.{rules, ◌≡◌, ◌-◌, None, replicate, arith}
use Rattle.hv_order.proofs.Standing.{least_of}
use Rattle.hv_order.proofs.Visiting.{root_finishes}
use Rattle.hv_order.proofs.walk.walk.Goals as goal

pub visit_all-requires-clause-finishes : goal.visit_all-requires-clause-finishes
visit_all-requires-clause-finishes g c =
    let q = g.N.Nodes.facts c.args.nodes.now in
    let n = c.args.count in
    let some = c.requires.some in
    let made : c.in_ok-starts-in-Some.starts.items ≡ replicate n None = search rules in
    rw (c.deref_mut.ensures.value, made)
    (root_finishes q n (n - 1) c.in-Some._finish (omega arith)
    (least_of q (n - 1) 0 c.in-Some._finish c.in_ok-run.run' c.in_ok-run.ensures.run c.in-Some.is))
