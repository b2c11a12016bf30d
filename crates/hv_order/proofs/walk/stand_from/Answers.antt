use Rattle.std.proofs.Common.{refl}
use Rattle.hv_order.specs.inside.Arrangements.{arrangement_of}
use Rattle.hv_order.proofs.Standing.{winner_gives, stands_by}
use Rattle.hv_order.proofs.walk.stand_from.Goals as goal

pub returns-clause-stand : goal.returns-clause-stand
returns-clause-stand g c =
    let q = g.N.Nodes.facts c.args.nodes.now in
    let v = c.args.node in
    let r = c.in_ok-settled.settled.run in
    let w = c.in-Some-winner.winner in
    let gives = winner_gives q v r c.in_ok-settled.settled.winner w c.in_ok-settled.ensures.settled.winner c.in-Some-winner.is in
    rw c.in-Some-winner.winner-is
    (stands_by q v c.args.start c.in-Some.finish r c.in_ok-settled.ensures.settled.run c.in-Some.is (arrangement_of w) gives w
    c.in-Some-first_true.truth refl (rw (c.in-Some-winner.winner-is, c.in-Some-first_true.is) at c.first_true.ensures))
