use Rattle.std.proofs.Common.{length, subst}
use Rattle.hv_order.specs.inside.Arrangements.{arrangement_of}
use Rattle.hv_order.specs.inside.Nodes.{IsWinnerOf}
use Rattle.hv_order.proofs.Idling.{idle_by}
use Rattle.hv_order.proofs.idle.is_idle.Goals as goal

pub returns-in-Some : goal.returns-in-Some
returns-in-Some g c =
    let q = g.N.Nodes.facts c.args.nodes.now in
    let v = length c.args.rows.now in
    let candidate = c.in-Some.candidate in
    let won = subst (IsWinnerOf q v c.args.first.now.run) c.in-Some.is c.requires.first.winner in
    λ e. idle_by q c.requires.nodes v (arrangement_of candidate) won.is_candidate (c.is_idle_by.ensures e)
