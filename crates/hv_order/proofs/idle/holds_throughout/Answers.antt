use Rattle.std.proofs.Common.{sym}
use Rattle.hv_order.specs.inside.Arrangements.{arrangement_of}
use Rattle.hv_order.specs.inside.Facts.{IsFirstStretch}
use Rattle.hv_order.proofs.Idling.{throughout}
use Rattle.hv_order.proofs.idle.holds_throughout.Goals as goal

pub returns-in-Some : goal.returns-in-Some
returns-in-Some g c =
    let q = g.N.Nodes.facts c.args.nodes.now in
    let candidate = arrangement_of c.args.candidate.now in
    let found : IsFirstStretch (q.holds candidate) 0 c.last-last.result c.in-Some.truth = rw c.in-Some.is at c.first_true.ensures in
    λ e.
    let (first, last) = c.is_whole.ensures.0 e in
    throughout q candidate c.last-last.result c.in-Some.truth found first (rw (sym c.last-last.ensures.last) last)
