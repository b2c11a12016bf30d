use Rattle.std.proofs.Common.{rules, ◌≡◌, replicate, refl, arith}
use Rattle.hv_order.specs.inside.Arrangements.{arrangement_of}
use Rattle.hv_order.specs.inside.Facts.{IsFirstStretch}
use Rattle.hv_order.proofs.Framing.{none_true, up_to_cap, begun, zeros_under}
use Rattle.hv_order.proofs.frame.begin.Goals as goal

pub returns-in_ok-finishes-in-Some : goal.returns-in_ok-finishes-in-Some
returns-in_ok-finishes-in-Some g c =
    let q = g.T.Table.facts c.args.table.now in
    let found : IsFirstStretch (q.holds (arrangement_of c.args.candidate.now)) c.args.start c.latest_start-latest.result c.in-Some.truth = rw c.in-Some.is at c.first_true.ensures in
    let is = up_to_cap q c.requires.fits c.args.start c.args.candidate.now c.requires.arranged c.args.cap c.latest_start-latest.result c.in-Some.truth (rw c.deref.ensures.value at c.latest_start-latest.ensures) found in
    let made : c.in_ok-finishes-in-Some.finishes.items ≡ replicate c.len.result 0 = search rules in
    let room = c.in_ok-finishes-in-Some.ensures.len in
    (begun q c.requires.fits c.args.start c.args.candidate.now c.requires.arranged c.args.cap c.in-Some.truth _ is c.requires.cap refl refl refl refl refl (omega (arith, c.in_ok-finishes-in-Some.finishes.ok.0, c.args.candidate.now.children.ok.0, room, c.len.ensures)) (λ i. rw made (zeros_under c.len.result i)), refl)

pub returns-in-None : goal.returns-in-None
returns-in-None g c =
    none_true (g.T.Table.facts c.args.table.now) c.requires.fits c.args.start c.args.candidate.now c.requires.arranged c.args.cap c.latest_start-latest.result
    (rw c.deref.ensures.value at c.latest_start-latest.ensures) (rw c.in-None.is at c.first_true.ensures)
