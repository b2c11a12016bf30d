use Rattle.std.proofs.Common.{◌≡◌, ◌+◌, ◌-◌, arith}
use Rattle.hv_lists.proofs.Places.{slice_get_here}
use Rattle.hv_order.proofs.EntryLemmas.{line_is_part}
use Rattle.hv_order.proofs.entries.said_at.Goals as goal

pub returns : goal.returns
returns c =
    let place : c.args.place ≡ (c.args.place - 1) + 1 = omega (arith, c.if-place-eq0.false) in
    line_is_part c.args.certificate.now c.args.place (c.args.place - 1) c.index.result.now c.line_part.result.choice.now c.line_part.result.at place
    (slice_get_here c.args.certificate.now.lines.items (c.args.place - 1) c.index.result.now (omega (arith, place, c.requires)) c.index.ensures)
    c.line_part.ensures.choice c.line_part.ensures.index
