use Rattle.std.proofs.Common.{not, ap, ◌∙◌}
use Rattle.hv_world.proofs.LineLemmas.{some_there, part_more}
use Rattle.hv_world.proofs.nested.have_parts.Goals as goal

pub loop-number-preserved : goal.loop-number-preserved
loop-number-preserved c =
    let spans = c.args.spans.now in
    let n = c.loop-number.number in
    part_more spans n c.loop-number.invariant (some_there spans n c.loop-number-test.true (c.is_none.ensures ∙ ap not c.if-is_none.false))
