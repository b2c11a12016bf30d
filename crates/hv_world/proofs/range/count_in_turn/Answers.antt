use Rattle.std.proofs.Common.{arith}
use Rattle.hv_world.proofs.RangeLemmas.{below_more}
use Rattle.hv_world.proofs.range.count_in_turn.Goals as goal

pub loop-end-preserved : goal.loop-end-preserved
loop-end-preserved c =
    below_more c.args.objects.now c.args.number c.args.until c.loop-end.end (record { 0 = 0 }) (omega (arith, c.if-objects-number.false)) (omega (arith, c.loop-end-test.true)) (omega (arith, c.if-object-first.false)) (omega (arith, c.if-until-object.false)) c.loop-end.invariant
