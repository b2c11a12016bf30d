use Rattle.std.proofs.Common.{◌≡◌, arith, subst}
use Rattle.hv_world.specs.inside.Lines.{AreAll}
use Rattle.hv_world.proofs.LineLemmas.{all_more}
use Rattle.hv_world.proofs.nested.all_objects.Goals as goal

pub loop-number-preserved : goal.loop-number-preserved
loop-number-preserved c = all_more c.loop-number.number c.loop-number.all c.push.new.self c.loop-number.invariant (c.in_ok-push.ensures.put c.if-not-branch.false)

pub returns : goal.returns
returns c =
    let count : c.loop-number.number ≡ c.args.count = omega (arith, c.loop-number-test.false, c.loop-number.auto.number-end) in
    subst (λ n. AreAll n c.loop-number.all) count c.loop-number.invariant
