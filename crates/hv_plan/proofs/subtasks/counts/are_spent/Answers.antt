use Rattle.std.proofs.Common.{◌≡◌, get_or, take, sym}
use Rattle.std.proofs.lemmas.List.{take_all}
use Rattle.std.proofs.lemmas.List.Elements.{All-more, All-same}
use Rattle.hv_plan.proofs.subtasks.counts.are_spent.Goals as goal

pub loop-number-preserved : goal.loop-number-preserved
loop-number-preserved c =
    All-more (λ n. get_or c.args.counts.now n 0 ≡ 0) c.args.numbers.now c.loop-number.number-index 0 c.loop-number-test.true c.loop-number.invariant c.if-counts-number-ne0.false

pub returns : goal.returns
returns c =
    All-same (λ n. get_or c.args.counts.now n 0 ≡ 0) c.args.numbers.now (take c.loop-number.number-index c.args.numbers.now)
    (sym (take_all c.loop-number.number-index c.args.numbers.now c.loop-number-test.false)) c.loop-number.invariant
