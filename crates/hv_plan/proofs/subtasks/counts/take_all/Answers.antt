use Rattle.std.proofs.Common.{◌<◌, take, get_or, refl, arith}
use Rattle.hv_plan.specs.inside.Tallies.{times}
use Rattle.hv_plan.proofs.TallyLemmas.{times_at}
use Rattle.hv_plan.proofs.subtasks.counts.take_all.Goals as goal

pub returns-then-left-eq0-clause-taken : goal.returns-then-left-eq0-clause-taken
returns-then-left-eq0-clause-taken c =
    let i = c.loop-number.number-index in
    let xs = c.args.numbers.now in
    let e = c.loop-number.invariant.1 (get_or xs i 0) in
    let less : times (get_or xs i 0) (take i xs) < times (get_or xs i 0) xs = times_at (get_or xs i 0) xs i 0 c.loop-number-test.true refl in
    (get_or xs i 0, omega (arith, e, less, c.if-left-eq0.true))
