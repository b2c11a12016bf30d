use Rattle.hv_match.proofs.Steps.{differ_at}
use Rattle.hv_match.proofs.puzzle.Puzzle.may_all_be.Goals as goal

pub returns-then-not-may_be : goal.returns-then-not-may_be
returns-then-not-may_be c = λ e B a m.
    c.may_be.ensures c.if-not-may_be.true B a (differ_at B c.args.terms.now c.args.objects.now c.loop-at.at _ _ c.loop-at-test.true c.if-at-objects.true m)
