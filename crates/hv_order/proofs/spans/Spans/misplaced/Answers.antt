use Rattle.std.proofs.Common.{arith}
use Rattle.hv_order.proofs.SpanLemmas.{in_order_true}
use Rattle.hv_order.proofs.spans.Spans.misplaced.Goals as goal

pub returns : goal.returns
returns c =
    in_order_true c.args.self.now c.args.children.now c.args.direct.now
    (λ l lt. c.loop-latter.invariant l (omega (arith, lt, c.len-latter-end.ensures, c.loop-latter-test.false)))
