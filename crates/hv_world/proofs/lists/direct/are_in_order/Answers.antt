use Rattle.std.proofs.Common.{arith}
use Rattle.hv_world.proofs.lists.direct.are_in_order.Goals as goal

pub returns : goal.returns
returns c = λ _ k p lt. c.loop-place.invariant k p (omega (arith, lt, c.loop-place-test.false))
