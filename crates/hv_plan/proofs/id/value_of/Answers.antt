use Rattle.std.proofs.Common.{arith}
use Rattle.hv_plan.proofs.Lemmas.{no_value}
use Rattle.hv_plan.proofs.id.value_of.Goals as goal

pub returns-in_err-value : goal.returns-in_err-value
returns-in_err-value c =
    rw c.from_residual.ensures
    (no_value c.args.digits.now c.loop-digit.digit-index c.loop-digit.value (omega arith) c.in_err-value.ensures
    c.loop-digit.invariant.0 c.loop-digit.invariant.1)
