use Rattle.std.proofs.Common.{arith}
use Rattle.hv_certificate.proofs.NumberLemmas.{no_number}
use Rattle.hv_certificate.proofs.number.value_of.Goals as goal

pub returns-in_err-value-clause-value : goal.returns-in_err-value-clause-value
returns-in_err-value-clause-value c =
    rw c.from_residual.ensures
    (no_number c.args.bytes.now c.loop-byte.byte-index c.loop-byte.value (omega arith) c.in_err-value.ensures.value c.loop-byte.invariant.1)
