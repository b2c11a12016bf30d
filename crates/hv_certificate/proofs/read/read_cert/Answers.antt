use Rattle.std.proofs.Common.{arith}
use Rattle.std.proofs.lemmas.Result.{err_from_is_err_and}
use Rattle.hv_certificate.proofs.LineLemmas.{first_off, root_off, lines_fault}
use Rattle.hv_certificate.proofs.read.read_cert.Goals as goal

pub returns-in_default-clause-err : goal.returns-in_default-clause-err
returns-in_default-clause-err c =
    (omega (arith, c.if-text-gt-MOST_BYTES.false), first_off c.args.text.now c.in_default.ensures)

pub returns-in_default-2-clause-err : goal.returns-in_default-2-clause-err
returns-in_default-2-clause-err c = (
  omega (arith, c.if-text-gt-MOST_BYTES.false),
  root_off c.args.text.now c.in-Some.left.now c.in-Some.ensures (rw c.in_default-2.is at c.in_ok-root.ensures),
)

pub returns-in_err-lines-clause-err : goal.returns-in_err-lines-clause-err
returns-in_err-lines-clause-err c =
    let read = rw c.in-Some-2.is at c.in_ok-root.ensures in
    let fault = lines_fault c.args.text.now c.in-Some.left.now c.in-Some-2.left.now c.in-Some-2.root c.in_err-lines.field-0.0
    (omega (arith, c.if-text-gt-MOST_BYTES.false)) c.in-Some.ensures read.1 read.0 c.in_err-lines.ensures.err in
    let p = err_from_is_err_and c.from_residual-in_err-lines.result c.from_residual-in_err-lines.ensures.1 in rw (p.1, p.2) fault
