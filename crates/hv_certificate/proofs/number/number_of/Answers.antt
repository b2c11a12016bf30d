use Rattle.hv_certificate.proofs.NumberLemmas.{no_bytes_no_number, zero_leads_no_number, number_is}
use Rattle.hv_certificate.proofs.number.number_of.Goals as goal

pub returns-in_default-clause-bytes : goal.returns-in_default-clause-bytes
returns-in_default-clause-bytes c = no_bytes_no_number c.args.bytes.now c.in_default.ensures.cases

pub returns-then-is_leading_zero-clause-bytes : goal.returns-then-is_leading_zero-clause-bytes
returns-then-is_leading_zero-clause-bytes c =
    let zero = rw c.if-is_leading_zero.true at c.is_leading_zero.ensures in
    zero_leads_no_number c.in-Some.first.now c.in-Some.others.now c.args.bytes.now c.in-Some.ensures.cases.0 zero.0 zero.1

pub returns-clause-bytes : goal.returns-clause-bytes
returns-clause-bytes c =
    number_is c.args.bytes.now c.in-Some.first.now c.in-Some.others.now c.value_of.result c.in-Some.ensures.cases.0
    (rw c.if-is_leading_zero.false at c.is_leading_zero.ensures) c.value_of.ensures.value c.value_of.ensures.id
