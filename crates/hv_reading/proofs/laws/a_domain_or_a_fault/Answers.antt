use Rattle.hv_reading.specs.Tables.{IsDomain}
use Rattle.hv_reading.specs.FirstFaults.{IsFaultyDomain}
use Rattle.hv_reading.proofs.FaultSpellings.{domain_or_fault, no_domain_at_fault, one_domain_fault}
use Rattle.hv_reading.proofs.TextFaults.{in_domain, says_or_has, says_and_has, one_fault}
use Rattle.hv_reading.proofs.laws.a_domain_or_a_fault.Goals as goal

pub returns-clause-some : goal.returns-clause-some
returns-clause-some c = says_or_has c.a_text_has_one_reading.ensures c.expressions_or_one_fault.ensures.some c.expressions_or_one_fault.ensures.never_both c.expressions_or_one_fault.ensures.one IsDomain IsFaultyDomain domain_or_fault no_domain_at_fault one_domain_fault in_domain

pub returns-clause-never_both : goal.returns-clause-never_both
returns-clause-never_both c = says_and_has c.a_text_has_one_reading.ensures c.expressions_or_one_fault.ensures.some c.expressions_or_one_fault.ensures.never_both c.expressions_or_one_fault.ensures.one IsDomain IsFaultyDomain domain_or_fault no_domain_at_fault one_domain_fault in_domain

pub returns-clause-one : goal.returns-clause-one
returns-clause-one c = one_fault c.a_text_has_one_reading.ensures c.expressions_or_one_fault.ensures.some c.expressions_or_one_fault.ensures.never_both c.expressions_or_one_fault.ensures.one IsDomain IsFaultyDomain domain_or_fault no_domain_at_fault one_domain_fault in_domain
