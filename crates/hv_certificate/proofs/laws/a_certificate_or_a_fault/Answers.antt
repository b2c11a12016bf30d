use Rattle.hv_certificate.proofs.LawLemmas.{faultless, one_fault}
use Rattle.hv_certificate.proofs.laws.a_certificate_or_a_fault.Goals as goal

pub returns-clause-faultless : goal.returns-clause-faultless
returns-clause-faultless c = faultless

pub returns-clause-one_fault : goal.returns-clause-one_fault
returns-clause-one_fault c = one_fault
