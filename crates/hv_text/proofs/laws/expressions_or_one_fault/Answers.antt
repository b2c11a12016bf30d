use Rattle.hv_text.proofs.TextFaults.{some_reading, never_both, one_own_fault}
use Rattle.hv_text.proofs.laws.expressions_or_one_fault.Goals as goal

pub returns-clause-some : goal.returns-clause-some
returns-clause-some c = some_reading

pub returns-clause-never_both : goal.returns-clause-never_both
returns-clause-never_both c = never_both

pub returns-clause-one : goal.returns-clause-one
returns-clause-one c = one_own_fault
