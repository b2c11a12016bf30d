use Rattle.hv_reading.proofs.FaultSpellings.{domain_fault_table, problem_fault_table}
use Rattle.hv_reading.proofs.laws.faults_are_first.Goals as goal

pub returns-clause-domains : goal.returns-clause-domains
returns-clause-domains c = domain_fault_table

pub returns-clause-problems : goal.returns-clause-problems
returns-clause-problems c = problem_fault_table
