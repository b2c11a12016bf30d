use Rattle.hv_reading.proofs.FaultSpellings.{domain_or_fault, no_domain_at_fault, one_domain_fault, problem_or_fault, no_problem_at_fault, one_problem_fault}
use Rattle.hv_reading.proofs.laws.a_value_or_a_fault.Goals as goal

pub returns-clause-domain : goal.returns-clause-domain
returns-clause-domain c = domain_or_fault

pub returns-clause-no_faulty_domain : goal.returns-clause-no_faulty_domain
returns-clause-no_faulty_domain c = no_domain_at_fault

pub returns-clause-one_domain_fault : goal.returns-clause-one_domain_fault
returns-clause-one_domain_fault c = one_domain_fault

pub returns-clause-problem : goal.returns-clause-problem
returns-clause-problem c = problem_or_fault

pub returns-clause-no_faulty_problem : goal.returns-clause-no_faulty_problem
returns-clause-no_faulty_problem c = no_problem_at_fault

pub returns-clause-one_problem_fault : goal.returns-clause-one_problem_fault
returns-clause-one_problem_fault c = one_problem_fault
