use Rattle.hv_reading.proofs.BySections.{domain_sections_table, problem_sections_table}
use Rattle.hv_reading.proofs.laws.sections_stand_once.Goals as goal

pub returns-clause-domains : goal.returns-clause-domains
returns-clause-domains c = domain_sections_table

pub returns-clause-problems : goal.returns-clause-problems
returns-clause-problems c = problem_sections_table
