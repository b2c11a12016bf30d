use Rattle.hv_reading.proofs.TextSpellings.{domain_table, problem_table}
use Rattle.hv_reading.proofs.laws.texts_are_spelled.Goals as goal

pub returns-clause-domains : goal.returns-clause-domains
returns-clause-domains c = domain_table

pub returns-clause-problems : goal.returns-clause-problems
returns-clause-problems c = problem_table
