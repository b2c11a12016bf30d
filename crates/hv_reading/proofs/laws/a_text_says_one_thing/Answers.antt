use Rattle.hv_reading.specs.Tables.{IsDomain, IsProblem}
use Rattle.hv_reading.proofs.TextSpellings.{one_domain, one_problem, one_text}
use Rattle.hv_reading.proofs.laws.a_text_says_one_thing.Goals as goal

pub returns-clause-domain : goal.returns-clause-domain
returns-clause-domain c = one_domain

pub returns-clause-problem : goal.returns-clause-problem
returns-clause-problem c = one_problem

pub returns-clause-domain_text : goal.returns-clause-domain_text
returns-clause-domain_text c text = one_text IsDomain one_domain text (c.a_text_has_one_reading.ensures text)

pub returns-clause-problem_text : goal.returns-clause-problem_text
returns-clause-problem_text c text = one_text IsProblem one_problem text (c.a_text_has_one_reading.ensures text)
