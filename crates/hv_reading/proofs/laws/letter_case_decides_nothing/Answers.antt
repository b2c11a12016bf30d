use Rattle.hv_reading.specs.Tables.{IsDomain, IsProblem}
use Rattle.hv_reading.specs.FirstFaults.{IsFaultyDomain, IsFaultyProblem}
use Rattle.hv_reading.proofs.LetterCase.{same_expressions, same_value, same_fault}
use Rattle.hv_reading.proofs.laws.letter_case_decides_nothing.Goals as goal

pub returns-clause-expressions : goal.returns-clause-expressions
returns-clause-expressions c text other ts same = same_expressions text other same ts

pub returns-clause-domain : goal.returns-clause-domain
returns-clause-domain c text other d same = same_value text other same IsDomain d

pub returns-clause-problem : goal.returns-clause-problem
returns-clause-problem c text other p same = same_value text other same IsProblem p

pub returns-clause-domain_fault : goal.returns-clause-domain_fault
returns-clause-domain_fault c text other kind s same = same_fault text other same IsFaultyDomain kind s

pub returns-clause-problem_fault : goal.returns-clause-problem_fault
returns-clause-problem_fault c text other kind s same = same_fault text other same IsFaultyProblem kind s
