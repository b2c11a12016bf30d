use Rattle.hv_plan.proofs.SpellingLemmas.{one_plan, plan_or_fault}
use Rattle.hv_plan.proofs.FaultLaws.{one_fault, plan_or_some_fault}
use Rattle.hv_plan.proofs.laws.a_plan_or_a_fault.Goals as goal

pub returns-clause-some : goal.returns-clause-some
returns-clause-some c = plan_or_some_fault

pub returns-clause-one_fault : goal.returns-clause-one_fault
returns-clause-one_fault c = one_fault

pub returns-clause-one_plan : goal.returns-clause-one_plan
returns-clause-one_plan c = one_plan

pub returns-clause-faultless : goal.returns-clause-faultless
returns-clause-faultless c = plan_or_fault
