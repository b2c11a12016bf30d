use Rattle.hv_plan.proofs.SpellingLemmas.{plan_table, fault_table}
use Rattle.hv_plan.proofs.laws.plans_are_spelled.Goals as goal

pub returns-clause-plan : goal.returns-clause-plan
returns-clause-plan c = plan_table

pub returns-clause-fault : goal.returns-clause-fault
returns-clause-fault c = fault_table
