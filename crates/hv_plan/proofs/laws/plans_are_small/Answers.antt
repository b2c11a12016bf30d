use Rattle.hv_plan.proofs.SmallPlans.{small}
use Rattle.hv_plan.proofs.laws.plans_are_small.Goals as goal

pub returns : goal.returns
returns c = λ text p plan. small text p plan
