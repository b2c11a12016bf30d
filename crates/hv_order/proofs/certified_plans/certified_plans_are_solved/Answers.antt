use Rattle.hv_order.proofs.CertifiedPlans.{certified_plans}
use Rattle.hv_order.proofs.certified_plans.certified_plans_are_solved.Goals as goal

pub returns : goal.returns
returns c = certified_plans
