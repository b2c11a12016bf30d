use Rattle.hv_plan.proofs.OneTree.{one_tree}
use Rattle.hv_plan.proofs.laws.a_plan_has_one_tree.Goals as goal

pub returns : goal.returns
returns c = λ w p t u form is other. one_tree w p form t u is other
