use Rattle.hv_plan.proofs.FormLaws.{tree_has_no_cause}
use Rattle.hv_plan.proofs.OneCause.{one_cause, tree_or_cause}
use Rattle.hv_plan.proofs.laws.a_tree_or_a_cause.Goals as goal

pub returns-clause-some : goal.returns-clause-some
returns-clause-some c = λ w p sound order. tree_or_cause w p (c.types_are_decided.ensures w.typing sound.typing) order

pub returns-clause-no_cause : goal.returns-clause-no_cause
returns-clause-no_cause c = λ w p k l form fits q. tree_has_no_cause w p form fits k l q

pub returns-clause-one_cause : goal.returns-clause-one_cause
returns-clause-one_cause c = λ w p d e is other. one_cause w p d e is other
