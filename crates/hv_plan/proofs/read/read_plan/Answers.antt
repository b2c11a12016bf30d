use Rattle.hv_plan.specs.LineViews.{plan_view}
use Rattle.hv_plan.proofs.SpellingLemmas.{plan_of_read, fault_if_read}
use Rattle.hv_plan.proofs.TextOrder.{order_if_read}
use Rattle.hv_plan.proofs.read.read_plan.Goals as goal

pub returns-clause-ok : goal.returns-clause-ok
returns-clause-ok c = plan_of_read c.args.text.now plan_view c.read_text.result c.read_text.ensures.ok

pub returns-clause-err : goal.returns-clause-err
returns-clause-err c = fault_if_read c.args.text.now c.read_text.result c.read_text.ensures.err

pub returns-clause-order : goal.returns-clause-order
returns-clause-order c = order_if_read c.args.text.now plan_view c.read_text.result (plan_of_read c.args.text.now plan_view c.read_text.result c.read_text.ensures.ok)
