use Rattle.hv_order.proofs.ChildrenFit.{behind_its_state, behind_the_plan, up_to_its_state}
use Rattle.hv_order.proofs.children.run_of_action.Goals as goal

pub returns-then-action-start : goal.returns-then-action-start
returns-then-action-start c = behind_its_state c.args.action c.args.last c.args.start c.requires.start c.if-action-start.true

pub returns-then-last-action : goal.returns-then-last-action
returns-then-last-action c = behind_the_plan c.args.action c.args.last c.args.start c.requires.start c.if-last-action.true

pub returns : goal.returns
returns c = up_to_its_state c.args.action c.args.last c.args.start c.if-action-start.false c.if-last-action.false
