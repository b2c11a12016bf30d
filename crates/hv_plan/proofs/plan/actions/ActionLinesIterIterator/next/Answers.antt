use Rattle.hv_plan.specs.LineViews.{action_view, actions_view}
use Rattle.hv_lists.proofs.Places.{left_from}
use Rattle.hv_plan.proofs.plan.actions.ActionLinesIterIterator.next.Goals as goal

pub returns-clause-steps : goal.returns-clause-steps
returns-clause-steps c = left_from (actions_view c.args.self.now.lines.now) c.args.self.now.next (action_view c.at-line.result) c.at-line.ensures
