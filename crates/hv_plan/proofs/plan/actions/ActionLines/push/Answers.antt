use Rattle.std.proofs.Common.{◌∙◌}
use Rattle.hv_lists.specs.Lists.{with_lists}
use Rattle.hv_plan.specs.LineViews.{headed_action}
use Rattle.hv_lists.proofs.Heads.{with_more}
use Rattle.hv_plan.proofs.plan.actions.ActionLines.push.Goals as goal

pub returns-clause-lines : goal.returns-clause-lines
returns-clause-lines c =
    let as' = c.args.self.now in
    let line = c.args.line in
    (λ i. with_lists headed_action (c.in_ok-push-2.ensures.items i) (c.in_ok-push.ensures.lists i))
    ∙ with_more headed_action as'.heads.items as'.arguments _ line.arguments.now c.requires.as_many_arguments
