use Rattle.std.proofs.Common.{◌≡◌, ◌++◌, [], map, ap, sym, ◌∙◌}
use Rattle.hv_plan.specs.LineViews.{actions_view, decompositions_view, plan_view}
use Rattle.hv_plan.proofs.HeadLists.{lines_are}
use Rattle.hv_plan.proofs.shape.begins.line_numbers.Goals as goal

pub returns : goal.returns
returns c =
    let none : c.in_ok-lines.lines.items ≡ [] = c.in_ok-lines.ensures.items in
    c.in_ok-push_decomposition_numbers.ensures
    ∙ ap (λ xs. xs ++ map (λ d. d.line) (decompositions_view c.args.plan.now.decompositions)) (c.in_ok-push_action_numbers.ensures ∙ (λ j. none j ++ map (λ a. a.line) (actions_view c.args.plan.now.actions)))
    ∙ sym (lines_are (plan_view c.args.plan.now))
