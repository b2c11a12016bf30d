use Rattle.std.proofs.Common.{◌≡◌, ◌++◌, [], map, ap, sym, ◌∙◌}
use Rattle.hv_plan.specs.LineViews.{actions_view, decompositions_view, plan_view}
use Rattle.hv_plan.proofs.HeadLists.{ids_are}
use Rattle.hv_plan.proofs.shape.begins.line_ids.Goals as goal

pub returns : goal.returns
returns c =
    let none : c.in_ok-ids.ids.items ≡ [] = c.in_ok-ids.ensures.items in
    c.in_ok-push_decomposition_ids.ensures
    ∙ ap (λ xs. xs ++ map (λ d. d.id) (decompositions_view c.args.plan.now.decompositions)) (c.in_ok-push_action_ids.ensures ∙ (λ j. none j ++ map (λ a. a.id) (actions_view c.args.plan.now.actions)))
    ∙ sym (ids_are (plan_view c.args.plan.now))
