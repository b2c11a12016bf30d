use Rattle.std.proofs.Common.{◌≡◌, refl, rules, arith}
use Rattle.std.proofs.lemmas.Grind.{common_steps}
use Rattle.hv_world.specs.Bindings.{ground_actions_view}
use Rattle.hv_plan.specs.inside.FitViews.{grounded_view}
use Rattle.hv_world.specs.WorldViews.{world_view}
use Rattle.hv_plan.specs.inside.LineFaults.{action_entry}
use Rattle.hv_plan.specs.LineViews.{actions_view}
use Rattle.hv_plan.specs.LinesLeft.{actions_left}
use Rattle.hv_plan.specs.PlanTrees.{IsActionOf}
use Rattle.hv_plan.proofs.FitLemmas.{action_has_no_fault}
use Rattle.hv_plan.proofs.EarliestLemmas.{fitted_item, fitted_first, fitted_all}
use Rattle.hv_plan.proofs.fit.all.fit_actions.Goals as goal

pub loop-line-init : goal.loop-line-init
loop-line-init c =
    let w = world_view c.args.world.now in
    let left : actions_left c.into_iter-line-iterator.result ≡ actions_view c.args.lines.now = first_of (search rules, cc, grind (arith, common_steps)) in
    fitted_first w action_entry (IsActionOf w) (λ a g says k f. action_has_no_fault w a g.action g.objects says k f) (actions_view c.args.lines.now) _ _ _ left c.in_ok-actions.ensures refl

pub loop-line-preserved : goal.loop-line-preserved
loop-line-preserved c =
    let w = world_view c.args.world.now in
    fitted_item w action_entry (IsActionOf w) (λ a g says k f. action_has_no_fault w a g.action g.objects says k f) grounded_view
    (actions_view c.args.lines.now) _ _ _ (ground_actions_view c.loop-line.actions) (ground_actions_view c.note_action.new.actions) c.loop-line.cause c.note_action.new.cause c.fit_action-fit.result
    c.in-Some.ensures.steps c.loop-line.invariant c.fit_action-fit.ensures c.in_ok-room.ensures.told c.in_ok-room.ensures.actions c.in_ok-room.ensures.cause

pub returns : goal.returns
returns c =
    let w = world_view c.args.world.now in
    fitted_all w action_entry (IsActionOf w) (λ a g says k f. action_has_no_fault w a g.action g.objects says k f) (actions_view c.args.lines.now) _ _ _ c.in-None.ensures.steps.0 c.loop-line.invariant
