use Rattle.std.proofs.Common.{◌≡◌, ◌∙◌, map, sym, Some, subst}
use Rattle.hv_world.specs.WorldViews.{world_view}
use Rattle.hv_plan.specs.inside.LineFaults.{action_entry, line_entry, entries, earlier, IsEarliest, FaultIn}
use Rattle.hv_plan.specs.LineViews.{plan_view}
use Rattle.hv_plan.proofs.EarliestLemmas.{earliest_of_both}
use Rattle.hv_plan.proofs.FormLaws.{fault_is_cause, form_has_no_cause}
use Rattle.hv_plan.proofs.fit.all.fit.Goals as goal

pub returns-in-Some-clause-err : goal.returns-in-Some-clause-err
returns-in-Some-clause-err c =
    let w = world_view c.args.world.now in
    let p = plan_view c.args.plan.now in
    let a = c.in_ok-actions.ensures in
    let b = c.in_ok-lines.ensures in
    let z : c.earlier.result ≡ Some c.in-Some.cause = c.in-Some.is in
    let is : earlier c.in_ok-actions.field-0.cause c.in_ok-lines.field-0.cause ≡ Some c.in-Some.cause = sym c.earlier.ensures ∙ z in
    fault_is_cause w p (form_has_no_cause w p c.requires) c.in-Some.cause
    (subst (λ o. IsEarliest (FaultIn w (entries p)) o) is
    (earliest_of_both w (map action_entry p.actions) (map line_entry p.decompositions) c.in_ok-actions.field-0.cause c.in_ok-lines.field-0.cause a.cause b.cause))
