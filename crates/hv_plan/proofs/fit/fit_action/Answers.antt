use Rattle.std.proofs.Common.{sym}
use Rattle.std.proofs.lemmas.Result.{err_from_is_err_and}
use Rattle.hv_world.specs.Bindings.{object_number}
use Rattle.hv_world.specs.Views.{name_view}
use Rattle.hv_world.specs.WorldViews.{world_view}
use Rattle.std.proofs.Common.{map}
use Rattle.hv_plan.specs.inside.LineFaults.{action_entry}
use Rattle.hv_plan.specs.LineViews.{action_view}
use Rattle.hv_plan.proofs.FitLemmas.{argument_fault, other_fault, has_no_method, names_task}
use Rattle.hv_plan.proofs.fit.fit_action.Goals as goal

pub returns-in_err-objects : goal.returns-in_err-objects
returns-in_err-objects c =
    let w = world_view c.args.world.now in
    let a = action_view c.args.line in
    let p = err_from_is_err_and c.from_residual.result c.from_residual.ensures.1 in
    rw (p.1, p.2)
    (other_fault _ _ (argument_fault w (action_entry a) (name_view c.in-Some.name) (sym c.in-Some.ensures) (λ f. has_no_method w a f)) c.in_err-objects.field-0.0
    c.in_err-objects.ensures)

pub returns-in-Compound : goal.returns-in-Compound
returns-in-Compound c =
    let w = world_view c.args.world.now in
    let a = action_view c.args.line in
    let fits = rw c.in-Compound.is at c.in_ok-objects.ensures in
    names_task w a c.in-Compound.field-0.0 (map object_number c.in_ok-objects.objects.items) (sym (rw c.in-Compound.is at c.in-Some.ensures)) fits.known fits.typed
