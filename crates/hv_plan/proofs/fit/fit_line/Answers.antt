use Rattle.std.proofs.Common.{map, sym}
use Rattle.std.proofs.lemmas.Result.{err_from_is_err_and}
use Rattle.hv_world.specs.Bindings.{object_number}
use Rattle.hv_world.specs.Views.{name_view}
use Rattle.hv_world.specs.WorldViews.{world_view}
use Rattle.hv_plan.specs.inside.LineFaults.{line_entry}
use Rattle.hv_plan.specs.LineViews.{decomposition_view}
use Rattle.hv_plan.proofs.FitLemmas.{argument_fault, other_fault, method_known, names_action, not_for_task, not_true}
use Rattle.hv_plan.proofs.fit.fit_line.Goals as goal

pub returns-in_err-objects : goal.returns-in_err-objects
returns-in_err-objects c =
    let w = world_view c.args.world.now in
    let d = decomposition_view c.args.line in
    let p = err_from_is_err_and c.from_residual.result c.from_residual.ensures.1 in
    rw (p.1, p.2)
    (other_fault _ _
    (argument_fault w (line_entry d) (name_view c.in-Some.name) (sym c.in-Some.ensures) (λ f. method_known w d c.in-Some-method_like.method.0 (sym c.in-Some-method_like.ensures) f))
    c.in_err-objects.field-0.0 c.in_err-objects.ensures)

pub returns-else-is_for : goal.returns-else-is_for
returns-else-is_for c =
    let w = world_view c.args.world.now in
    let d = decomposition_view c.args.line in
    let fits = rw c.in-Compound.is at c.in_ok-objects.ensures in
    not_for_task w d c.in-Compound.task.0 c.in-Some-method_like.method.0 (map object_number c.in_ok-objects.objects.items) (sym (rw c.in-Compound.is at c.in-Some.ensures))
    (sym c.in-Some-method_like.ensures) fits.known fits.typed (λ x. not_true c.is_for.result c.if-is_for.false (c.is_for.ensures.1 x))

pub returns-in-Primitive : goal.returns-in-Primitive
returns-in-Primitive c =
    let w = world_view c.args.world.now in
    let d = decomposition_view c.args.line in
    let fits = rw c.in-Primitive.is at c.in_ok-objects.ensures in
    names_action w d c.in-Primitive.field-0.0 c.in-Some-method_like.method.0 (map object_number c.in_ok-objects.objects.items) (sym (rw c.in-Primitive.is at c.in-Some.ensures))
    (sym c.in-Some-method_like.ensures) fits.known fits.typed
