use Rattle.std.proofs.Common.{◌≡◌, length, map, sym, ap, ◌∙◌, subst, arith}
use Rattle.std.proofs.lemmas.List.{length-map}
use Rattle.hv_world.specs.Bindings.{object_number}
use Rattle.hv_world.specs.Views.{type_number}
use Rattle.hv_world.specs.WorldViews.{world_view}
use Rattle.hv_world.specs.Groundings.{AreOf}
use Rattle.hv_plan.specs.inside.LineFaults.{count, type}
use Rattle.hv_plan.proofs.FitLemmas.{not_true}
use Rattle.hv_plan.proofs.fit.objects_fault.Goals as goal

pub returns-then-objects-types : goal.returns-then-objects-types
returns-then-objects-types c =
    count (λ same. let e : length c.args.objects.now ≡ length c.parameters_of-types.result.now = sym (length-map c.args.objects.now object_number) ∙ same ∙ ap length (sym c.parameters_of-types.ensures) ∙ length-map c.parameters_of-types.result.now type_number in
    omega (arith, e, c.if-objects-types.true))

pub returns-then-not-are_of : goal.returns-then-not-are_of
returns-then-not-are_of c =
    let e : length c.args.objects.now ≡ length c.parameters_of-types.result.now = omega (arith, c.if-objects-types.false) in
    type (length-map c.args.objects.now object_number ∙ e ∙ sym (length-map c.parameters_of-types.result.now type_number) ∙ ap length c.parameters_of-types.ensures)
    (λ all. not_true c.are_of.result c.if-not-are_of.true
    (c.are_of.ensures.1 (subst (λ ts. AreOf (world_view c.args.world.now).typing (map object_number c.args.objects.now) ts) (sym c.parameters_of-types.ensures) all)))

pub returns : goal.returns
returns c = subst (λ ts. AreOf (world_view c.args.world.now).typing (map object_number c.args.objects.now) ts) c.parameters_of-types.ensures (c.are_of.ensures.0 c.if-not-are_of.false)
