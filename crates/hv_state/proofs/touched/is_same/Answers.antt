use Rattle.std.proofs.Common.{◌≡◌, map, nat_eq, sym, ◌∙◌}
use Rattle.std.proofs.lemmas.Bool.{eqb-true}
use Rattle.std.specs.Cmp.Derive.Mapped.{pointwise-map}
use Rattle.std.specs.Cmp.Lexicographic.{same_text}
use Rattle.hv_world.specs.Bindings.{ground_action, object_number}
use Rattle.hv_state.proofs.touched.is_same.Goals as goal

pub returns-then-eq : goal.returns-then-eq
returns-then-eq c = λ t.
    let os = c.objects.result.now in
    let ps = c.objects-then-eq.result.now in
    let same : map object_number os ≡ map object_number ps = same_text _ _ (sym t ∙ c.eq-then-eq.ensures ∙ sym (pointwise-map object_number nat_eq os ps)) in
    let objects = sym c.objects.ensures ∙ same ∙ c.objects-then-eq.ensures in
    let action = sym c.action.ensures ∙ eqb-true c.action.result.0 c.action-2.result.0 (sym c.eq.ensures ∙ c.if-eq.true) ∙ c.action-2.ensures in
    λ i. ground_action (action i) (objects i)
