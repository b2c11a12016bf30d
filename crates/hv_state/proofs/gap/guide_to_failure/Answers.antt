use Rattle.std.proofs.Common.{map, sym, subst, ap, ◌∙◌}
use Rattle.std.specs.List.{Contains}
use Rattle.hv_world.specs.Values.{formulas_of}
use Rattle.hv_world.specs.Views.{atom_view, formula_view}
use Rattle.hv_state.specs.Needed.{of_parts}
use Rattle.hv_state.specs.inside.Gaps.{denied, denied_alone}
use Rattle.hv_state.proofs.FormulaLemmas.{view-Or}
use Rattle.hv_state.proofs.GapLemmas.{part_has}
use Rattle.hv_state.proofs.gap.guide_to_failure.Goals as goal

pub returns-in-Some : goal.returns-in-Some
returns-in-Some c =
    let a = atom_view c.in-Some.atom.now in
    let one = part_has denied_alone c.deref-part-items.result.now c.loop-part.part-index c.part-item.result c.loop-part-test.true c.part-item.is a c.in-Some.ensures.1 in
    let all = subst (λ xs. Contains (of_parts denied_alone (formulas_of (map formula_view xs))) a) c.deref-part-items.ensures.value one in
    (c.in-Some.ensures.0, subst (λ f. Contains (denied f) a) (sym (ap formula_view c.in-Or.is ∙ view-Or _)) all)
