use Rattle.std.proofs.Common.{◌<◌, ◌+◌, inl, inr, map, sym, subst, ap, rules, ◌∙◌}
use Rattle.hv_world.specs.declared.formula.Formula.{Formula}
use Rattle.hv_world.specs.Values.{formulas_of}
use Rattle.hv_world.specs.Views.{formula_view, type_number}
use Rattle.hv_state.specs.Changes.{Mentions}
use Rattle.hv_state.proofs.Levels.{levels, most_levels}
use Rattle.hv_state.proofs.FormulaLemmas.{view-Forall, view-Exists, part_below}
use Rattle.hv_state.proofs.SomeLemmas.{SomeOf, some_more, taken, for_these}
use Rattle.hv_state.proofs.NextLemmas.{mentioned_parts}
use Rattle.hv_state.proofs.next.+may_change.Goals as goal

pub may_change-returns-in-Forall : goal.may_change-returns-in-Forall
may_change-returns-in-Forall t c = λ none types env g m.
    let P = Mentions types g (formula_view c.in-Forall.part.value) in
    let (inner, there) = for_these types P (map type_number c.in-Forall.field-0.items) env (subst (λ f. Mentions types g f env) (ap formula_view c.in-Forall.is ∙ view-Forall _ _) m) in
    c.may_change-in-Forall.ensures none types inner g (subst (λ f. Mentions types g (formula_view f) inner) (sym c.deref-in-Forall.ensures) there)

pub may_change-returns-in-Exists : goal.may_change-returns-in-Exists
may_change-returns-in-Exists t c = λ none types env g m.
    let P = Mentions types g (formula_view c.in-Exists.part.value) in
    let (inner, there) = for_these types P (map type_number c.in-Exists.field-0.items) env (subst (λ f. Mentions types g f env) (ap formula_view c.in-Exists.is ∙ view-Exists _ _) m) in
    c.may_change-in-Exists.ensures none types inner g (subst (λ f. Mentions types g (formula_view f) inner) (sym c.deref-in-Exists.ensures) there)

pub one_may_change-may_change-requires : goal.one_may_change-may_change-requires
one_may_change-may_change-requires t c =
    let below : levels (formula_view c.part-item.result) < most_levels (formulas_of (map formula_view c.args.parts.now)) + 1 = part_below _ _ _ c.loop-part-test.true c.part-item.is in
    search (rules, below)

pub one_may_change-loop-part-preserved : goal.one_may_change-loop-part-preserved
one_may_change-loop-part-preserved t c = λ types env g m.
    elim ((some_more (λ f. Mentions types g (formula_view f) env) c.args.parts.now c.loop-part.part-index c.part-item.result c.loop-part-test.true c.part-item.is).1 m) [ inl a ↦ c.loop-part.invariant types env g a | inr b ↦ c.may_change.ensures c.if-may_change.false types env g b ]

pub one_may_change-returns : goal.one_may_change-returns
one_may_change-returns t c = λ none types env g m.
    let P = λ (f : Formula). Mentions types g (formula_view f) env in
    c.loop-part.invariant types env g (subst (SomeOf P) (sym (taken c.args.parts.now c.loop-part.part-index c.loop-part-test.false)) ((mentioned_parts types g env c.args.parts.now).1 m))
