use Rattle.std.proofs.Common.{◌<◌, ◌+◌, inl, inr, map, sym, subst, ap, rules, ◌∙◌}
use Rattle.hv_world.specs.declared.effect.Effect.{Effect}
use Rattle.hv_world.specs.Values.{effects_of}
use Rattle.hv_world.specs.Views.{effect_view, type_number}
use Rattle.hv_state.specs.inside.Makings.{IsMadeBy, IsMadeBySome}
use Rattle.hv_state.proofs.EffectLevels.{effect_levels, most_effect_levels, view-Becomes, view-Forall, effect_below}
use Rattle.hv_state.proofs.MadeLemmas.{values_differ, made_parts}
use Rattle.hv_state.proofs.SomeLemmas.{SomeOf, some_more, taken, for_these}
use Rattle.hv_state.proofs.makes.+makes.Goals as goal

pub makes-returns-in-Becomes : goal.makes-returns-in-Becomes
makes-returns-in-Becomes t c = λ none types env g m.
    let b = c.args.is_true in
    let here = subst (λ e. IsMadeBy types b g e env) (ap effect_view c.in-Becomes.is ∙ view-Becomes _ _) m in
    values_differ c.in-Becomes.becomes b none here.0

pub makes-returns-in-Forall : goal.makes-returns-in-Forall
makes-returns-in-Forall t c = λ none types env g m.
    let b = c.args.is_true in
    let P = IsMadeBySome types b g (effects_of (map effect_view c.in-Forall.effects.items)) in
    let (inner, there) = for_these types P (map type_number c.in-Forall.field-0.items) env (subst (λ e. IsMadeBy types b g e env) (ap effect_view c.in-Forall.is ∙ view-Forall _ _) m) in
    c.one_makes.ensures none types inner g (subst (λ es. IsMadeBySome types b g (effects_of (map effect_view es)) inner) (sym c.deref.ensures.value) there)

pub one_makes-makes-requires : goal.one_makes-makes-requires
one_makes-makes-requires t c =
    let below : effect_levels (effect_view c.effect-item.result) < most_effect_levels (effects_of (map effect_view c.args.effects.now)) + 1 = effect_below _ _ _ c.loop-effect-test.true c.effect-item.is in
    search (rules, below)

pub one_makes-loop-effect-preserved : goal.one_makes-loop-effect-preserved
one_makes-loop-effect-preserved t c = λ types env g m.
    let P = λ (e : Effect). IsMadeBy types c.args.is_true g (effect_view e) env in
    elim ((some_more P c.args.effects.now c.loop-effect.effect-index c.effect-item.result c.loop-effect-test.true c.effect-item.is).1 m) [ inl a ↦ c.loop-effect.invariant types env g a | inr b ↦ c.makes.ensures c.if-makes.false types env g b ]

pub one_makes-returns : goal.one_makes-returns
one_makes-returns t c = λ none types env g m.
    let P = λ (e : Effect). IsMadeBy types c.args.is_true g (effect_view e) env in
    c.loop-effect.invariant types env g (subst (SomeOf P) (sym (taken c.args.effects.now c.loop-effect.effect-index c.loop-effect-test.false)) ((made_parts types c.args.is_true g env c.args.effects.now).1 m))
