use Rattle.std.proofs.Common.{◌≡◌, ◌<◌, ◌+◌, ◌-◌, ◌++◌, ◌∷◌, [], length, take, drop, map, get_or, sym, subst, ap, arith, rules, ◌∙◌}
use Rattle.hv_world.specs.Bindings.{GroundAtom, objects_in}
use Rattle.hv_world.specs.declared.id.ObjectId.{ObjectId}
use Rattle.hv_world.specs.WorldViews.{world_view}
use Rattle.hv_world.specs.Values.{formulas_of}
use Rattle.hv_world.specs.Views.{formula_view, type_number}
use Rattle.hv_state.specs.Truth.{ForSome}
use Rattle.hv_state.specs.Changes.{Mentions, SomeMention}
use Rattle.hv_state.specs.inside.Histories.{IsNext}
use Rattle.hv_state.proofs.Levels.{levels, most_levels}
use Rattle.hv_state.proofs.FormulaLemmas.{view-Holds, view-Forall, view-Exists, part_below}
use Rattle.hv_state.proofs.Chosen.{front}
use Rattle.hv_state.proofs.LackLemmas.{for_some_mention_still}
use Rattle.hv_state.proofs.SomeLemmas.{SomeOf, some_objects, for_these, one_for_all}
use Rattle.hv_state.proofs.NextLemmas.{next_like, next_still, next_push, next_all, next_soon, mentioned_parts}
use Rattle.hv_state.proofs.next.+next_change.Goals as goal

pub next_change-returns-in-Holds : goal.next_change-returns-in-Holds
next_change-returns-in-Holds t c =
    let w = (world_view c.args.world.now).typing in
    let env = objects_in c.args.binding.now in
    let Q = λ (M : GroundAtom → Type 0). IsNext c.args.changes.now c.args.k c.args.end M c.next.result in
    subst (λ f. Q (λ g. Mentions w g f env)) (sym (ap formula_view c.in-Holds.is ∙ view-Holds c.in-Holds.atom)) (subst (λ a. Q (λ g. a ≡ g)) c.resolved.ensures c.next.ensures)

pub next_change-returns-in-Forall : goal.next_change-returns-in-Forall
next_change-returns-in-Forall t c =
    let w = (world_view c.args.world.now).typing in
    let env = objects_in c.args.binding.now in
    let Q = λ (M : GroundAtom → Type 0). IsNext c.args.changes.now c.args.k c.args.end M c.next_of_choices.result in
    subst (λ f. Q (λ g. Mentions w g f env)) (sym (ap formula_view c.in-Forall.is ∙ view-Forall _ _))
    (subst (λ ts. Q (λ g. ForSome w (Mentions w g (formula_view c.in-Forall.part.value)) (map type_number ts) env)) c.deref-in-Forall-2.ensures.value
    (subst (λ f. Q (λ g. ForSome w (Mentions w g (formula_view f)) (map type_number c.deref-in-Forall-2.result.now) env)) c.deref-in-Forall.ensures c.next_of_choices.ensures))

pub next_change-returns-in-Exists : goal.next_change-returns-in-Exists
next_change-returns-in-Exists t c =
    let w = (world_view c.args.world.now).typing in
    let env = objects_in c.args.binding.now in
    let Q = λ (M : GroundAtom → Type 0). IsNext c.args.changes.now c.args.k c.args.end M c.next_of_choices-in-Exists.result in
    subst (λ f. Q (λ g. Mentions w g f env)) (sym (ap formula_view c.in-Exists.is ∙ view-Exists _ _))
    (subst (λ ts. Q (λ g. ForSome w (Mentions w g (formula_view c.in-Exists.part.value)) (map type_number ts) env)) c.deref-in-Exists-2.ensures.value
    (subst (λ f. Q (λ g. ForSome w (Mentions w g (formula_view f)) (map type_number c.deref-in-Exists-2.result.now) env)) c.deref-in-Exists.ensures c.next_of_choices-in-Exists.ensures))

pub next_of_parts-next_change-requires : goal.next_of_parts-next_change-requires
next_of_parts-next_change-requires t c =
    let below : levels (formula_view c.part-item.result) < most_levels (formulas_of (map formula_view c.args.parts.now)) + 1 = part_below _ _ _ c.loop-part-test.true c.part-item.is in
    search (rules, below)

pub next_of_parts-loop-part-preserved : goal.next_of_parts-loop-part-preserved
next_of_parts-loop-part-preserved t c =
    let w = (world_view c.args.world.now).typing in
    let env = objects_in c.args.binding.now in
    next_push c.args.changes.now c.args.k c.args.end (λ f g. Mentions w g (formula_view f) env) c.args.parts.now c.loop-part.part-index c.part-item.result c.loop-part.until c.next_change.result c.least-until.result c.loop-part-test.true c.part-item.is c.loop-part.invariant c.next_change.ensures c.least-until.ensures

pub next_of_parts-returns-then-until-k : goal.next_of_parts-returns-then-until-k
next_of_parts-returns-then-until-k t c =
    let w = (world_view c.args.world.now).typing in
    let env = objects_in c.args.binding.now in
    let parts = c.args.parts.now in
    let soon = next_soon c.args.changes.now c.args.k c.args.end (λ f g. Mentions w g (formula_view f) env) parts c.loop-part.part-index c.loop-part.until c.if-until-k.true c.loop-part.invariant in
    next_like c.args.changes.now c.args.k c.args.end (λ g. SomeOf (λ f. Mentions w g (formula_view f) env) parts) (λ g. SomeMention w g (formulas_of (map formula_view parts)) env) c.loop-part.until (λ g. mentioned_parts w g env parts) soon

pub next_of_parts-returns : goal.next_of_parts-returns
next_of_parts-returns t c =
    let w = (world_view c.args.world.now).typing in
    let env = objects_in c.args.binding.now in
    let parts = c.args.parts.now in
    let all = next_all c.args.changes.now c.args.k c.args.end (λ f g. Mentions w g (formula_view f) env) parts c.loop-part.part-index c.loop-part.until c.loop-part-test.false c.loop-part.invariant in
    next_like c.args.changes.now c.args.k c.args.end (λ g. SomeOf (λ f. Mentions w g (formula_view f) env) parts) (λ g. SomeMention w g (formulas_of (map formula_view parts)) env) c.loop-part.until (λ g. mentioned_parts w g env parts) all

pub next_of_choices-returns-else-may_change : goal.next_of_choices-returns-else-may_change
next_of_choices-returns-else-may_change t c =
    let w = (world_view c.args.world.now).typing in
    let env = objects_in c.args.binding.now in
    let f = formula_view c.args.formula.now in
    next_still c.args.changes.now c.args.k c.args.end (λ g. ForSome w (Mentions w g f) (map type_number c.args.of.now) env) c.requires (λ g m. let (inner, there) = for_these w (Mentions w g f) (map type_number c.args.of.now) env m in c.may_change.ensures c.if-may_change.false w inner g there)

pub next_of_some-loop-object-preserved : goal.next_of_some-loop-object-preserved
next_of_some-loop-object-preserved t c =
    let w = (world_view c.args.world.now).typing in
    let env = objects_in c.args.binding.now in
    let objects = c.objects_of-object-items.result.now in
    next_push c.args.changes.now c.args.k c.args.end (λ o g. ForSome w (Mentions w g (formula_view c.args.formula.now)) _ (env ++ o.0 ∷ [])) objects c.loop-object.object-index (get_or objects c.loop-object.object-index (record { 0 = 0 })) c.loop-object.until c.next_of_some.result c.least-until.result c.loop-object-test.true (search rules) c.loop-object.invariant c.next_of_some.ensures c.least-until.ensures

pub next_of_some-returns-then-until-k : goal.next_of_some-returns-then-until-k
next_of_some-returns-then-until-k t c =
    let w = (world_view c.args.world.now).typing in
    let env = objects_in c.args.binding.now in
    let f = formula_view c.args.formula.now in
    let objects = c.objects_of-object-items.result.now in
    let first = get_or c.args.of.now 0 (record { 0 = 0 }) in
    let soon = next_soon c.args.changes.now c.args.k c.args.end (λ o g. ForSome w (Mentions w g f) _ (env ++ o.0 ∷ [])) objects c.loop-object.object-index c.loop-object.until c.if-until-k.true c.loop-object.invariant in
    subst (λ ts. IsNext c.args.changes.now c.args.k c.args.end (λ g. ForSome w (Mentions w g f) ts env) c.loop-object.until) (sym (front c.args.of.now (record { 0 = 0 }) (omega arith)))
    (next_like c.args.changes.now c.args.k c.args.end _ _ c.loop-object.until (λ g. some_objects w first.0 objects c.objects_of-object-items.ensures.exact (Mentions w g f) _ env) soon)

pub next_of_some-returns-then-is_left_out : goal.next_of_some-returns-then-is_left_out
next_of_some-returns-then-is_left_out t c =
    let w = (world_view c.args.world.now).typing in
    let env = objects_in c.args.binding.now in
    let f = formula_view c.args.formula.now in
    let objects = c.objects_of-object-items.result.now in
    let first = get_or c.args.of.now 0 (record { 0 = 0 }) in
    let at = c.loop-object.object-index in
    let z : ObjectId = record { 0 = 0 } in
    let Q = λ (o : ObjectId) (g : GroundAtom). ForSome w (Mentions w g f) (map type_number (take (length c.args.of.now - 1) (drop 1 c.args.of.now))) (env ++ o.0 ∷ []) in
    let so_far = next_push c.args.changes.now c.args.k c.args.end Q objects at (get_or objects at z) c.loop-object.until c.next_of_some.result c.least-until.result c.loop-object-test.true (search rules) c.loop-object.invariant c.next_of_some.ensures c.least-until.ensures in
    let same = λ (g : GroundAtom). one_for_all (λ o. Q o g) objects at (get_or objects at z) c.loop-object-test.true (search rules) (λ o h. for_some_mention_still w g env f (c.lacks_next-is_left_out.ensures c.if-is_left_out.true) _ _ _ h) in
    subst (λ ts. IsNext c.args.changes.now c.args.k c.args.end (λ g. ForSome w (Mentions w g f) ts env) c.least-until.result) (sym (front c.args.of.now (record { 0 = 0 }) (omega arith)))
    (next_like c.args.changes.now c.args.k c.args.end _ _ c.least-until.result (λ g. some_objects w first.0 objects c.objects_of-object-items.ensures.exact (Mentions w g f) _ env) (next_like c.args.changes.now c.args.k c.args.end _ _ c.least-until.result same so_far))

pub next_of_some-returns-after-loop-object : goal.next_of_some-returns-after-loop-object
next_of_some-returns-after-loop-object t c =
    let w = (world_view c.args.world.now).typing in
    let env = objects_in c.args.binding.now in
    let f = formula_view c.args.formula.now in
    let objects = c.objects_of-object-items.result.now in
    let first = get_or c.args.of.now 0 (record { 0 = 0 }) in
    let all = next_all c.args.changes.now c.args.k c.args.end (λ o g. ForSome w (Mentions w g f) _ (env ++ o.0 ∷ [])) objects c.loop-object.object-index c.loop-object.until (omega arith) c.loop-object.invariant in
    subst (λ ts. IsNext c.args.changes.now c.args.k c.args.end (λ g. ForSome w (Mentions w g f) ts env) c.loop-object.until) (sym (front c.args.of.now (record { 0 = 0 }) (omega arith)))
    (next_like c.args.changes.now c.args.k c.args.end _ _ c.loop-object.until (λ g. some_objects w first.0 objects c.objects_of-object-items.ensures.exact (Mentions w g f) _ env) all)
