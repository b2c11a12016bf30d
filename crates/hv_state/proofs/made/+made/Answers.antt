use Rattle.std.proofs.Common.{◌<◌, ◌+◌, ◌-◌, ◌++◌, ◌∷◌, [], List, IfOk, length, take, drop, map, get_or, sym, subst, ap, arith, rules, ◌∙◌}
use Rattle.hv_world.specs.declared.id.ObjectId.{ObjectId}
use Rattle.hv_world.specs.declared.id.TypeId.{TypeId}
use Rattle.hv_world.specs.Bindings.{GroundAtom, atom_under, objects_in}
use Rattle.hv_world.specs.WorldViews.{world_view}
use Rattle.hv_world.specs.Values.{becomes, effects_of}
use Rattle.hv_world.specs.Views.{atom_view, effect_view, type_number}
use Rattle.hv_state.specs.Atoms.{Atoms}
use Rattle.hv_state.specs.Truth.{ForSome}
use Rattle.hv_state.specs.inside.Makings.{IsMadeBy, IsMadeBySome}
use Rattle.hv_state.specs.inside.Takings.{HaveBeenTaken}
use Rattle.hv_state.proofs.EffectLevels.{effect_levels, most_effect_levels, view-Becomes, view-Forall, effect_below}
use Rattle.hv_state.proofs.Chosen.{front}
use Rattle.hv_state.proofs.LackLemmas.{for_some_made_still}
use Rattle.hv_state.proofs.SomeLemmas.{SomeOf, some_objects, one_for_all, for_these}
use Rattle.hv_state.proofs.LitLemmas.{if_ok}
use Rattle.hv_state.proofs.RowLemmas.{none_left}
use Rattle.hv_state.proofs.MadeLemmas.{values_agree, values_differ, made_parts}
use Rattle.hv_state.proofs.TakeLemmas.{taken_none, taken_itself, taken_not, taken_like, taken_push, taken_all}
use Rattle.hv_state.proofs.made.+made.Goals as goal

pub take_made_by-returns-then-one_makes : goal.take_made_by-returns-then-one_makes
take_made_by-returns-then-one_makes t m c =
    let takes = t.T.Take.takes c.args.way.now in
    let w = (world_view c.args.world.now).typing in
    let b = c.args.is_true in
    let env = objects_in c.args.binding.now in
    let Q = λ (M : Atoms). IfOk c.take_made_for_each.result (λ _. HaveBeenTaken takes M c.args.into.now c.take_made_for_each.new.into) in
    subst (λ e. Q (λ g. IsMadeBy w b g e env)) (sym (ap effect_view c.in-Forall.is ∙ view-Forall _ _))
    (subst (λ ts. Q (λ g. ForSome w (IsMadeBySome w b g (effects_of (map effect_view c.in-Forall.effects.items))) (map type_number ts) env)) c.deref-then-one_makes-2.ensures.value
    (subst (λ es. Q (λ g. ForSome w (IsMadeBySome w b g (effects_of (map effect_view es))) (map type_number c.deref-then-one_makes-2.result.now) env)) c.deref-then-one_makes.ensures.value c.take_made_for_each.ensures))

pub take_made_by-returns-else-one_makes : goal.take_made_by-returns-else-one_makes
take_made_by-returns-else-one_makes t m c =
    let w = (world_view c.args.world.now).typing in
    let b = c.args.is_true in
    let env = objects_in c.args.binding.now in
    let P = λ (g : GroundAtom). IsMadeBySome w b g (effects_of (map effect_view c.in-Forall.effects.items)) in
    let nothing = λ (g : GroundAtom) (made : IsMadeBy w b g (effect_view c.args.effect.now) env).
    let (inner, there) = for_these w (P g) (map type_number c.in-Forall.of.items) env (subst (λ e. IsMadeBy w b g e env) (ap effect_view c.in-Forall.is ∙ view-Forall _ _) made) in
    c.one_makes.ensures c.if-one_makes.false w inner g (subst (λ es. IsMadeBySome w b g (effects_of (map effect_view es)) inner) (sym c.deref.ensures.value) there) in
    taken_none (t.T.Take.takes c.args.way.now) (λ g. IsMadeBy w b g (effect_view c.args.effect.now) env) nothing c.args.into.now

pub take_made-take_made_by-requires : goal.take_made-take_made_by-requires
take_made-take_made_by-requires t m c =
    let below : effect_levels (effect_view c.effect-item.result) < most_effect_levels (effects_of (map effect_view c.args.effects.now)) + 1 = effect_below _ _ _ c.loop-effect-test.true c.effect-item.is in
    search (rules, below)

pub take_made-loop-effect-init : goal.take_made-loop-effect-init
take_made-loop-effect-init t m c = taken_none (t.T.Take.takes c.args.way.now) _ (λ g m. m) c.args.into.now

pub take_made-loop-effect-preserved : goal.take_made-loop-effect-preserved
take_made-loop-effect-preserved t m c =
    let w = (world_view c.args.world.now).typing in
    let env = objects_in c.args.binding.now in
    taken_push (t.T.Take.takes c.args.way.now) (λ e g. IsMadeBy w c.args.is_true g (effect_view e) env) c.args.effects.now c.loop-effect.effect-index c.args.into.now c.loop-effect.into c.effect-item.result c.take_made_by.new.into c.loop-effect-test.true c.effect-item.is c.loop-effect.invariant c.in_ok-take_made_by.ensures

pub take_made-returns : goal.take_made-returns
take_made-returns t m c =
    let takes = t.T.Take.takes c.args.way.now in
    let w = (world_view c.args.world.now).typing in
    let env = objects_in c.args.binding.now in
    let effects = c.args.effects.now in
    let old = c.args.into.now in
    let now = c.loop-effect.into in
    let all = taken_all takes (λ e g. IsMadeBy w c.args.is_true g (effect_view e) env) effects c.loop-effect.effect-index old now c.loop-effect-test.false c.loop-effect.invariant in
    taken_like takes (λ g. SomeOf (λ e. IsMadeBy w c.args.is_true g (effect_view e) env) effects) (λ g. IsMadeBySome w c.args.is_true g (effects_of (map effect_view effects)) env) (λ g. made_parts w c.args.is_true g env effects) old now all

pub take_made_for_each-loop-object-init : goal.take_made_for_each-loop-object-init
take_made_for_each-loop-object-init t m c = taken_none (t.T.Take.takes c.args.way.now) _ (λ g m. m) c.args.into.now

pub take_made_for_each-loop-object-preserved : goal.take_made_for_each-loop-object-preserved
take_made_for_each-loop-object-preserved t m c =
    let w = (world_view c.args.world.now).typing in
    let env = objects_in c.args.binding.now in
    let objects = c.objects_of-object-items.result.now in
    taken_push (t.T.Take.takes c.args.way.now) (λ o g. ForSome w (IsMadeBySome w c.args.is_true g (effects_of (map effect_view c.args.effects.now))) _ (env ++ o.0 ∷ [])) objects c.loop-object.object-index c.args.into.now c.loop-object.into (get_or objects c.loop-object.object-index (record { 0 = 0 })) c.take_made_for_each.new.into c.loop-object-test.true (search rules) c.loop-object.invariant c.in_ok-take_made_for_each-in-len1-up.ensures

pub take_made_for_each-returns-then-is_left_out : goal.take_made_for_each-returns-then-is_left_out
take_made_for_each-returns-then-is_left_out t m c =
    let takes = t.T.Take.takes c.args.way.now in
    let w = (world_view c.args.world.now).typing in
    let b = c.args.is_true in
    let env = objects_in c.args.binding.now in
    let es = effects_of (map effect_view c.args.effects.now) in
    let objects = c.objects_of-object-items.result.now in
    let first = get_or c.args.of.now 0 (record { 0 = 0 }) in
    let at = c.loop-object.object-index in
    let here = get_or objects at (record { 0 = 0 }) in
    let old = c.args.into.now in
    let now = c.take_made_for_each.new.into in
    let Q = λ (o : ObjectId) (g : GroundAtom). ForSome w (IsMadeBySome w b g es) (map type_number (take (length c.args.of.now - 1) (drop 1 c.args.of.now))) (env ++ o.0 ∷ []) in
    let so_far = taken_push takes Q objects at old c.loop-object.into here now c.loop-object-test.true (search rules) c.loop-object.invariant c.in_ok-take_made_for_each-in-len1-up.ensures in
    let same = λ (g : GroundAtom). one_for_all (λ o. Q o g) objects at here c.loop-object-test.true (search rules) (λ o h. for_some_made_still w b g env es (c.effects_lack_next-is_left_out.ensures c.if-is_left_out.true) _ _ _ h) in
    subst (λ ts. HaveBeenTaken takes (λ g. ForSome w (IsMadeBySome w b g es) ts env) old now) (sym (front c.args.of.now (record { 0 = 0 }) (omega arith)))
    (taken_like takes _ (λ g. ForSome w (IsMadeBySome w b g es) (first.0 ∷ _) env) (λ g. some_objects w first.0 objects c.objects_of-object-items.ensures.exact (IsMadeBySome w b g es) _ env) old now (taken_like takes _ _ same old now so_far))

pub take_made_for_each-returns-after-loop-object : goal.take_made_for_each-returns-after-loop-object
take_made_for_each-returns-after-loop-object t m c =
    let takes = t.T.Take.takes c.args.way.now in
    let w = (world_view c.args.world.now).typing in
    let b = c.args.is_true in
    let env = objects_in c.args.binding.now in
    let es = effects_of (map effect_view c.args.effects.now) in
    let objects = c.objects_of-object-items.result.now in
    let first = get_or c.args.of.now 0 (record { 0 = 0 }) in
    let old = c.args.into.now in
    let now = c.loop-object.into in
    let all = taken_all takes (λ o g. ForSome w (IsMadeBySome w b g es) _ (env ++ o.0 ∷ [])) objects c.loop-object.object-index old now (omega arith) c.loop-object.invariant in
    subst (λ ts. HaveBeenTaken takes (λ g. ForSome w (IsMadeBySome w b g es) ts env) old now) (sym (front c.args.of.now (record { 0 = 0 }) (omega arith)))
    (taken_like takes _ (λ g. ForSome w (IsMadeBySome w b g es) (first.0 ∷ _) env) (λ g. some_objects w first.0 objects c.objects_of-object-items.ensures.exact (IsMadeBySome w b g es) _ env) old now all)

pub take_made_by-returns-then-becomes-is_true : goal.take_made_by-returns-then-becomes-is_true
take_made_by-returns-then-becomes-is_true t m c =
    let takes = t.T.Take.takes c.args.way.now in
    let w = (world_view c.args.world.now).typing in
    let b = c.args.is_true in
    let env = objects_in c.args.binding.now in
    let atom = atom_view c.in-Becomes.atom in
    let old = c.args.into.now in
    let new = c.take.new.into in
    let Q = λ (M : Atoms). IfOk c.take.result (λ _. HaveBeenTaken takes M old new) in
    let is = values_agree c.in-Becomes.becomes b c.if-becomes-is_true.true in
    let one = subst (λ a. IfOk c.take.result (λ _. takes a old new)) c.resolved.ensures c.take.ensures in
    subst (λ e. Q (λ g. IsMadeBy w b g e env)) (sym (ap effect_view c.in-Becomes.is ∙ view-Becomes _ _))
    (if_ok c.take.result (λ _. takes (atom_under env atom) old new) (λ _. HaveBeenTaken takes (λ g. IsMadeBy w b g (becomes c.in-Becomes.becomes atom) env) old new) (λ _ taken. taken_itself takes w b c.in-Becomes.becomes atom env old new is taken) one)

pub take_made_by-returns-else-becomes-is_true : goal.take_made_by-returns-else-becomes-is_true
take_made_by-returns-else-becomes-is_true t m c =
    let takes = t.T.Take.takes c.args.way.now in
    let w = (world_view c.args.world.now).typing in
    let b = c.args.is_true in
    let env = objects_in c.args.binding.now in
    let old = c.args.into.now in
    subst (λ e. HaveBeenTaken takes (λ g. IsMadeBy w b g e env) old old) (sym (ap effect_view c.in-Becomes.is ∙ view-Becomes _ _))
    (taken_not takes w b c.in-Becomes.becomes (atom_view c.in-Becomes.atom) env old old (values_differ c.in-Becomes.becomes b c.if-becomes-is_true.false))

pub take_made_for_each-returns-in-empty : goal.take_made_for_each-returns-in-empty
take_made_for_each-returns-in-empty t m c =
    let w = (world_view c.args.world.now).typing in
    let env = objects_in c.args.binding.now in
    let es = effects_of (map effect_view c.args.effects.now) in
    subst (λ (ts : List TypeId). IfOk c.take_made.result (λ _. HaveBeenTaken (t.T.Take.takes c.args.way.now) (λ g. ForSome w (IsMadeBySome w c.args.is_true g es) (map type_number ts) env) c.args.into.now c.take_made.new.into)) (sym (none_left c.args.of.now (omega (arith, c.in-empty.len_below)))) c.take_made.ensures
