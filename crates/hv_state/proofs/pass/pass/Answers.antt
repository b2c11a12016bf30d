use Rattle.std.proofs.Common.{rules, ◌≡◌, Bool, true, false, List, ℕ, Some, slice_get, option_map, map, sym, subst, ap, ◌∙◌, IsTrue}
use Rattle.std.specs.List.{Contains}
use Rattle.hv_world.specs.Bindings.{GroundAtom, object_number, ground_action_view}
use Rattle.hv_world.specs.Effects.{SomeMakes}
use Rattle.hv_world.specs.SectionViews.{action_view}
use Rattle.hv_world.specs.Values.{Effects}
use Rattle.hv_world.specs.WorldViews.{world_view}
use Rattle.hv_state.specs.Atoms.{Same}
use Rattle.hv_state.specs.inside.Makings.{IsMadeBySome}
use Rattle.hv_state.specs.inside.Histories.{index_of, truth_of}
use Rattle.hv_state.specs.inside.Notes.{IsSet}
use Rattle.hv_state.proofs.MadeLemmas.{made_is}
use Rattle.hv_state.proofs.NoteLemmas.{passed}
use Rattle.hv_state.proofs.PlanLemmas.{same_through}
use Rattle.hv_state.proofs.TakeLemmas.{set_in_turn}
use Rattle.hv_state.proofs.pass.pass.Goals as goal

pub returns-clause-done : goal.returns-clause-done
returns-clause-done g c = λ ran ready.
    let w = world_view c.args.world.now in
    let step = ground_action_view c.args.step.now in
    let start = g.S.State.atoms c.args.first.now in
    let from = c.args.from in
    let deleted = c.in_ok-new in
    let added = c.in_ok-new-2 in
    let a = action_view c.in-Some.action.now in
    let there : slice_get w.actions step.action ≡ Some a = sym (c.action-2.ensures ∙ ap (slice_get w.actions) c.action.ensures) ∙ ap (option_map (λ x. action_view x.now)) c.in-Some.is in
    let env = map object_number c.objects.result.now in
    let objects : env ≡ step.objects = c.objects.ensures in
    let made = λ (b : Bool) (os : List ℕ) (es : Effects) (h : GroundAtom). IsMadeBySome w.typing b h es os in
    let (deletes, are_gone, sets) = c.in_ok-take_made.ensures in
    let (adds, have_come, sets_then) = c.in_ok-take_made-2.ensures in
    let gone = same_through (Contains deletes) (made false step.objects a.effect) (SomeMakes w.typing false step.objects a.effect) (subst (λ os. Same (Contains deletes) (made false os a.effect)) objects (subst (λ es. Same (Contains deletes) (made false env es)) c.effect.ensures are_gone)) (made_is w.typing false step.objects a.effect) in
    let come = same_through (Contains adds) (made true step.objects a.effect) (SomeMakes w.typing true step.objects a.effect) (subst (λ os. Same (Contains adds) (made true os a.effect)) objects (subst (λ es. Same (Contains adds) (made true env es)) c.effect-2.ensures have_come)) (made_is w.typing true step.objects a.effect) in
    let is : IsTrue c.evaluate.result = search (rules, c.if-not-evaluate.false) in
    let before = c.args.changes.now in
    let mid = c.take_made.new.into in
    let after = c.take_made-2.new.into in
    let first = subst (λ n. IsSet start (Contains deletes) n false before mid) deleted.ensures.index (subst (λ b. IsSet start (Contains deletes) (index_of deleted.field-0) b before mid) deleted.ensures.truth (set_in_turn start (index_of deleted.field-0) (truth_of deleted.field-0) deletes before mid sets)) in
    let next = subst (λ n. IsSet start (Contains adds) n true mid after) added.ensures.index (subst (λ b. IsSet start (Contains adds) (index_of added.field-0) b mid after) added.ensures.truth (set_in_turn start (index_of added.field-0) (truth_of added.field-0) adds mid after sets_then)) in
    passed w step a there start from before mid after deletes adds gone come ready _ env objects c.precondition.ensures (c.evaluate.ensures.0 is) first next
