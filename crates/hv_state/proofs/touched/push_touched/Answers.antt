use Rattle.std.proofs.Common.{◌≡◌, ◌⊎◌, true, false, Some, slice_get, option_map, map, sym, ap, ◌∙◌}
use Rattle.hv_world.specs.Bindings.{object_number, ground_action_view}
use Rattle.hv_world.specs.Effects.{Adds, Deletes}
use Rattle.hv_world.specs.SectionViews.{action_view}
use Rattle.hv_world.specs.WorldViews.{world_view}
use Rattle.hv_state.specs.inside.Rows.{rows_in}
use Rattle.hv_state.specs.inside.Notes.{TouchedBy}
use Rattle.hv_state.proofs.MadeLemmas.{joined_made, joined_both, joined_like}
use Rattle.hv_state.proofs.NoteLemmas.{touched_is}
use Rattle.hv_state.proofs.touched.push_touched.Goals as goal

pub returns : goal.returns
returns c =
    let w = world_view c.args.world.now in
    let step = ground_action_view c.args.step.now in
    let a = action_view c.in-Some.action.now in
    let there : slice_get w.actions step.action ≡ Some a = sym (c.action-2.ensures ∙ ap (slice_get w.actions) c.action.ensures) ∙ ap (option_map (λ x. action_view x.now)) c.in-Some.is in
    let env = map object_number c.objects.result.now in
    let objects : env ≡ step.objects = c.objects.ensures in
    let old = rows_in c.args.rows.now.items in
    let mid = rows_in c.push_made.new.rows.items in
    let new = rows_in c.push_made-2.new.rows.items in
    let gone = joined_made old mid w.typing false env step.objects _ a.effect objects c.effect.ensures c.in_ok-push_made.ensures in
    let come = joined_made mid new w.typing true env step.objects _ a.effect objects c.effect-2.ensures c.in_ok-push_made-2.ensures in
    let both = joined_both old mid new (Deletes w.typing step.objects a.effect) (Adds w.typing step.objects a.effect) gone come in
    joined_like old new (λ g. Deletes w.typing step.objects a.effect g ⊎ Adds w.typing step.objects a.effect g) (TouchedBy w step) (touched_is w step a there) both
