use Rattle.std.proofs.Common.{◌≡◌, Some, sym, subst, ◌∙◌}
use Rattle.std.proofs.lemmas.Result.{IfOk-weaker}
use Rattle.hv_world.specs.Bindings.{ground_actions_view, ground_action_view}
use Rattle.hv_world.specs.WorldViews.{world_view}
use Rattle.hv_state.specs.inside.Rows.{rows_in, HaveJoined}
use Rattle.hv_state.specs.inside.Notes.{TouchedBy}
use Rattle.hv_state.proofs.NoteLemmas.{joined_again}
use Rattle.hv_state.proofs.touched.push_new.Goals as goal

pub returns-then-is_repeated : goal.returns-then-is_repeated
returns-then-is_repeated c = λ a there done. joined_again (world_view c.args.world.now) (ground_actions_view c.args.actions.now) c.args.place (rows_in c.args.rows.now.items) a there done (c.is_repeated.ensures c.if-is_repeated.true)

pub returns : goal.returns
returns c =
    let w = world_view c.args.world.now in
    let old = c.args.rows.now.items in
    let new = c.push_touched.new.rows.items in
    IfOk-weaker c.push_touched.result _ _ (λ x joined a there done.
    let one : Some (ground_action_view c.at-step.result) ≡ Some a = sym c.at-step.ensures ∙ there in
    let own : ground_action_view c.at-step.result ≡ a = cc in
    subst (λ y. HaveJoined old (TouchedBy w y) new) own joined) c.push_touched.ensures
