use Rattle.std.proofs.Common.{subst}
use Rattle.hv_world.specs.Bindings.{ground_actions_view}
use Rattle.hv_world.specs.WorldViews.{world_view}
use Rattle.hv_state.specs.inside.Notes.{TouchedIn}
use Rattle.hv_state.specs.inside.Rows.{rows_in, Ascend, AreRowsOfAtoms}
use Rattle.hv_state.proofs.MadeLemmas.{rows_again}
use Rattle.hv_state.proofs.ground.GroundAtoms.touched.Goals as goal

pub invariant_of-result : goal.invariant_of-result
invariant_of-result c = rows_again (rows_in c.in_ok-rows.rows.items) (TouchedIn (world_view c.args.world.now) (ground_actions_view c.args.actions.now)) (λ r m. (c.in_ok-rows.ensures.exact r).0 m)

pub returns-clause-ascend : goal.returns-clause-ascend
returns-clause-ascend c = subst Ascend (rows_again (rows_in c.in_ok-rows.rows.items) (TouchedIn (world_view c.args.world.now) (ground_actions_view c.args.actions.now)) (λ r m. (c.in_ok-rows.ensures.exact r).0 m)) c.in_ok-rows.ensures.ascend

pub returns-clause-exact : goal.returns-clause-exact
returns-clause-exact c =
    let S = TouchedIn (world_view c.args.world.now) (ground_actions_view c.args.actions.now) in
    subst (AreRowsOfAtoms S) (rows_again (rows_in c.in_ok-rows.rows.items) S (λ r m. (c.in_ok-rows.ensures.exact r).0 m)) c.in_ok-rows.ensures.exact
