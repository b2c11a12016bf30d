use Rattle.std.proofs.Common.{◌≡◌, [], map, ap, ◌∙◌, arith, false}
use Rattle.hv_world.specs.Bindings.{ground_action_view, ground_actions_view}
use Rattle.hv_world.specs.WorldViews.{world_view}
use Rattle.hv_state.specs.Plans.{plan}
use Rattle.hv_state.specs.Atoms.{row_of}
use Rattle.hv_state.proofs.NoteLemmas.{so_far_begun, so_far_more, so_far_stops}
use Rattle.hv_state.proofs.trace.Trace.run.Goals as goal

pub loop-number-init : goal.loop-number-init
loop-number-init g c =
    let p = plan (world_view c.args.world.now) (ground_actions_view c.args.actions.now) in
    so_far_begun p (g.S.State.atoms c.in_ok-first.first) c.in_ok-changes.changes (map row_of c.in_ok-touched.touched) c.in_ok-first.ensures (c.in_ok-changes.ensures ∙ ap (map (λ r. (r, []))) c.into_rows.ensures) c.in_ok-touched.ensures.exact

pub returns-then-not-branch-clause-stop : goal.returns-then-not-branch-clause-stop
returns-then-not-branch-clause-stop g c =
    let p = plan (world_view c.args.world.now) (ground_actions_view c.args.actions.now) in
    let n = c.loop-number.number in
    let stopped : c.in_ok-pass.field-0 ≡ false = c.if-not-branch.true in
    so_far_stops p n (ground_action_view c.at.result) c.at.ensures (g.S.State.atoms c.in_ok-first.first) c.loop-number.changes c.loop-number.invariant (omega (arith, c.loop-number-test.true, c.len-number-end.ensures)) (c.in_ok-pass.ensures.stopped stopped)

pub loop-number-preserved : goal.loop-number-preserved
loop-number-preserved g c =
    let p = plan (world_view c.args.world.now) (ground_actions_view c.args.actions.now) in
    let n = c.loop-number.number in
    so_far_more p n (ground_action_view c.at.result) c.at.ensures (g.S.State.atoms c.in_ok-first.first) c.loop-number.changes c.loop-number.invariant c.pass.new.changes (c.in_ok-pass.ensures.done c.if-not-branch.false)
