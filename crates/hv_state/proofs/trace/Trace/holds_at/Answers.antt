use Rattle.std.proofs.Common.{◌≤◌, ◌↔◌, IsTrue, length, sym, subst}
use Rattle.hv_world.specs.Bindings.{objects_in, ground_actions_view}
use Rattle.hv_world.specs.Views.{formula_view}
use Rattle.hv_world.specs.WorldViews.{world_view}
use Rattle.hv_state.specs.Truth.{True}
use Rattle.hv_state.specs.Plans.{StateAt, plan}
use Rattle.hv_state.specs.Changes.{TrueAfter}
use Rattle.hv_state.specs.inside.Histories.{kept}
use Rattle.hv_state.proofs.PlanLemmas.{true_same}
use Rattle.hv_state.proofs.NoteLemmas.{moment_is}
use Rattle.hv_state.proofs.trace.Trace.holds_at.Goals as goal

pub returns : goal.returns
returns g c =
    let t = c.self.inside in
    let k = c.args.k in
    let f = formula_view c.args.formula.now in
    let env = objects_in c.args.binding.now in
    let p = plan (world_view t.world.now) (ground_actions_view t.actions.now) in
    let start = g.S.State.atoms t.first in
    let within : k ≤ length p.actions = subst (λ v. k ≤ length v.actions) (sym c.self.view_is) c.requires in
    let same = true_same p.world.typing (TrueAfter start (kept t.changes) k) (StateAt p k) (moment_is p start t.changes c.self.invariant k within) f env in
    subst (λ v. IsTrue c.evaluate.result ↔ True v.world.typing (StateAt v k) f env) c.self.view_is (λ m. same.0 (c.evaluate.ensures.0 m), λ m. c.evaluate.ensures.1 (same.1 m))
