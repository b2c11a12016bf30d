use Rattle.std.proofs.Common.{◌++◌, ◌≤◌, length, sym, subst}
use Rattle.std.specs.List.{filter}
use Rattle.hv_world.specs.Bindings.{ground_actions_view}
use Rattle.hv_world.specs.WorldViews.{world_view}
use Rattle.hv_state.specs.Plans.{Plan, plan}
use Rattle.hv_state.specs.Ever.{HasAllEver}
use Rattle.hv_state.specs.inside.Histories.{rows_of}
use Rattle.hv_state.proofs.EverLemmas.{in_stretch, ever_all}
use Rattle.hv_state.proofs.trace.Trace+BitState.ever_true.Goals as goal

pub returns : goal.returns
returns c =
    let t = c.self.inside in
    let p = plan (world_view t.world.now) (ground_actions_view t.actions.now) in
    let begun = subst (λ (v : Plan). c.args.from ≤ length v.actions) (sym c.self.view_is) c.requires.within in
    subst (λ v. HasAllEver v c.args.from c.args.end (filter (in_stretch t.first t.changes c.args.from c.args.end) (t.first.0 ++ rows_of t.changes))) c.self.view_is
    (ever_all p t.first t.changes c.self.invariant c.args.from c.args.end begun)
