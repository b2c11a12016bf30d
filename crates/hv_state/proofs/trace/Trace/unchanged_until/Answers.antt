use Rattle.std.proofs.Common.{◌≡◌, ◌+◌, ◌∙◌, length, subst, arith}
use Rattle.hv_world.specs.Bindings.{objects_in, ground_actions_view}
use Rattle.hv_world.specs.Views.{formula_view}
use Rattle.hv_world.specs.WorldViews.{world_view}
use Rattle.hv_world.proofs.Cited.{grounded_length}
use Rattle.hv_state.specs.Plans.{plan}
use Rattle.hv_state.specs.Changes.{Mentions, IsNextChange}
use Rattle.hv_state.specs.inside.Histories.{IsNext}
use Rattle.hv_state.proofs.NextLemmas.{next_change_is, stays_until}
use Rattle.hv_state.proofs.trace.Trace.unchanged_until.Goals as goal

-- a list of actions takes memory, so one more than its length is a number
pub overflow_add-len : goal.overflow_add-len
overflow_add-len g c =
    let actions = c.self.inside.actions.now in
    let many : c.len.result ≡ length actions.actions.items = c.len.ensures ∙ grounded_length actions.actions.items actions.objects actions.as_many in
    omega (arith, many, actions.actions.ok, actions.actions.small)

pub returns-clause-next : goal.returns-clause-next
returns-clause-next g c =
    let t = c.self.inside in
    let f = formula_view c.args.formula.now in
    let env = objects_in c.args.binding.now in
    let p = plan (world_view t.world.now) (ground_actions_view t.actions.now) in
    let next = subst (λ n. IsNext t.changes c.args.k (n + 1) (λ a. Mentions p.world.typing a f env) c.next_change.result) c.len.ensures c.next_change.ensures in
    subst (λ v. IsNextChange v c.args.k f env c.next_change.result) c.self.view_is (next_change_is p (g.S.State.atoms t.first) t.changes c.self.invariant c.args.k f env c.next_change.result next)

pub returns-clause-same : goal.returns-clause-same
returns-clause-same g c = stays_until c.args.self.now c.args.k (formula_view c.args.formula.now) (objects_in c.args.binding.now) c.next_change.result (returns-clause-next g c)
