use Rattle.std.proofs.Common.{ℕ, ◌≤◌, subst}
use Rattle.hv_plan.specs.BuiltTrees.{tree_view}
use Rattle.hv_order.specs.Settings.{Setting, setting}
use Rattle.hv_order.specs.inside.PlanFacts.{FitsNode}
use Rattle.hv_order.proofs.EndLemmas.{node_behind}
use Rattle.hv_order.proofs.plan_nodes.PlanNodesNodes.earliest.Goals as goal

pub returns : goal.returns
returns c =
    let q : Setting = setting (tree_view c.self.inside.tree.now) c.self.inside.trace.now c.self.inside.is_with in
    let P : Setting → Type 0 = λ q. (s f : ℕ) → FitsNode q c.args.node s f → c.end_at.result ≤ f in
    subst P c.self.view_is (λ s f fits. rw (c.end_at.ensures, c.deref-2.ensures.value, c.deref.ensures) (node_behind q c.self.inside.spans.value.ends.items c.self.invariant.spanned.ends c.args.node s f fits))
