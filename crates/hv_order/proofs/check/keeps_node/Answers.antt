use Rattle.std.proofs.Common.{◌≡◌, ℕ, List, map, sym, ap, ◌∙◌, refl, subst}
use Rattle.hv_world.specs.MethodViews.{method_view}
use Rattle.hv_world.specs.WorldViews.{world_view}
use Rattle.hv_world.specs.Worlds.{Network}
use Rattle.hv_plan.specs.BuiltTrees.{tree_view}
use Rattle.hv_plan.specs.TreeViews.{child_view}
use Rattle.hv_plan.specs.PlanTrees.{children_at, children_of}
use Rattle.hv_match.specs.Candidates.{Tells}
use Rattle.hv_order.specs.inside.Checks.{KeepsNode, matching_in}
use Rattle.hv_order.proofs.CheckSteps.{not_behind, by_order}
use Rattle.hv_order.proofs.check.keeps_node.Goals as goal

pub returns-then-start_behind : goal.returns-then-start_behind
returns-then-start_behind c =
    let w = world_view c.args.world.now in
    let t = tree_view c.args.tree.now in
    let M = matching_in c.args.entries.now.matchings c.args.node in
    let children : children_at t.nodes c.args.node ≡ map child_view c.children-children.result.now = ap children_of c.node_of.ensures ∙ sym c.children-children.ensures in
    let P : List ℕ → Type 0 = λ ks. Tells (KeepsNode w t ks c.args.finishes.now c.args.node M) c.keeps_order.result in
    subst P c.deref-starts.ensures.value
    (by_order w t c.deref-starts.result.now c.args.finishes.now c.args.node M (map child_view c.children-children.result.now) children _ c.start_behind.result c.keeps_order.result
    c.at.result.now c.order-order.result.now (method_view c.method_of.result.now) refl c.start_behind.ensures c.if-start_behind.true c.at.ensures c.method_of.ensures
    (c.order-order.ensures ∙ ap (λ (n : Network). n.order) c.network.ensures) c.keeps_order.ensures)

pub returns-else-start_behind : goal.returns-else-start_behind
returns-else-start_behind c =
    let w = world_view c.args.world.now in
    let t = tree_view c.args.tree.now in
    let M = matching_in c.args.entries.now.matchings c.args.node in
    let children : children_at t.nodes c.args.node ≡ map child_view c.children-children.result.now = ap children_of c.node_of.ensures ∙ sym c.children-children.ensures in
    let P : List ℕ → Type 0 = λ ks. Tells (KeepsNode w t ks c.args.finishes.now c.args.node M) c.start_behind.result in
    subst P c.deref-starts.ensures.value
    (not_behind w t c.deref-starts.result.now c.args.finishes.now c.args.node M (map child_view c.children-children.result.now) children _ c.start_behind.result refl c.start_behind.ensures
    c.if-start_behind.false)
