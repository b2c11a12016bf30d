use Rattle.std.proofs.Common.{◌≡◌, ℕ, ◌+◌, List, arith, map, sym, ap, ◌∙◌, subst}
use Rattle.std.specs.Prelude.{slice_index}
use Rattle.hv_plan.specs.BuiltTrees.{tree_view}
use Rattle.hv_plan.specs.TreeViews.{child_view}
use Rattle.hv_plan.specs.Trees.{Item}
use Rattle.hv_plan.specs.PlanTrees.{children_at, children_of}
use Rattle.hv_order.specs.inside.Checks.{IsLatest, finish_in}
use Rattle.hv_order.proofs.CheckSteps.{AreFirst, finish_more, finishes_are}
use Rattle.hv_order.proofs.check.finishes.Goals as goal

pub loop-node-preserved : goal.loop-node-preserved
loop-node-preserved c =
    let t = tree_view c.args.tree.now in
    let ks = c.args.starts.now in
    let fs = c.loop-node.finishes.items in
    let v = c.loop-node.node in
    let children : map child_view c.children-children.result.now ≡ children_at t.nodes v = c.children-children.ensures ∙ sym (ap children_of c.node_of.ensures) in
    let P : List Item → Type 0 = λ xs. IsLatest (slice_index ks v) xs (finish_in c.deref.result.now) c.latest.result in
    let R : List ℕ → Type 0 = λ xs. IsLatest (slice_index ks v) (children_at t.nodes v) (finish_in xs) c.latest.result in
    let S : List ℕ → Type 0 = λ xs. AreFirst t ks xs (v + 1) in
    subst S (sym c.in_ok-push.ensures.items)
    (finish_more t ks fs v c.latest.result c.requires.tree.is_tree.shape.tree c.loop-node.invariant
    (subst R c.deref.ensures.value (subst P children c.latest.ensures)))

pub returns : goal.returns
returns c =
    finishes_are (tree_view c.args.tree.now) c.args.starts.now c.loop-node.finishes.items c.loop-node.node c.requires.as_many
    (omega (arith, c.loop-node-test.false, c.node_count-node-end.ensures)) c.loop-node.invariant
