use Rattle.std.proofs.Common.{ℕ, ◌+◌, List, map, sym, ap, ◌∙◌, subst, arith}
use Rattle.hv_plan.specs.BuiltTrees.{tree_view}
use Rattle.hv_plan.specs.PlanTrees.{children_of}
use Rattle.hv_plan.specs.TreeViews.{child_view}
use Rattle.hv_order.specs.inside.Ends.{IsEndOf}
use Rattle.hv_order.proofs.EndLemmas.{AreFirstEnds, one_end_more, all_ends}
use Rattle.hv_order.proofs.ends.ends_of.Goals as goal

pub loop-number-preserved : goal.loop-number-preserved
loop-number-preserved c =
    let t = tree_view c.args.tree.now in
    let n = c.loop-number.number in
    let xs = map child_view c.children.result.now in
    let P : List ℕ → Type 0 = λ ends. IsEndOf ends xs c.latest_end-end.result in
    let Q : List ℕ → Type 0 = λ ends. AreFirstEnds t ends (n + 1) in
    subst Q (sym c.in_ok-push.ensures.items)
    (one_end_more t c.loop-number.ends.items n c.latest_end-end.result xs c.loop-number.invariant
    (c.children.ensures ∙ sym (ap children_of c.node_of.ensures)) (subst P c.deref.ensures.value c.latest_end-end.ensures))

pub returns : goal.returns
returns c =
    let t = tree_view c.args.tree.now in
    let count = c.node_count-count.ensures in
    let over = c.loop-number-test.false in
    all_ends t c.loop-number.ends.items c.loop-number.number c.loop-number.invariant (omega (arith, count, over))
