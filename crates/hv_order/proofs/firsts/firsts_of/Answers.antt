use Rattle.std.proofs.Common.{ℕ, ◌+◌, List, map, sym, ap, ◌∙◌, subst, arith}
use Rattle.hv_plan.specs.BuiltTrees.{tree_view}
use Rattle.hv_plan.specs.PlanTrees.{children_of}
use Rattle.hv_plan.specs.TreeViews.{child_view}
use Rattle.hv_order.specs.inside.Firsts.{IsFirstOf}
use Rattle.hv_order.proofs.FirstLemmas.{AreFirstsUpto, one_first_more, all_firsts}
use Rattle.hv_order.proofs.firsts.firsts_of.Goals as goal

pub loop-number-preserved : goal.loop-number-preserved
loop-number-preserved c =
    let t = tree_view c.args.tree.now in
    let n = c.loop-number.number in
    let xs = map child_view c.children.result.now in
    let P : List ℕ → Type 0 = λ firsts. IsFirstOf firsts xs c.earliest_first-first.result in
    let Q : List ℕ → Type 0 = λ firsts. AreFirstsUpto t firsts (n + 1) in
    subst Q (sym c.in_ok-push.ensures.items)
    (one_first_more t c.loop-number.firsts.items n c.earliest_first-first.result xs c.loop-number.invariant
    (c.children.ensures ∙ sym (ap children_of c.node_of.ensures)) (subst P c.deref.ensures.value c.earliest_first-first.ensures))

pub returns : goal.returns
returns c =
    let t = tree_view c.args.tree.now in
    let count = c.node_count-count.ensures in
    let over = c.loop-number-test.false in
    all_firsts t c.loop-number.firsts.items c.loop-number.number c.loop-number.invariant (omega (arith, count, over))
