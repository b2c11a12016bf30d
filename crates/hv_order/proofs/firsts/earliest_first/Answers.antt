use Rattle.std.proofs.Common.{List, map, subst}
use Rattle.std.proofs.lemmas.List.{take_all}
use Rattle.hv_plan.specs.TreeViews.{child_view}
use Rattle.hv_plan.specs.declared.tree.Child.{Child}
use Rattle.hv_plan.specs.declared.tree.Child.TheVariants as children
use Rattle.hv_order.specs.inside.Firsts.{IsFirstOf}
use Rattle.hv_order.proofs.FirstLemmas.{earlier_first}
use Rattle.hv_order.proofs.firsts.earliest_first.Goals as goal

pub loop-child-preserved : goal.loop-child-preserved
loop-child-preserved c =
    rw c.min-first.ensures
    (earlier_first child_view c.args.firsts.now c.args.children.now c.loop-child.child-index (children.Action 0) c.loop-child.first c.child_first.result
    c.loop-child-test.true c.loop-child.invariant c.child_first.ensures)

pub returns : goal.returns
returns c =
    let P : List Child → Type 0 = λ xs. IsFirstOf c.args.firsts.now (map child_view xs) c.loop-child.first in
    subst P (take_all c.loop-child.child-index c.args.children.now c.loop-child-test.false) c.loop-child.invariant
