use Rattle.std.proofs.Common.{List, map, subst}
use Rattle.std.proofs.lemmas.List.{take_all}
use Rattle.hv_plan.specs.TreeViews.{child_view}
use Rattle.hv_plan.specs.declared.tree.Child.{Child}
use Rattle.hv_plan.specs.declared.tree.Child.TheVariants as children
use Rattle.hv_order.specs.inside.Ends.{IsEndOf}
use Rattle.hv_order.proofs.EndLemmas.{later_end}
use Rattle.hv_order.proofs.ends.latest_end.Goals as goal

pub loop-child-preserved : goal.loop-child-preserved
loop-child-preserved c =
    rw c.max-end.ensures
    (later_end child_view c.args.ends.now c.args.children.now c.loop-child.child-index (children.Action 0) c.loop-child.end c.child_end.result
    c.loop-child-test.true c.loop-child.invariant c.child_end.ensures)

pub returns : goal.returns
returns c =
    let P : List Child → Type 0 = λ xs. IsEndOf c.args.ends.now (map child_view xs) c.loop-child.end in
    subst P (take_all c.loop-child.child-index c.args.children.now c.loop-child-test.false) c.loop-child.invariant
