use Rattle.hv_plan.specs.BuiltTrees.{tree_view}
use Rattle.hv_plan.specs.TreeViews.{child_view}
use Rattle.hv_plan.specs.declared.tree.Child.TheVariants as children
use Rattle.hv_order.specs.inside.Writings.{HasId, IsIdOf}
use Rattle.hv_order.proofs.Writing.{all_at, zip_more}
use Rattle.hv_order.proofs.certify.put_ids.Goals as goal

pub child_id-requires : goal.child_id-requires
child_id-requires c =
    all_at child_view (HasId (tree_view c.args.tree.now)) c.args.children.now c.loop-child.child-index (children.Action 0)
    c.loop-child-test.true c.requires

pub loop-child-preserved : goal.loop-child-preserved
loop-child-preserved c =
    rw c.in_ok-push.ensures.items
    (zip_more child_view (IsIdOf (tree_view c.args.tree.now)) c.args.children.now c.loop-child.child-index (children.Action 0)
    c.loop-child.ids.items c.child_id.result c.loop-child-test.true c.loop-child.invariant c.child_id.ensures)
