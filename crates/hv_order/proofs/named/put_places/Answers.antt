use Rattle.std.proofs.Common.{map}
use Rattle.hv_plan.specs.BuiltTrees.{tree_view}
use Rattle.hv_plan.specs.TreeViews.{child_view}
use Rattle.hv_order.proofs.NamedLemmas.{are_put}
use Rattle.hv_order.proofs.named.put_places.Goals as goal

pub returns-then-len-le-FEW : goal.returns-then-len-le-FEW
returns-then-len-le-FEW c =
    are_put (tree_view c.args.tree.now) (map child_view c.args.children.now) c.put_ids.new.ids.items c.deref.result.now c.args.ids.now c.put_few_places.new.places.items c.put_few_places.result
    c.in_ok-put_ids.ensures c.deref.ensures.value c.put_few_places.ensures

pub returns-else-len-le-FEW : goal.returns-else-len-le-FEW
returns-else-len-le-FEW c =
    are_put (tree_view c.args.tree.now) (map child_view c.args.children.now) c.put_ids.new.ids.items c.deref-else-len-le-FEW.result.now c.args.ids.now c.put_many_places.new.places.items
    c.put_many_places.result c.in_ok-put_ids.ensures c.deref-else-len-le-FEW.ensures.value c.put_many_places.ensures
