use Rattle.std.proofs.Common.{Bool, List, ◌+◌, sym, subst}
use Rattle.hv_world.specs.WorldViews.{world_view}
use Rattle.hv_plan.specs.BuiltTrees.{tree_view}
use Rattle.hv_order.specs.inside.Plain.{IsPlain}
use Rattle.hv_order.proofs.PlainNodes.{ArePlainUpto, node_more}
use Rattle.hv_order.proofs.plain.plain_nodes.Goals as goal

pub loop-number-preserved : goal.loop-number-preserved
loop-number-preserved c =
    let w = world_view c.args.world.now in
    let t = tree_view c.args.tree.now in
    let n = c.loop-number.number in
    let P : List Bool → Type 0 = λ plain. ArePlainUpto w t plain (n + 1) in
    let Q : List Bool → Type 0 = λ plain. IsPlain w t plain n in
    subst P (sym c.in_ok-push.ensures.items)
    (node_more w t c.loop-number.plain.items n c.is_plain-is.result c.loop-number.invariant (λ on. subst Q c.deref.ensures.value (c.is_plain-is.ensures on)))
