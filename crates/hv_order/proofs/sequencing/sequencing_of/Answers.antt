use Rattle.std.proofs.Common.{◌≡◌, Some, None, slice_get, sym}
use Rattle.std.specs.Rc.{rc_value}
use Rattle.hv_lists.proofs.Places.{map_some}
use Rattle.hv_world.specs.WorldViews.{world_view}
use Rattle.hv_plan.specs.BuiltTrees.{tree_view}
use Rattle.hv_plan.specs.TreeViews.{node_view}
use Rattle.hv_match.proofs.Cited.{has_method}
use Rattle.hv_order.proofs.Sequenced.{map_none, of_method, none_of_method}
use Rattle.hv_order.proofs.sequencing.sequencing_of.Goals as goal

pub unreachable-requires : goal.unreachable-requires
unreachable-requires c =
    let w = world_view c.args._world.now in
    let t = tree_view c.args.tree.now in
    let some = has_method w t c.requires.tree c.args.number c.requires.number in
    let items = c.args.sequencings.now.methods.items in
    let none : slice_get items c.in-Some.method.0 ≡ None = sym (rw (c.in-None-shared_at.is, c.deref.ensures.value) at c.shared_at.ensures) in
    none_of_method w t c.args.number (node_view c.node_of.result) c.node_of.ensures c.args.sequencings.now c.requires.sequencings
    c.in-Some.method.0 (sym c.in-Some.ensures) some (map_none rc_value items c.in-Some.method.0 none)

pub returns-in-Some-shared_at : goal.returns-in-Some-shared_at
returns-in-Some-shared_at c =
    let w = world_view c.args._world.now in
    let t = tree_view c.args.tree.now in
    let some = has_method w t c.requires.tree c.args.number c.requires.number in
    let items = c.args.sequencings.now.methods.items in
    let s = c.in-Some-shared_at.sequencing.now in
    let at : slice_get items c.in-Some.method.0 ≡ Some s = sym (rw (c.in-Some-shared_at.is, c.deref.ensures.value) at c.shared_at.ensures) in
    of_method w t c.args.number (node_view c.node_of.result) c.node_of.ensures c.args.sequencings.now c.requires.sequencings
    c.in-Some.method.0 (sym c.in-Some.ensures) some s.value (map_some rc_value items c.in-Some.method.0 s at)
