use Rattle.std.proofs.Common.{arith}
use Rattle.hv_world.specs.WorldViews.{world_view}
use Rattle.hv_plan.specs.BuiltTrees.{tree_view}
use Rattle.hv_order.proofs.EntryLemmas.{place_more, all_placed}
use Rattle.hv_order.proofs.entries.places.Goals as goal

pub loop-place-preserved : goal.loop-place-preserved
loop-place-preserved c =
    place_more (world_view c.args._world.now) (tree_view c.args.tree.now) c.requires c.loop-place.places.items c.loop-place.place c.number_at.result c.number_at.ensures c.loop-place.invariant

pub returns : goal.returns
returns c =
    all_placed (world_view c.args._world.now) (tree_view c.args.tree.now) c.requires c.loop-place.places.items c.loop-place.place
    (omega (arith, c.loop-place-test.false, c.node_count-count.ensures)) c.loop-place.invariant
