use Rattle.hv_world.specs.Ranges.{range_view}
use Rattle.hv_world.specs.WorldViews.{world_view}
use Rattle.hv_match.proofs.Bridge.{more_ranges}
use Rattle.hv_match.proofs.make.ranges.Goals as goal

pub loop-of-preserved : goal.loop-of-preserved
loop-of-preserved c =
    rw c.in_ok-push.ensures.items
    (more_ranges (world_view c.args.world.now).typing range_view c.loop-of.ranges.items c.range_of.result c.args.types.now c.loop-of.of-index _ c.loop-of-test.true c.loop-of.invariant c.range_of.ensures)
