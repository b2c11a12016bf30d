use Rattle.std.proofs.Common.{sym, true≢false}
use Rattle.hv_world.specs.WorldViews.{world_view}
use Rattle.hv_world.proofs.GroundingLemmas.{more_objects}
use Rattle.hv_world.proofs.world.World.are_of.Goals as goal

pub returns-in-empty : goal.returns-in-empty
returns-in-empty c = (
  λ h. absurd (true≢false (sym h)),
  λ m. absurd (more_objects (world_view c.args.self.now).typing c.args.objects.now c.loop-object.object-index c.loop-object.left.now c.loop-object-test.true c.in-empty.len_below (c.loop-object.invariant.1 m)),
)
