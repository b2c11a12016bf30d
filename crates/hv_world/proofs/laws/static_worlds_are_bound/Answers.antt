use Rattle.hv_world.proofs.BoundWorlds.{world_bound}
use Rattle.hv_world.proofs.laws.static_worlds_are_bound.Goals as goal

pub returns : goal.returns
returns c = world_bound
