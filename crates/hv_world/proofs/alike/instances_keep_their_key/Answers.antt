use Rattle.hv_world.proofs.AlikeLaws.{instance_key}
use Rattle.hv_world.proofs.alike.instances_keep_their_key.Goals as goal

pub returns : goal.returns
returns c = instance_key
