use Rattle.hv_world.proofs.TypeDecisions.{of_is_decided}
use Rattle.hv_world.proofs.laws.types_are_decided.Goals as goal

pub returns : goal.returns
returns c = of_is_decided
