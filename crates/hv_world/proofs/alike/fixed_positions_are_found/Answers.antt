use Rattle.hv_world.proofs.AlikeLaws.{fixed_says, fixed_found}
use Rattle.hv_world.proofs.alike.fixed_positions_are_found.Goals as goal

pub returns : goal.returns
returns c = λ ss n k. (fixed_says ss n k, fixed_found ss n k)
