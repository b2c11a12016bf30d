use Rattle.hv_world.proofs.AlikeLaws.{free_says, free_found}
use Rattle.hv_world.proofs.alike.free_parameters_are_found.Goals as goal

pub returns : goal.returns
returns c = λ xs ss i. (free_says xs ss i, free_found xs ss i)
