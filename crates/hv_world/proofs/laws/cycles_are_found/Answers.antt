use Rattle.hv_world.proofs.CycleLemmas.{cycle_found, cycle_there}
use Rattle.hv_world.proofs.laws.cycles_are_found.Goals as goal

pub returns : goal.returns
returns c = λ n within. (cycle_found n, cycle_there n within)
