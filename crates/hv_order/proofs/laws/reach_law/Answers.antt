use Rattle.hv_order.proofs.ReachedLines.{reach_law}
use Rattle.hv_order.proofs.laws.reach_law.Goals as goal

pub returns : goal.returns
returns c = reach_law
