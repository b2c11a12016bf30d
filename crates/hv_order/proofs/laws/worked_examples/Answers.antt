use Rattle.hv_order.proofs.Examples.{worked_examples}
use Rattle.hv_order.proofs.laws.worked_examples.Goals as goal

pub returns : goal.returns
returns c = worked_examples
