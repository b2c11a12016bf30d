use Rattle.hv_reading.proofs.Alike.{problems_alike}
use Rattle.hv_reading.proofs.print_law.problems_are_printed_alike.Goals as goal

pub returns : goal.returns
returns c = problems_alike
