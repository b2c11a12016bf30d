use Rattle.hv_reading.proofs.Alike.{domains_alike}
use Rattle.hv_reading.proofs.print_law.domains_are_printed_alike.Goals as goal

pub returns : goal.returns
returns c = domains_alike
