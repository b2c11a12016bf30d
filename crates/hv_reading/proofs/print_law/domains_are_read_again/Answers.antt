use Rattle.hv_reading.proofs.AgainDomains.{domain_again}
use Rattle.hv_reading.proofs.print_law.domains_are_read_again.Goals as goal

pub returns : goal.returns
returns c = domain_again
