use Rattle.hv_reading.proofs.PlacesSections.{domain_found}
use Rattle.hv_reading.proofs.print_law.domains_are_read_wherever_they_stand.Goals as goal

pub returns : goal.returns
returns c = domain_found
