use Rattle.hv_order.proofs.Certificates.{check_law}
use Rattle.hv_order.proofs.laws.check_law.Goals as goal

pub returns : goal.returns
returns c = check_law
