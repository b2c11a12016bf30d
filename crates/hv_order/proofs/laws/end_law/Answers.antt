use Rattle.hv_order.proofs.Derivations.{derivation_law}
use Rattle.hv_order.proofs.End.{end_law, same_end_law}
use Rattle.hv_order.proofs.laws.end_law.Goals as goal

pub returns : goal.returns
returns c = record { exists = derivation_law; end = end_law; same = same_end_law }
