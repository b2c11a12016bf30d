use Rattle.hv_match.proofs.NodeLemmas.{has_method}
use Rattle.hv_match.proofs.laws.nodes_have_methods.Goals as goal

pub returns : goal.returns
returns c w t = has_method w t
