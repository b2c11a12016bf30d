use Rattle.hv_text.proofs.TreeLemmas.{one_reading}
use Rattle.hv_text.proofs.laws.a_text_has_one_reading.Goals as goal

pub returns : goal.returns
returns c = one_reading
