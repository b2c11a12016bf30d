use Rattle.hv_text.proofs.RunLemmas.{in_order}
use Rattle.hv_text.proofs.laws.words_are_in_order.Goals as goal

pub returns : goal.returns
returns c = in_order
