use Rattle.hv_match.proofs.CountLemmas.{one_count}
use Rattle.hv_match.proofs.laws.counts_are_one.Goals as goal

pub returns : goal.returns
returns c = one_count
