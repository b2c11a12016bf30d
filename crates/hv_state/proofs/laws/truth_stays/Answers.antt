use Rattle.hv_state.proofs.ChangeLemmas.{unchanged}
use Rattle.hv_state.proofs.laws.truth_stays.Goals as goal

pub returns : goal.returns
returns c = λ p f env k n j e h. unchanged p f env k n j e h
