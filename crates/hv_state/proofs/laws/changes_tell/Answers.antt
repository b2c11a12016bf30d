use Rattle.hv_state.proofs.ChangeLemmas.{told_is}
use Rattle.hv_state.proofs.laws.changes_tell.Goals as goal

pub returns : goal.returns
returns c = λ p g n cs are k le. told_is p g n cs are k le
