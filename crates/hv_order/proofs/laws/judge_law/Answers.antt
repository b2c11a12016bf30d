use Rattle.hv_order.proofs.Judgement.{judge_law}
use Rattle.hv_order.proofs.laws.judge_law.Goals as goal

pub returns : goal.returns
returns c = judge_law
