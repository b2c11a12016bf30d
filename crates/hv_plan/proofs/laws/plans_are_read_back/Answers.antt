use Rattle.hv_plan.proofs.ReadBack.{read_back, printed_again}
use Rattle.hv_plan.proofs.laws.plans_are_read_back.Goals as goal

pub returns-clause-back : goal.returns-clause-back
returns-clause-back c = read_back

pub returns-clause-again : goal.returns-clause-again
returns-clause-again c = printed_again
