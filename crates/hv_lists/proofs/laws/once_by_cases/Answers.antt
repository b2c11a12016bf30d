use Rattle.std.proofs.Common.{arith}
use Rattle.hv_lists.proofs.EachOnce.{once_head, once_tail, once_more}
use Rattle.hv_lists.proofs.laws.once_by_cases.Goals as goal

pub returns-clause-none : goal.returns-clause-none
returns-clause-none c = λ i j d less within. absurd (omega (arith, within))

pub returns-clause-more : goal.returns-clause-more
returns-clause-more c = λ x xs. ((λ once. (once_head x xs once, once_tail x xs once)), (λ both. once_more x xs both.0 both.1))
