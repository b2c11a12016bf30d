use Rattle.std.proofs.Common.{Some, ap, ◌∙◌, arith}
use Rattle.hv_state.proofs.HistoryLemmas.{none_up_to, last_is}
use Rattle.hv_state.proofs.history.last_up_to.Goals as goal

pub returns-then-past-eq0 : goal.returns-then-past-eq0
returns-then-past-eq0 c = none_up_to c.args.list.now c.args.k c.past-past.result c.past-past.ensures.0 c.past-past.ensures.1 c.if-past-eq0.true

pub returns-else-past-eq0 : goal.returns-else-past-eq0
returns-else-past-eq0 c = ap (λ b. Some b) c.is_true.ensures ∙ last_is c.args.list.now c.args.k c.past-past.result c.past-past.ensures.0 c.past-past.ensures.1 (record { number = 0 }) (omega (arith, c.if-past-eq0.false))
