use Rattle.std.proofs.Common.{subst}
use Rattle.hv_judge.specs.Checked.{IsRecheckFault}
use Rattle.hv_judge.proofs.RecheckLemmas.{found_as, rejected_as}
use Rattle.hv_judge.proofs.RunLemmas.{wrote_as}
use Rattle.hv_judge.proofs.rechecking.recheck_texts.Goals as goal

pub returns-in-Ok-clause-wrote : goal.returns-in-Ok-clause-wrote
returns-in-Ok-clause-wrote g c =
    wrote_as _ _ g.W.Sink.taken _ _ c.tell.result
    (found_as c.args.domain.now c.args.problem.now c.args.plan.now c.args.certificate.now c.args.misfit c.in-Ok.found c.said_line.result c.in-Ok.ensures.ok c.said_line.ensures)
    c.tell.ensures.wrote

pub returns-in-Err-Rejected-clause-wrote : goal.returns-in-Err-Rejected-clause-wrote
returns-in-Err-Rejected-clause-wrote g c =
    wrote_as _ _ g.W.Sink.taken _ _ c.reject.result
    (rejected_as c.args.domain.now c.args.problem.now c.args.plan.now c.args.certificate.now c.args.misfit c.in-Err-Rejected.which c.in-Err-Rejected.fault
    (subst (IsRecheckFault c.args.domain.now c.args.problem.now c.args.plan.now c.args.certificate.now) c.in-Err-Rejected.field-0-is c.in-Err-Rejected.ensures.err))
    c.reject.ensures.wrote
