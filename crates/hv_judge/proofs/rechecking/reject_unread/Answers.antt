use Rattle.hv_judge.specs.Runs.{IsFailureOf}
use Rattle.hv_judge.proofs.RunLemmas.{never_halted}
use Rattle.hv_judge.proofs.rechecking.reject_unread.Goals as goal

pub returns-in-TooLong-clause-halted : goal.returns-in-TooLong-clause-halted
returns-in-TooLong-clause-halted g c = never_halted (IsFailureOf c.args.which c.args.fault) c.reject.result c.reject.ensures.halted
