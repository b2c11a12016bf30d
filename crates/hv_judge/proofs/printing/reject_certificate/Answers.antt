use Rattle.hv_judge.specs.Runs.{IsWant}
use Rattle.hv_judge.proofs.RunLemmas.{never_halted}
use Rattle.hv_judge.proofs.printing.reject_certificate.Goals as goal

pub returns-in-Some-clause-halted : goal.returns-in-Some-clause-halted
returns-in-Some-clause-halted g c = never_halted IsWant c.reject.result c.reject.ensures.halted
