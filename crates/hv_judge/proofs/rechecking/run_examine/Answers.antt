use Rattle.std.proofs.Common.{refl}
use Rattle.hv_answer.specs.declared.answer.Which.TheVariants as texts
use Rattle.hv_judge.proofs.RunLemmas.{wrote_as, from_read, from_unread, halted_as}
use Rattle.hv_judge.proofs.RecheckLemmas.{halt_read, halt_unread}
use Rattle.hv_judge.proofs.rechecking.run_examine.Goals as goal

pub returns-in-Ok-clause-wrote : goal.returns-in-Ok-clause-wrote
returns-in-Ok-clause-wrote g c =
    wrote_as _ _ g.W.Sink.taken _ _ c.recheck_problem.result
    (from_read texts.Domain g.A.Source.left c.args.domain.now c.read_all.new.reader _ _ _ c.in-Ok.domain.items _ c.deref.ensures.value c.in-Ok.ensures.ok)
    c.recheck_problem.ensures.wrote

pub returns-in-Err-clause-wrote : goal.returns-in-Err-clause-wrote
returns-in-Err-clause-wrote g c =
    wrote_as _ _ g.W.Sink.taken _ _ c.reject_unread.result
    (from_unread texts.Domain g.A.Source.left c.args.domain.now c.read_all.new.reader _ _ _ c.in-Err.fault c.in-Err.ensures.err (refl, refl, refl))
    c.reject_unread.ensures.wrote

pub returns-in-Ok-clause-halted : goal.returns-in-Ok-clause-halted
returns-in-Ok-clause-halted g c =
    halted_as _ _ c.recheck_problem.result
    (halt_read texts.Domain g.A.Source.left c.args.domain.now c.read_all.new.reader _ _ c.in-Ok.domain.items c.in-Ok.ensures.ok)
    c.recheck_problem.ensures.halted

pub returns-in-Err-clause-halted : goal.returns-in-Err-clause-halted
returns-in-Err-clause-halted g c =
    halted_as _ _ c.reject_unread.result
    (halt_unread texts.Domain g.A.Source.left c.args.domain.now c.read_all.new.reader _ _ c.in-Err.fault c.in-Err.ensures.err (refl, refl, refl))
    c.reject_unread.ensures.halted
