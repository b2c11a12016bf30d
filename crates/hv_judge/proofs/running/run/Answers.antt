use Rattle.std.proofs.Common.{refl}
use Rattle.hv_answer.specs.declared.answer.Which.TheVariants as texts
use Rattle.hv_judge.proofs.RunLemmas.{wrote_as, from_read, from_unread, given_domain, halted_as, halted_domain}
use Rattle.hv_judge.proofs.running.run.Goals as goal

pub returns-in-Ok-clause-wrote : goal.returns-in-Ok-clause-wrote
returns-in-Ok-clause-wrote g c =
    wrote_as _ _ g.W.Sink.taken _ _ c.run_problem.result
    (from_read texts.Domain g.A.Source.left c.args.domain.now c.read_all.new.reader _ _ _ c.in-Ok.domain.items _ c.deref.ensures.value c.in-Ok.ensures.ok)
    c.run_problem.ensures.wrote

pub returns-in-Err-clause-wrote : goal.returns-in-Err-clause-wrote
returns-in-Err-clause-wrote g c =
    wrote_as _ _ g.W.Sink.taken _ _ c.finish_unread.result
    (from_unread texts.Domain g.A.Source.left c.args.domain.now c.read_all.new.reader _ _ _ c.in-Err.fault c.in-Err.ensures.err (refl, refl))
    c.finish_unread.ensures.wrote

pub returns-in-Ok-clause-halted : goal.returns-in-Ok-clause-halted
returns-in-Ok-clause-halted g c =
    halted_as _ _ c.run_problem.result
    (given_domain g.A.Source.left c.args.domain.now c.read_all.new.reader g.B.Source.left c.args.problem.now c.run_problem.new.problem g.C.Source.left c.args.plan.now c.run_problem.new.plan c.in-Ok.domain.items c.in-Ok.ensures.ok)
    c.run_problem.ensures.halted

pub returns-in-Err-clause-halted : goal.returns-in-Err-clause-halted
returns-in-Err-clause-halted g c =
    halted_as _ _ c.finish_unread.result
    (halted_domain g.A.Source.left c.args.domain.now c.read_all.new.reader g.B.Source.left c.args.problem.now g.C.Source.left c.args.plan.now c.in-Err.fault c.in-Err.ensures.err)
    c.finish_unread.ensures.halted
