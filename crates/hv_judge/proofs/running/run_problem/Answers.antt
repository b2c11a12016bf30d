use Rattle.std.proofs.Common.{refl}
use Rattle.hv_answer.specs.declared.answer.Which.TheVariants as texts
use Rattle.hv_judge.proofs.RunLemmas.{wrote_as, from_read, from_unread, given_problem, halted_as, halted_problem}
use Rattle.hv_judge.proofs.running.run_problem.Goals as goal

pub returns-in-Ok-clause-wrote : goal.returns-in-Ok-clause-wrote
returns-in-Ok-clause-wrote g c =
    wrote_as _ _ g.W.Sink.taken _ _ c.run_plan.result
    (from_read texts.Problem g.B.Source.left c.args.problem.now c.read_all.new.reader _ _ _ c.in-Ok.problem.items _ c.deref.ensures.value c.in-Ok.ensures.ok)
    c.run_plan.ensures.wrote

pub returns-in-Err-clause-wrote : goal.returns-in-Err-clause-wrote
returns-in-Err-clause-wrote g c =
    wrote_as _ _ g.W.Sink.taken _ _ c.finish_unread.result
    (from_unread texts.Problem g.B.Source.left c.args.problem.now c.read_all.new.reader _ _ _ c.in-Err.fault c.in-Err.ensures.err refl)
    c.finish_unread.ensures.wrote

pub returns-in-Ok-clause-halted : goal.returns-in-Ok-clause-halted
returns-in-Ok-clause-halted g c =
    halted_as _ _ c.run_plan.result
    (given_problem g.B.Source.left c.args.problem.now c.read_all.new.reader g.C.Source.left c.args.plan.now c.run_plan.new.plan c.in-Ok.problem.items c.in-Ok.ensures.ok)
    c.run_plan.ensures.halted

pub returns-in-Err-clause-halted : goal.returns-in-Err-clause-halted
returns-in-Err-clause-halted g c =
    halted_as _ _ c.finish_unread.result
    (halted_problem g.B.Source.left c.args.problem.now c.read_all.new.reader g.C.Source.left c.args.plan.now c.in-Err.fault c.in-Err.ensures.err)
    c.finish_unread.ensures.halted
