use Rattle.hv_answer.specs.declared.answer.Which.TheVariants as texts
use Rattle.hv_judge.proofs.RunLemmas.{wrote_as, from_read, from_unread, halted_as, halted_text, wanted}
use Rattle.hv_judge.proofs.running.run_plan.Goals as goal

pub returns-in-Ok-clause-wrote : goal.returns-in-Ok-clause-wrote
returns-in-Ok-clause-wrote g c =
    wrote_as _ _ g.W.Sink.taken _ _ c.judge_texts.result
    (from_read texts.Plan g.C.Source.left c.args.plan.now c.read_all.new.reader _ _ _ c.in-Ok.plan.items _ c.deref.ensures.value c.in-Ok.ensures.ok)
    c.judge_texts.ensures.wrote

pub returns-in-Err-clause-wrote : goal.returns-in-Err-clause-wrote
returns-in-Err-clause-wrote g c =
    wrote_as _ _ g.W.Sink.taken _ _ c.finish_unread.result
    (from_unread texts.Plan g.C.Source.left c.args.plan.now c.read_all.new.reader _ _ _ c.in-Err.fault c.in-Err.ensures.err tt)
    c.finish_unread.ensures.wrote

pub returns-in-Ok-clause-halted : goal.returns-in-Ok-clause-halted
returns-in-Ok-clause-halted g c =
    halted_as _ _ c.judge_texts.result (wanted texts.Plan g.C.Source.left c.args.plan.now c.read_all.new.reader c.in-Ok.plan.items c.in-Ok.ensures.ok)
    c.judge_texts.ensures.halted

pub returns-in-Err-clause-halted : goal.returns-in-Err-clause-halted
returns-in-Err-clause-halted g c =
    halted_as _ _ c.finish_unread.result (halted_text texts.Plan g.C.Source.left c.args.plan.now c.read_all.new.reader c.in-Err.fault c.in-Err.ensures.err)
    c.finish_unread.ensures.halted
