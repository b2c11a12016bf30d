use Rattle.hv_judge.specs.Runs.{IsWant}
use Rattle.hv_judge.proofs.RunLemmas.{wrote_as, said_explained, said_verdict, never_halted}
use Rattle.hv_judge.proofs.running.judge_texts.Goals as goal

pub returns-then-explain-clause-wrote : goal.returns-then-explain-clause-wrote
returns-then-explain-clause-wrote g c =
    wrote_as _ _ g.W.Sink.taken _ _ c.finish_explained.result
    (said_explained c.args.domain.now c.args.problem.now c.args.plan.now c.args.limit c.args.explain c.if-explain.true
    c.in_ok-answer.answer c.in_ok-answer.ensures)
    c.finish_explained.ensures.wrote

pub returns-then-explain-clause-halted : goal.returns-then-explain-clause-halted
returns-then-explain-clause-halted g c = never_halted IsWant c.finish_explained.result c.finish_explained.ensures.halted

pub returns-clause-wrote : goal.returns-clause-wrote
returns-clause-wrote g c =
    wrote_as _ _ g.W.Sink.taken _ _ c.finish.result
    (said_verdict c.args.domain.now c.args.problem.now c.args.plan.now c.args.limit c.args.explain c.if-explain.false
    c.in_ok-verdict.verdict c.in_ok-verdict.ensures)
    c.finish.ensures.wrote

pub returns-clause-halted : goal.returns-clause-halted
returns-clause-halted g c = never_halted IsWant c.finish.result c.finish.ensures.halted
