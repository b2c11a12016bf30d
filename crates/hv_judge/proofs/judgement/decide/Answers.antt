use Rattle.hv_judge.proofs.JudgementLemmas.{decided}
use Rattle.hv_judge.proofs.judgement.decide.Goals as goal

pub returns-in-Err : goal.returns-in-Err
returns-in-Err c =
    decided c.args.domain.now c.args.problem.now c.args.plan.now c.args.limit c.in-Err.why
    c.verdict.result c.in-Err.ensures.err c.verdict.ensures
