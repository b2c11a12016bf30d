use Rattle.hv_judge.proofs.JudgementLemmas.{answered}
use Rattle.hv_judge.proofs.judgement.judge.Goals as goal

pub returns-in-Ok-Some : goal.returns-in-Ok-Some
returns-in-Ok-Some c = record {
  verdict = c.in-Ok-Some.ensures.solves;
  certified = rw c.in-Ok-Some.field-0-is at c.in-Ok-Some.ensures.certificate;
}

pub returns-in-Err : goal.returns-in-Err
returns-in-Err c =
    answered c.args.domain.now c.args.problem.now c.args.plan.now c.args.limit c.in-Err.why
    c.answer.result c.in-Err.ensures.err c.answer.ensures
