use Rattle.std.proofs.Common.{◌∙◌, sym, subst}
use Rattle.std.proofs.lemmas.Result.{err_from_is_err_and}
use Rattle.hv_world.specs.WorldViews.{world_view}
use Rattle.hv_plan.specs.LineViews.{plan_view}
use Rattle.hv_judge.specs.Rejections.{IsRejected, by_length}
use Rattle.hv_judge.proofs.JudgementLemmas.{pair_rejected, plan_rejected, texts_solve, texts_explain, texts_end}
use Rattle.hv_judge.proofs.judgement.judge_texts.Goals as goal

pub returns-in-Some-clause-err : goal.returns-in-Some-clause-err
returns-in-Some-clause-err c =
    subst (IsRejected c.args.domain.now c.args.problem.now c.args.plan.now c.in-Some.which)
    (sym c.too_long.ensures)
    (by_length c.in-Some.which (sym c.first_too_long.ensures ∙ c.in-Some.is))

pub returns-in_err-world-clause-err : goal.returns-in_err-world-clause-err
returns-in_err-world-clause-err c =
    let p = err_from_is_err_and c.from_residual.result c.from_residual.ensures.1 in
    rw (p.1, p.2)
    (pair_rejected c.args.domain.now c.args.problem.now c.args.plan.now c.args.limit
    c.in_err-world.field-0.0 (sym c.first_too_long.ensures ∙ c.in_default.is)
    c.in_err-world.ensures.err)

pub returns-in_err-plan-clause-err : goal.returns-in_err-plan-clause-err
returns-in_err-plan-clause-err c =
    let p = err_from_is_err_and c.from_residual-in_err-plan.result c.from_residual-in_err-plan.ensures.1 in
    rw (p.1, p.2)
    (plan_rejected c.args.domain.now c.args.problem.now c.args.plan.now c.args.limit
    (world_view c.in_ok-world.world) c.in_err-plan.field-0.0
    (sym c.first_too_long.ensures ∙ c.in_default.is) c.in_ok-world.ensures.ok
    c.in_err-plan.ensures.err)

pub returns-clause-solves : goal.returns-clause-solves
returns-clause-solves c =
    texts_solve c.args.domain.now c.args.problem.now c.args.plan.now c.args.limit
    (world_view c.in_ok-world.world) (plan_view c.in_ok-plan.plan)
    (sym c.first_too_long.ensures ∙ c.in_default.is) c.in_ok-world.ensures.ok
    c.in_ok-plan.ensures.ok c.judge_plan.result c.judge_plan.ensures.solves

pub returns-clause-certificate : goal.returns-clause-certificate
returns-clause-certificate c =
    texts_explain c.args.domain.now c.args.problem.now c.args.plan.now c.args.limit
    (world_view c.in_ok-world.world) (plan_view c.in_ok-plan.plan)
    (sym c.first_too_long.ensures ∙ c.in_default.is) c.in_ok-world.ensures.ok
    c.in_ok-plan.ensures.ok c.args.explain c.judge_plan.result c.judge_plan.ensures.certificate

pub returns-clause-err : goal.returns-clause-err
returns-clause-err c =
    texts_end c.args.domain.now c.args.problem.now c.args.plan.now c.args.limit
    (world_view c.in_ok-world.world) (plan_view c.in_ok-plan.plan)
    (sym c.first_too_long.ensures ∙ c.in_default.is) c.in_ok-world.ensures.ok
    c.in_ok-plan.ensures.ok c.judge_plan.result c.judge_plan.ensures.err
