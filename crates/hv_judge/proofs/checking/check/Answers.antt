use Rattle.std.proofs.Common.{◌∙◌, sym, subst}
use Rattle.std.proofs.lemmas.Result.{err_from_is_err_and}
use Rattle.hv_world.specs.WorldViews.{world_view}
use Rattle.hv_plan.specs.LineViews.{plan_view}
use Rattle.hv_match.specs.Candidates.{Tells}
use Rattle.hv_judge.specs.Rejections.{IsRejected, by_length}
use Rattle.hv_judge.specs.Solutions.{SolvesBy}
use Rattle.hv_judge.specs.inside.Ends.{plan_end}
use Rattle.hv_judge.proofs.CheckLemmas.{check_ends}
use Rattle.hv_judge.proofs.JudgementLemmas.{pair_rejected, plan_rejected, spelled}
use Rattle.hv_judge.proofs.checking.check.Goals as goal

pub returns-in-Some-clause-err : goal.returns-in-Some-clause-err
returns-in-Some-clause-err c =
    subst (IsRejected c.args.domain.now c.args.problem.now c.args.plan.now c.in-Some.which)
    (sym c.too_long.ensures)
    (by_length c.in-Some.which (sym c.first_too_long.ensures ∙ c.in-Some.is))

pub returns-in_err-world-clause-err : goal.returns-in_err-world-clause-err
returns-in_err-world-clause-err c =
    let p = err_from_is_err_and c.from_residual.result c.from_residual.ensures.1 in
    rw (p.1, p.2)
    (check_ends c.args.domain.now c.args.problem.now c.args.plan.now c.in_err-world.field-0.0
    (pair_rejected c.args.domain.now c.args.problem.now c.args.plan.now 0
    c.in_err-world.field-0.0 (sym c.first_too_long.ensures ∙ c.in_default.is)
    c.in_err-world.ensures.err))

pub returns-in_err-plan-clause-err : goal.returns-in_err-plan-clause-err
returns-in_err-plan-clause-err c =
    let p = err_from_is_err_and c.from_residual-in_err-plan.result c.from_residual-in_err-plan.ensures.1 in
    rw (p.1, p.2)
    (check_ends c.args.domain.now c.args.problem.now c.args.plan.now (plan_end c.in_err-plan.field-0.0)
    (plan_rejected c.args.domain.now c.args.problem.now c.args.plan.now 0
    (world_view c.in_ok-world.world) c.in_err-plan.field-0.0
    (sym c.first_too_long.ensures ∙ c.in_default.is) c.in_ok-world.ensures.ok
    c.in_err-plan.ensures.err))

pub returns-clause-ok : goal.returns-clause-ok
returns-clause-ok c =
    spelled c.args.domain.now c.args.problem.now c.args.plan.now 0
    (world_view c.in_ok-world.world) (plan_view c.in_ok-plan.plan)
    (sym c.first_too_long.ensures ∙ c.in_default.is) c.in_ok-world.ensures.ok
    c.in_ok-plan.ensures.ok (λ w q. Tells (SolvesBy w q c.args.certificate.now) c.in_ok-found.found.recheck.certified) c.in_ok-found.ensures.certified

pub returns-in_err-found-clause-err : goal.returns-in_err-found-clause-err
returns-in_err-found-clause-err c =
    let p = err_from_is_err_and c.from_residual-in_err-found.result c.from_residual-in_err-found.ensures.1 in
    rw (p.1, p.2) tt
