use Rattle.std.proofs.Common.{◌≤◌, ◌+◌, length, ◌∙◌, sym, subst, arith}
use Rattle.std.proofs.lemmas.Result.{err_from_is_err_and}
use Rattle.hv_world.specs.WorldViews.{world_view}
use Rattle.hv_plan.specs.LineViews.{plan_view}
use Rattle.hv_text.specs.declared.fault.TheConstants.{MOST_BYTES}
use Rattle.hv_answer.specs.declared.answer.Which.TheVariants as which
use Rattle.hv_judge.specs.Checked.{IsExaminedOf, IsRejectedOfFour, too_long, certificate_too_long}
use Rattle.hv_judge.specs.inside.Ends.{plan_end}
use Rattle.hv_judge.proofs.RecheckLemmas.{judged_ends, ends_as, finds_as}
use Rattle.hv_judge.proofs.JudgementLemmas.{pair_rejected, plan_rejected, spelled}
use Rattle.hv_judge.proofs.rechecking.examine.Goals as goal

pub returns-clause-ok : goal.returns-clause-ok
returns-clause-ok c =
    finds_as c.args.domain.now c.args.problem.now c.args.plan.now c.args.certificate.now c.check_text.result
    (world_view c.in_ok-world.world) (plan_view c.in_ok-plan.plan)
    (λ found is. spelled c.args.domain.now c.args.problem.now c.args.plan.now 0
    (world_view c.in_ok-world.world) (plan_view c.in_ok-plan.plan)
    (sym c.first_too_long.ensures ∙ c.in_default.is) c.in_ok-world.ensures.ok
    c.in_ok-plan.ensures.ok (IsExaminedOf c.args.certificate.now found) is)
    c.check_text.ensures.ok

pub returns-clause-err : goal.returns-clause-err
returns-clause-err c =
    ends_as c.args.domain.now c.args.problem.now c.args.plan.now c.args.certificate.now c.check_text.result c.if-certificate-gt-MOST_BYTES.false
    (spelled c.args.domain.now c.args.problem.now c.args.plan.now 0 (world_view c.in_ok-world.world) (plan_view c.in_ok-plan.plan)
    (sym c.first_too_long.ensures ∙ c.in_default.is) c.in_ok-world.ensures.ok c.in_ok-plan.ensures.ok (λ w q. Unit {0}) tt)
    c.check_text.ensures.err

pub returns-in-Some-clause-err : goal.returns-in-Some-clause-err
returns-in-Some-clause-err c =
    subst (IsRejectedOfFour c.args.domain.now c.args.problem.now c.args.plan.now c.args.certificate.now c.in-Some.which)
    (sym c.too_long.ensures)
    (too_long c.in-Some.which (sym c.first_too_long.ensures ∙ c.in-Some.is))

pub returns-then-certificate-gt-MOST_BYTES-clause-err : goal.returns-then-certificate-gt-MOST_BYTES-clause-err
returns-then-certificate-gt-MOST_BYTES-clause-err c =
    subst (IsRejectedOfFour c.args.domain.now c.args.problem.now c.args.plan.now c.args.certificate.now which.Certificate)
    (sym c.too_long-then-certificate-gt-MOST_BYTES.ensures)
    (certificate_too_long (sym c.first_too_long.ensures ∙ c.in_default.is) c.if-certificate-gt-MOST_BYTES.true)

pub returns-in_err-world-clause-err : goal.returns-in_err-world-clause-err
returns-in_err-world-clause-err c =
    let p = err_from_is_err_and c.from_residual.result c.from_residual.ensures.1 in
    rw (p.1, p.2)
    (judged_ends c.args.domain.now c.args.problem.now c.args.plan.now c.args.certificate.now c.in_err-world.field-0.0 (sym c.first_too_long.ensures ∙ c.in_default.is) c.if-certificate-gt-MOST_BYTES.false
    (pair_rejected c.args.domain.now c.args.problem.now c.args.plan.now 0 c.in_err-world.field-0.0 (sym c.first_too_long.ensures ∙ c.in_default.is)
    c.in_err-world.ensures.err))

pub returns-in_err-plan-clause-err : goal.returns-in_err-plan-clause-err
returns-in_err-plan-clause-err c =
    let p = err_from_is_err_and c.from_residual-in_err-plan.result c.from_residual-in_err-plan.ensures.1 in
    rw (p.1, p.2)
    (judged_ends c.args.domain.now c.args.problem.now c.args.plan.now c.args.certificate.now (plan_end c.in_err-plan.field-0.0) (sym c.first_too_long.ensures ∙ c.in_default.is) c.if-certificate-gt-MOST_BYTES.false
    (plan_rejected c.args.domain.now c.args.problem.now c.args.plan.now 0
    (world_view c.in_ok-world.world) c.in_err-plan.field-0.0 (sym c.first_too_long.ensures ∙ c.in_default.is) c.in_ok-world.ensures.ok
    c.in_err-plan.ensures.err))

pub check_text-requires-clause-small : goal.check_text-requires-clause-small
check_text-requires-clause-small c =
    let q = plan_view c.in_ok-plan.plan in
    let few : length q.actions + length q.decompositions ≤ length c.args.plan.now =
    c.plans_are_small.ensures c.args.plan.now q c.in_ok-plan.ensures.ok in
    let size : length c.args.plan.now ≤ MOST_BYTES = c.in_ok-plan.ensures.ok.size in
    omega (arith, few, size)
