use Rattle.std.proofs.Common.{inl, inr}
use Rattle.std.proofs.lemmas.Result.{err_from_is_err_and}
use Rattle.hv_judge.proofs.rechecking.check_text.Goals as goal

pub returns-clause-ok : goal.returns-clause-ok
returns-clause-ok c = record {
  is_recheck = record {
    certificate = c.in_ok-certificate.certificate;
    says = c.in_ok-certificate.ensures.ok;
    certified = c.in_ok-check_plan.ensures.certified;
    evaluated = c.in_ok-check_plan.ensures.evaluated;
  };
  line = c.in_ok-check_plan.ensures.line;
}

pub returns-in_err-certificate-clause-err : goal.returns-in_err-certificate-clause-err
returns-in_err-certificate-clause-err c =
    let p = err_from_is_err_and c.from_residual.result c.from_residual.ensures.1 in
    rw (p.1) (inr (c.in_err-certificate.field-0.0, c.in_err-certificate.ensures.err, p.2))

pub returns-in_err-check_plan-clause-err : goal.returns-in_err-check_plan-clause-err
returns-in_err-check_plan-clause-err c =
    let p = err_from_is_err_and c.from_residual-in_err-check_plan.result c.from_residual-in_err-check_plan.ensures.1 in
    rw (p.1) (inl p.2)
