use Rattle.std.proofs.Common.{rules}
use Rattle.hv_answer.specs.Text.{explanation}
use Rattle.hv_answer.proofs.WriteLemmas.{same_err}
use Rattle.hv_answer.proofs.write.write_explanation.Goals as goal

pub returns-in-Solves-clause-err : goal.returns-in-Solves-clause-err
returns-in-Solves-clause-err g c =
    same_err c.write_certificate.result _ _ (explanation c.args.answer.now) _ (search rules) c.write_certificate.ensures.err
