use Rattle.std.proofs.Common.{rules}
use Rattle.hv_lists.proofs.Options.{on_err}
use Rattle.hv_answer.specs.Kinds.{verdict_of}
use Rattle.hv_answer.specs.Text.{verdict_text, explanation}
use Rattle.hv_answer.proofs.WriteLemmas.{first_fails, then_err}
use Rattle.hv_answer.proofs.write.write_explained.Goals as goal

pub returns-in_err-write_verdict-clause-err : goal.returns-in_err-write_verdict-clause-err
returns-in_err-write_verdict-clause-err g c =
    on_err c.from_residual.result _ (first_fails _ _ (verdict_text (verdict_of c.args.answer.now)) _ (explanation c.args.answer.now) (search rules) c.in_err-write_verdict.ensures.err)

pub returns-clause-err : goal.returns-clause-err
returns-clause-err g c =
    then_err c.write_explanation.result _ _ _ (verdict_text (verdict_of c.args.answer.now)) _ (explanation c.args.answer.now) _ (search rules) (search rules) c.in_ok-write_verdict.ensures.ok c.write_explanation.ensures.err
