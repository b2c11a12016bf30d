use Rattle.std.proofs.Common.{rules, [], ◌∷◌, codes, decimal}
use Rattle.hv_lists.proofs.Options.{on_err}
use Rattle.hv_answer.specs.Kinds.{cause_number, cause_name}
use Rattle.hv_certificate.specs.Texts.{joined}
use Rattle.hv_answer.specs.Text.{line_text}
use Rattle.hv_answer.proofs.WriteLemmas.{first_fails, then_err}
use Rattle.hv_answer.proofs.write.write_cause.Goals as goal

pub returns-in_err-write_parts-clause-err : goal.returns-in_err-write_parts-clause-err
returns-in_err-write_parts-clause-err g c =
    on_err c.from_residual.result _ (first_fails _ _ (joined (codes "fails " ∷ decimal (cause_number c.args.cause.kind) ∷ codes " " ∷ cause_name c.args.cause.kind ∷ [])) _ (line_text c.args.cause.line) (search rules) c.in_err-write_parts.ensures.err)

pub returns-in-Some-clause-err : goal.returns-in-Some-clause-err
returns-in-Some-clause-err g c =
    then_err c.write_line.result _ _ _ (joined (codes "fails " ∷ decimal (cause_number c.args.cause.kind) ∷ codes " " ∷ cause_name c.args.cause.kind ∷ [])) _ (line_text c.args.cause.line) _ (search rules) (search rules) c.in_ok-write_parts.ensures.ok c.write_line.ensures.err
