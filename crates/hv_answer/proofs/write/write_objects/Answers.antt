use Rattle.std.proofs.Common.{rules, codes}
use Rattle.hv_lists.proofs.Options.{on_err}
use Rattle.hv_certificate.specs.Texts.{names_text}
use Rattle.hv_answer.proofs.WriteLemmas.{first_fails, then_err}
use Rattle.hv_answer.proofs.write.write_objects.Goals as goal

pub returns-in_err-write_all-clause-err : goal.returns-in_err-write_all-clause-err
returns-in_err-write_all-clause-err g c =
    on_err c.from_residual.result _ (first_fails _ _ (codes " objects") _ (names_text c.args.choice.now.objects.items) (search rules) c.in_err-write_all.ensures.err)

pub returns-clause-err : goal.returns-clause-err
returns-clause-err g c =
    then_err c.write_names.result _ _ _ (codes " objects") _ (names_text c.args.choice.now.objects.items) _ (search rules) (search rules) c.in_ok-write_all.ensures.ok c.write_names.ensures.err
