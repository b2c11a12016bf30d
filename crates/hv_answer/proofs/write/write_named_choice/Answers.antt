use Rattle.std.proofs.Common.{rules}
use Rattle.hv_lists.proofs.Options.{on_err}
use Rattle.hv_certificate.specs.Texts.{choice_text}
use Rattle.hv_answer.proofs.WriteLemmas.{first_fails, then_err}
use Rattle.hv_answer.proofs.write.write_named_choice.Goals as goal

pub returns-in_err-write_all-clause-err : goal.returns-in_err-write_all-clause-err
returns-in_err-write_all-clause-err g c =
    on_err c.from_residual.result _ (first_fails _ _ (c.args.name.now) _ (choice_text c.args.choice.now) (search rules) c.in_err-write_all.ensures.err)

pub returns-clause-err : goal.returns-clause-err
returns-clause-err g c =
    then_err c.write_choice.result _ _ _ (c.args.name.now) _ (choice_text c.args.choice.now) _ (search rules) (search rules) c.in_ok-write_all.ensures.ok c.write_choice.ensures.err
