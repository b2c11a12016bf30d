use Rattle.std.proofs.Common.{rules, ◌++◌, codes}
use Rattle.hv_lists.proofs.Options.{on_err}
use Rattle.hv_certificate.specs.Texts.{choice_text}
use Rattle.hv_answer.proofs.WriteLemmas.{first_fails, then_err}
use Rattle.hv_answer.proofs.write.write_root.Goals as goal

pub returns-in_err-write_named_choice-clause-err : goal.returns-in_err-write_named_choice-clause-err
returns-in_err-write_named_choice-clause-err g c =
    on_err c.from_residual.result _ (first_fails _ _ (codes "root" ++ choice_text c.args.root.now) _ (codes "\n") (search rules) c.in_err-write_named_choice.ensures.err)

pub returns-clause-err : goal.returns-clause-err
returns-clause-err g c =
    then_err c.write_all.result _ _ _ (codes "root" ++ choice_text c.args.root.now) _ (codes "\n") _ (search rules) (search rules) c.in_ok-write_named_choice.ensures.ok c.write_all.ensures.err
