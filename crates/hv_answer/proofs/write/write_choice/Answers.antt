use Rattle.std.proofs.Common.{rules}
use Rattle.hv_lists.proofs.Options.{on_err}
use Rattle.hv_certificate.specs.Texts.{children_text, objects_text}
use Rattle.hv_answer.proofs.WriteLemmas.{first_fails, then_err}
use Rattle.hv_answer.proofs.write.write_choice.Goals as goal

pub returns-in_err-write_children-clause-err : goal.returns-in_err-write_children-clause-err
returns-in_err-write_children-clause-err g c =
    on_err c.from_residual.result _ (first_fails _ _ (children_text c.args.choice.now) _ (objects_text c.args.choice.now) (search rules) c.in_err-write_children.ensures.err)

pub returns-clause-err : goal.returns-clause-err
returns-clause-err g c =
    then_err c.write_objects.result _ _ _ (children_text c.args.choice.now) _ (objects_text c.args.choice.now) _ (search rules) (search rules) c.in_ok-write_children.ensures.ok c.write_objects.ensures.err
