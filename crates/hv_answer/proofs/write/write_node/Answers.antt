use Rattle.std.proofs.Common.{rules, [], ◌∷◌, ◌++◌, codes, decimal}
use Rattle.hv_lists.proofs.Options.{on_err}
use Rattle.hv_certificate.specs.Texts.{choice_text, joined}
use Rattle.hv_answer.proofs.WriteLemmas.{first_fails, then_err}
use Rattle.hv_answer.proofs.write.write_node.Goals as goal

pub returns-in_err-write_named_choice-clause-err : goal.returns-in_err-write_named_choice-clause-err
returns-in_err-write_named_choice-clause-err g c =
    on_err c.from_residual.result _ (first_fails _ _ (decimal c.args.node.now.0 ++ choice_text c.args.node.now.1) _ (joined (codes " pre " ∷ decimal c.args.node.now.2 ∷ codes "\n" ∷ [])) (search rules) c.in_err-write_named_choice.ensures.err)

pub returns-clause-err : goal.returns-clause-err
returns-clause-err g c =
    then_err c.write_parts.result _ _ _ (decimal c.args.node.now.0 ++ choice_text c.args.node.now.1) _ (joined (codes " pre " ∷ decimal c.args.node.now.2 ∷ codes "\n" ∷ [])) _ (search rules) (search rules) c.in_ok-write_named_choice.ensures.ok c.write_parts.ensures.err
