use Rattle.std.proofs.Common.{rules, [], ◌∷◌, codes, decimal}
use Rattle.hv_lists.proofs.Options.{on_err}
use Rattle.hv_answer.specs.Kinds.{which_name, fault_number, fault_name}
use Rattle.hv_certificate.specs.Texts.{joined}
use Rattle.hv_answer.specs.Text.{place_text}
use Rattle.hv_answer.proofs.WriteLemmas.{first_fails, then_err}
use Rattle.hv_answer.proofs.write.write_fault.Goals as goal

pub returns-in_err-write_parts-clause-err : goal.returns-in_err-write_parts-clause-err
returns-in_err-write_parts-clause-err g c =
    on_err c.from_residual.result _ (first_fails _ _ (joined (codes "rejected " ∷ which_name c.args.which ∷ codes " " ∷ decimal (fault_number c.args.fault.kind) ∷ codes " " ∷ fault_name c.args.fault.kind ∷ [])) _ (place_text c.args.fault.place) (search rules) c.in_err-write_parts.ensures.err)

pub returns-clause-err : goal.returns-clause-err
returns-clause-err g c =
    then_err c.write_place.result _ _ _ (joined (codes "rejected " ∷ which_name c.args.which ∷ codes " " ∷ decimal (fault_number c.args.fault.kind) ∷ codes " " ∷ fault_name c.args.fault.kind ∷ [])) _ (place_text c.args.fault.place) _ (search rules) (search rules) c.in_ok-write_parts.ensures.ok c.write_place.ensures.err
