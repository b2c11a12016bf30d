use Rattle.std.proofs.Common.{◌++◌, ◌∙◌, codes}
use Rattle.hv_reading.specs.Canonical.{text, spaced, the_list, variable_members, atom_expression, formula_expression, network_fields}
use Rattle.hv_reading.proofs.PrintLemmas.{step, step_seen, end_seen, closed, grown}
use Rattle.hv_reading.proofs.print.declarations.put_method.Goals as goal

pub returns : goal.returns
returns c =
    grown c.args.out.now.items
    (closed _
    (step _ c.in_ok-extend_from_slice.ensures.items
    (step_seen (λ w. w.text) c.name.ensures c.in_ok-put_word.ensures
    (step_seen (λ vs. codes " :parameters " ++ text (the_list (variable_members vs))) c.parameters.ensures c.in_ok-put_parameters.ensures
    (step _ c.in_ok-extend_from_slice-2.ensures.items
    (step_seen (λ a. text (atom_expression a)) (c.lend.ensures ∙ c.task.ensures) c.in_ok-put_atom.ensures
    (step_seen (λ f. codes " :precondition " ++ text (formula_expression f)) c.precondition.ensures c.in_ok-put_precondition.ensures
    (end_seen (λ n. spaced (network_fields n)) c.network.ensures c.in_ok-put_network.ensures)))))))
    c.in_ok-push.ensures.items)
