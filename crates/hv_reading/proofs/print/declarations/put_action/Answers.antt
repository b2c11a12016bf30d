use Rattle.std.proofs.Common.{◌++◌, codes}
use Rattle.hv_reading.specs.Canonical.{text, the_list, variable_members, formula_expression, effect_expression}
use Rattle.hv_reading.proofs.PrintLemmas.{step, step_seen, end_seen, padded, closed, grown}
use Rattle.hv_reading.proofs.print.declarations.put_action.Goals as goal

pub returns : goal.returns
returns c =
    grown c.args.out.now.items
    (closed _
    (step _ c.in_ok-extend_from_slice.ensures.items
    (step_seen (λ w. w.text) c.name.ensures c.in_ok-put_word.ensures
    (step_seen (λ vs. codes " :parameters " ++ text (the_list (variable_members vs))) c.parameters.ensures c.in_ok-put_parameters.ensures
    (step_seen (λ f. codes " :precondition " ++ text (formula_expression f)) c.precondition.ensures c.in_ok-put_precondition.ensures
    (step _ c.in_ok-extend_from_slice-2.ensures.items
    (padded (end_seen (λ e. text (effect_expression e)) c.effect.ensures c.in_ok-put_effect.ensures)))))))
    c.in_ok-push.ensures.items)
