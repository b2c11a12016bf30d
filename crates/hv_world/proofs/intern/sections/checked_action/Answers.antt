use Rattle.std.proofs.Common.{length, ap, ◌∙◌}
use Rattle.hv_syntax.specs.DeclarationViews.{action_view as said_action}
use Rattle.hv_world.specs.declared.fault.Side.TheVariants as sides
use Rattle.hv_world.specs.Faults.{least}
use Rattle.hv_world.specs.Scopes.{outer}
use Rattle.hv_world.specs.StaticRules.{variable_faults, formula_faults, effect_faults}
use Rattle.hv_world.specs.inside.Tables.{known_by, places_by}
use Rattle.hv_world.proofs.CheckLemmas.{scope_is}
use Rattle.hv_world.proofs.SectionLemmas.{of_action}
use Rattle.hv_world.proofs.intern.sections.checked_action.Goals as goal

pub returns-clause-fault : goal.returns-clause-fault
returns-clause-fault c =
    let k = known_by c.args.tables.now in
    let s = sides.Domain in
    let action = said_action c.args.action.now in
    let list = c.parameters-list in
    let bound = scope_is list.result.now action.parameters c.in_ok-names.names list.ensures c.in_ok-names.ensures.places in
    let scope = outer (length list.result.now) (places_by c.in_ok-names.names) in
    let effect = c.items.ensures ∙ c.effect.ensures in
    c.new.ensures.fault
    ∙ of_action k s action scope bound _ _ _ _ _ (c.in_ok-own.ensures.fault ∙ ap (λ vs. least (variable_faults k s vs)) list.ensures)
    (c.in_ok-precondition.ensures.fault ∙ ap (λ f. least (formula_faults k s scope f)) c.precondition.ensures)
    (c.in_ok-effect.ensures.fault ∙ ap (λ e. least (effect_faults k s scope e)) effect) c.earlier-head.ensures c.earlier-fault.ensures
