use Rattle.std.proofs.Common.{◌≡◌, ◌≢◌, Some, None, length, ap, subst, ◌∙◌}
use Rattle.std.specs.Prelude.{MatchOption}
use Rattle.hv_syntax.specs.DeclarationViews.{method_view as said_method}
use Rattle.hv_syntax.specs.NetworkViews.{network_view as said_network}
use Rattle.hv_world.specs.declared.fault.Side.TheVariants as sides
use Rattle.hv_world.specs.Faults.{least}
use Rattle.hv_world.specs.NetworkViews.{network_view}
use Rattle.hv_world.specs.Scopes.{outer}
use Rattle.hv_world.specs.StaticRules.{variable_faults, task_faults, formula_faults, network_faults}
use Rattle.hv_world.specs.Worlds.{types_of, task_in, formula_in, network_in}
use Rattle.hv_world.specs.inside.Tables.{known_by, places_by}
use Rattle.hv_world.proofs.CheckLemmas.{scope_is}
use Rattle.hv_world.proofs.InternLemmas.{method_is, of_both}
use Rattle.hv_world.proofs.SectionLemmas.{of_method}
use Rattle.hv_world.proofs.intern.sections.checked_method.Goals as goal

pub returns-in_default-clause-fault : goal.returns-in_default-clause-fault
returns-in_default-clause-fault c =
    let k = known_by c.args.tables.now in
    let s = sides.Domain in
    let method = said_method c.args.method.now in
    let list = c.parameters-list in
    let bound = scope_is list.result.now method.parameters c.in_ok-names.names list.ensures c.in_ok-names.ensures.places in
    let scope = outer (length list.result.now) (places_by c.in_ok-names.names) in
    c.new.ensures.fault
    ∙ of_method k s method scope bound _ _ _ _ _ _ _ (c.in_ok-own.ensures.fault ∙ ap (λ vs. least (variable_faults k s vs)) list.ensures)
    (c.in_ok-task.ensures.fault ∙ ap (λ t. least (task_faults k s scope t)) c.task.ensures)
    (c.in_ok-precondition.ensures.fault ∙ ap (λ f. least (formula_faults k s scope f)) c.precondition.ensures)
    (c.in_ok-network.ensures.fault ∙ (λ i. least (network_faults k s scope (c.span-span.ensures i) (c.network.ensures i)))) c.earlier-head.ensures c.earlier-front.ensures c.earlier-fault.ensures

pub returns-clause-fault : goal.returns-clause-fault
returns-clause-fault c =
    let k = known_by c.args.tables.now in
    let s = sides.Domain in
    let method = said_method c.args.method.now in
    let list = c.parameters-list in
    let bound = scope_is list.result.now method.parameters c.in_ok-names.names list.ensures c.in_ok-names.ensures.places in
    let scope = outer (length list.result.now) (places_by c.in_ok-names.names) in
    c.new-3.ensures.fault
    ∙ of_method k s method scope bound _ _ _ _ _ _ _ (c.in_ok-own.ensures.fault ∙ ap (λ vs. least (variable_faults k s vs)) list.ensures)
    (c.in_ok-task.ensures.fault ∙ ap (λ t. least (task_faults k s scope t)) c.task.ensures)
    (c.in_ok-precondition.ensures.fault ∙ ap (λ f. least (formula_faults k s scope f)) c.precondition.ensures)
    (c.in_ok-network.ensures.fault ∙ (λ i. least (network_faults k s scope (c.span-span.ensures i) (c.network.ensures i)))) c.earlier-head.ensures c.earlier-front.ensures c.earlier-fault.ensures

pub returns-clause-value : goal.returns-clause-value
returns-clause-value c =
    let k = known_by c.args.tables.now in
    let method = said_method c.args.method.now in
    let list = c.parameters-list in
    let bound = scope_is list.result.now method.parameters c.in_ok-names.names list.ensures c.in_ok-names.ensures.places in
    let scope = outer (length list.result.now) (places_by c.in_ok-names.names) in
    let network =
    subst (λ o. MatchOption o (c.in_ok-network.network.fault ≢ None) (λ n. network_view n ≡ network_in k scope (said_network c.network.result.now))) c.in-Some.is
    c.in_ok-network.ensures.value in
    rw c.new-3.ensures.value
    (c.in_ok-method.ensures
    ∙ method_is (ap Some (c.name-2.ensures ∙ ap (λ w. w.text) c.name.ensures)) (c.in_ok-own.ensures.value ∙ ap (types_of k) list.ensures)
    (ap Some (c.in_ok-task.ensures.value ∙ of_both (task_in k) bound c.task.ensures)) (c.in_ok-precondition.ensures.value ∙ of_both (formula_in k) bound c.precondition.ensures)
    (network ∙ of_both (network_in k) bound c.network.ensures))
