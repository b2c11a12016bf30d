use Rattle.std.proofs.Common.{ap, ◌∙◌}
use Rattle.hv_syntax.specs.NetworkViews.{network_view as said_network}
use Rattle.hv_world.specs.Faults.{least}
use Rattle.hv_world.specs.StaticRules.{subtasks_faults, constraints_faults}
use Rattle.hv_world.specs.inside.Tables.{known_by, scope_view}
use Rattle.hv_world.proofs.SectionLemmas.{of_network}
use Rattle.hv_world.proofs.intern.networks.checked_network.Goals as goal

pub returns-in_ok-network-in-Some-clause-fault : goal.returns-in_ok-network-in-Some-clause-fault
returns-in_ok-network-in-Some-clause-fault c =
    let a = c.args in
    let k = known_by a.tables.now in
    let scope = scope_view a.scope.now in
    of_network k a.side (said_network a.network.now) scope a.span _ _ _ _ _ (c.in_ok-subtasks.ensures.fault ∙ ap (λ xs. least (subtasks_faults k a.side scope xs)) c.subtasks.ensures)
    (c.in_ok-constraints.ensures.fault ∙ ap (λ xs. least (constraints_faults k a.side scope xs)) c.constraints.ensures) (c.in_ok-order.ensures.fault k) c.earlier-parts.ensures c.earlier-fault.ensures

pub returns-in-None-clause-fault : goal.returns-in-None-clause-fault
returns-in-None-clause-fault c =
    let a = c.args in
    let k = known_by a.tables.now in
    let scope = scope_view a.scope.now in
    of_network k a.side (said_network a.network.now) scope a.span _ _ _ _ _ (c.in_ok-subtasks.ensures.fault ∙ ap (λ xs. least (subtasks_faults k a.side scope xs)) c.subtasks.ensures)
    (c.in_ok-constraints.ensures.fault ∙ ap (λ xs. least (constraints_faults k a.side scope xs)) c.constraints.ensures) (c.in_ok-order.ensures.fault k) c.earlier-parts.ensures c.earlier-fault.ensures
