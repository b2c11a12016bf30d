use Rattle.std.proofs.Common.{◌≡◌, ◌≢◌, None, length, refl, ap, sym, subst, ◌∙◌}
use Rattle.std.specs.Prelude.{MatchOption}
use Rattle.hv_syntax.specs.NetworkViews.{network_view as said_network}
use Rattle.hv_syntax.specs.ProblemViews.{htn_view as said_htn}
use Rattle.hv_world.specs.declared.fault.Side.TheVariants as sides
use Rattle.hv_world.specs.Faults.{least}
use Rattle.hv_world.specs.Known.{variables}
use Rattle.hv_world.specs.Names.{place_in}
use Rattle.hv_world.specs.NetworkViews.{network_view}
use Rattle.hv_world.specs.Scopes.{outer}
use Rattle.hv_world.specs.StaticRules.{variable_faults, network_faults}
use Rattle.hv_world.specs.Worlds.{types_of, network_in}
use Rattle.hv_world.specs.inside.Tables.{known_by, places_by}
use Rattle.hv_world.proofs.CheckLemmas.{scope_is}
use Rattle.hv_world.proofs.InternLemmas.{method_is, of_both}
use Rattle.hv_world.proofs.SectionLemmas.{of_htn}
use Rattle.hv_world.proofs.intern.sections.checked_top.Goals as goal

pub returns-in_default-clause-fault : goal.returns-in_default-clause-fault
returns-in_default-clause-fault c =
    let k = known_by c.args.tables.now in
    let s = sides.Problem in
    let htn = said_htn c.args.htn.now in
    let list = c.parameters-list in
    let bound = scope_is list.result.now htn.parameters c.args.tables.now.parameters list.ensures (c.requires ∙ ap (λ vs. place_in (variables vs)) (sym list.ensures)) in
    let scope = outer (length list.result.now) (places_by c.args.tables.now.parameters) in
    c.new.ensures.fault
    ∙ of_htn k s htn scope bound _ _ _ (c.in_ok-own.ensures.fault ∙ ap (λ vs. least (variable_faults k s vs)) list.ensures)
    (c.in_ok-network.ensures.fault ∙ (λ i. least (network_faults k s scope (c.span.ensures i) (c.network.ensures i)))) c.earlier-fault.ensures

pub returns-clause-fault : goal.returns-clause-fault
returns-clause-fault c =
    let k = known_by c.args.tables.now in
    let s = sides.Problem in
    let htn = said_htn c.args.htn.now in
    let list = c.parameters-list in
    let bound = scope_is list.result.now htn.parameters c.args.tables.now.parameters list.ensures (c.requires ∙ ap (λ vs. place_in (variables vs)) (sym list.ensures)) in
    let scope = outer (length list.result.now) (places_by c.args.tables.now.parameters) in
    c.new-3.ensures.fault
    ∙ of_htn k s htn scope bound _ _ _ (c.in_ok-own.ensures.fault ∙ ap (λ vs. least (variable_faults k s vs)) list.ensures)
    (c.in_ok-network.ensures.fault ∙ (λ i. least (network_faults k s scope (c.span.ensures i) (c.network.ensures i)))) c.earlier-fault.ensures

pub returns-clause-value : goal.returns-clause-value
returns-clause-value c =
    let k = known_by c.args.tables.now in
    let htn = said_htn c.args.htn.now in
    let list = c.parameters-list in
    let bound = scope_is list.result.now htn.parameters c.args.tables.now.parameters list.ensures (c.requires ∙ ap (λ vs. place_in (variables vs)) (sym list.ensures)) in
    let scope = outer (length list.result.now) (places_by c.args.tables.now.parameters) in
    let network =
    subst (λ o. MatchOption o (c.in_ok-network.network.fault ≢ None) (λ n. network_view n ≡ network_in k scope (said_network c.network.result.now))) c.in-Some.is
    c.in_ok-network.ensures.value in
    rw c.new-3.ensures.value
    (c.in_ok-top.ensures
    ∙ method_is refl (c.in_ok-own.ensures.value ∙ ap (types_of k) list.ensures) refl c.always.ensures (network ∙ of_both (network_in k) bound c.network.ensures))
