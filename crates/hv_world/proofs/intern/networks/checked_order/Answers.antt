use Rattle.std.proofs.Common.{◌≡◌, true, false, sym, subst, ◌∙◌}
use Rattle.std.specs.Prelude.{MatchOption}
use Rattle.hv_syntax.specs.NetworkViews.{network_view as said_network}
use Rattle.hv_world.specs.Cycles.{is_cyclic}
use Rattle.hv_world.specs.Networks.{written_by}
use Rattle.hv_world.specs.StaticRules.{label_faults}
use Rattle.hv_world.proofs.CheckLemmas.{order_sound, order_unsound, none_of}
use Rattle.hv_world.proofs.WithinLemmas.{sound_within, nothing_known}
use Rattle.hv_world.proofs.intern.networks.checked_order.Goals as goal

pub returns-in-Some-clause-fault : goal.returns-in-Some-clause-fault
returns-in-Some-clause-fault c k =
    order_unsound k c.args.side c.args.span (said_network c.args.network.now) c.in-Some.fault (sym (c.in_ok-pairs.ensures.fault k) ∙ c.in-Some.is)

pub order_of-requires-clause-within : goal.order_of-requires-clause-within
order_of-requires-clause-within c =
    let network = said_network c.args.network.now in
    sound_within nothing_known c.args.side network (none_of (label_faults nothing_known c.args.side network) (sym (c.in_ok-pairs.ensures.fault nothing_known) ∙ c.in_default.is))

pub returns-in-Some-2-clause-fault : goal.returns-in-Some-2-clause-fault
returns-in-Some-2-clause-fault c k =
    let network = said_network c.args.network.now in
    let written = written_by network in
    let sound = none_of (label_faults k c.args.side network) (sym (c.in_ok-pairs.ensures.fault k) ∙ c.in_default.is) in
    let order = subst (λ o. MatchOption o (is_cyclic written ≡ true) (λ x. (x ≡ written) × (is_cyclic written ≡ false))) c.in-Some-2.is c.in_ok-order.ensures in
    order_sound k c.args.side c.args.span network false sound (sym order.1)

pub returns-in-None-clause-fault : goal.returns-in-None-clause-fault
returns-in-None-clause-fault c k =
    let network = said_network c.args.network.now in
    let written = written_by network in
    let sound = none_of (label_faults k c.args.side network) (sym (c.in_ok-pairs.ensures.fault k) ∙ c.in_default.is) in
    let cyclic = subst (λ o. MatchOption o (is_cyclic written ≡ true) (λ x. (x ≡ written) × (is_cyclic written ≡ false))) c.in-None.is c.in_ok-order.ensures in
    order_sound k c.args.side c.args.span network true sound (sym cyclic)
