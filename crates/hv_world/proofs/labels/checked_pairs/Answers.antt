use Rattle.std.proofs.Common.{map, ap, sym, ◌∙◌}
use Rattle.std.specs.List.{flat_map}
use Rattle.hv_syntax.specs.Views.{word_view}
use Rattle.hv_syntax.specs.NetworkViews.{network_view}
use Rattle.hv_world.specs.declared.fault.StaticKind.TheVariants as kinds
use Rattle.hv_world.specs.Names.{names, place_in, repeated}
use Rattle.hv_world.specs.Networks.{labels, label_names}
use Rattle.hv_world.specs.Faults.{faults_at, least}
use Rattle.hv_world.specs.StaticRules.{pair_faults}
use Rattle.hv_world.proofs.FaultLemmas.{least-both}
use Rattle.hv_world.proofs.labels.checked_pairs.Goals as goal

pub repeated_word-repeated-requires : goal.repeated_word-repeated-requires
repeated_word-repeated-requires c =
    c.in_ok-labels.ensures.places ∙ ap (λ ws. place_in (names ws)) (sym (ap (map word_view) c.deref.ensures.value ∙ c.in_ok-labels.ensures.words))

pub returns-clause-fault : goal.returns-clause-fault
returns-clause-fault c k =
    let side = c.args.side in
    let network = network_view c.args.network.now in
    c.earlier.ensures
    ∙ least-both (faults_at kinds.DuplicateLabel side (repeated (labels network.subtasks))) (flat_map (pair_faults k side (label_names network.subtasks)) network.pairs) _ _
    (c.repeated_word-repeated.ensures ∙ ap (λ ws. least (faults_at kinds.DuplicateLabel side (repeated ws))) (ap (map word_view) c.deref.ensures.value ∙ c.in_ok-labels.ensures.words))
    (c.in_ok-pairs.ensures.fault k)
