use Rattle.std.proofs.Common.{◌≡◌, ◌++◌, drop, map}
use Rattle.std.specs.List.{flat_map}
use Rattle.hv_syntax.specs.NetworkViews.{network_view, pair_view}
use Rattle.hv_world.specs.Faults.{earlier, least}
use Rattle.hv_world.specs.Known.{Known}
use Rattle.hv_world.specs.Networks.{label_names, numbered_pair}
use Rattle.hv_world.specs.StaticRules.{pair_faults}
use Rattle.hv_world.proofs.labels.Labels.numbered_pairs.Given as goal

abbrev pub invariant-loop-pair : goal.invariant-loop-pair
invariant-loop-pair l =
    let network = network_view l.network in
    let rest = map pair_view (drop l.pair-index l.pair-items) in
    (l.pairs.value.items ++ map (numbered_pair network.subtasks) rest ≡ map (numbered_pair network.subtasks) network.pairs)
    × ((k : Known) → earlier l.pairs.fault (least (flat_map (pair_faults k l.side (label_names network.subtasks)) rest))
    ≡ least (flat_map (pair_faults k l.side (label_names network.subtasks)) network.pairs))
