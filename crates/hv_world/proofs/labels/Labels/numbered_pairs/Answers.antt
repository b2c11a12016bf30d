use Rattle.std.proofs.Common.{arith}
use Rattle.hv_syntax.specs.NetworkViews.{network_view, pair_view}
use Rattle.hv_world.specs.Networks.{label_names, numbered_pair}
use Rattle.hv_world.specs.StaticRules.{pair_faults}
use Rattle.hv_world.proofs.FaultLemmas.{faults_next, faults_end}
use Rattle.hv_world.proofs.InternLemmas.{map_more}
use Rattle.hv_world.proofs.labels.Labels.numbered_pairs.Goals as goal

pub loop-pair-preserved : goal.loop-pair-preserved
loop-pair-preserved c =
    let l = c.loop-pair in
    let xs = (network_view c.args.network.now).subtasks in
    let items = c.pairs-pair-items.result.now in
    let pair = c.pair-item.result in (
      rw c.in_ok-push.ensures.value
          (map_more (numbered_pair xs) pair_view items l.pair-index pair l.pairs.value.items _ _ (omega arith) c.pair-item.is (c.checked_pair.ensures.value xs c.requires.numbers) l.invariant.0),
      λ k.
          faults_next pair_view (pair_faults k c.args.side (label_names xs)) items l.pair-index pair l.pairs.fault c.checked_pair.result.fault c.push.new.self.fault _
          (omega arith) c.pair-item.is (c.checked_pair.ensures.fault k (label_names xs) c.requires.places) c.in_ok-push.ensures.fault (l.invariant.1 k),
    )

pub returns-clause-fault : goal.returns-clause-fault
returns-clause-fault c k =
    let l = c.loop-pair in
    let xs = (network_view c.args.network.now).subtasks in
    faults_end pair_view (pair_faults k c.args.side (label_names xs)) c.pairs-pair-items.result.now l.pair-index l.pairs.fault _ c.loop-pair-test.false (l.invariant.1 k)
