use Rattle.std.proofs.Common.{rules, arith, ◌≡◌, ◌<◌, ◌∙◌, false, length, slice_index_or, sym}
use Rattle.hv_order.proofs.Forgetting.{none_forgotten, one_kept, one_forgotten, all_forgotten}
use Rattle.hv_order.proofs.memo.forget.Goals as goal
use Rattle.hv_order.proofs.memo.forget.Goals.{then-not-unwrap_or, else-not-unwrap_or}

pub loop-node-init : goal.loop-node-init
loop-node-init c = none_forgotten c.args.spans.now c.args.kept.now

pub loop-node-preserved : goal.loop-node-preserved
loop-node-preserved c =
    let n = c.loop-node.node in
    let is : c.unwrap_or.result ≡ slice_index_or c.args.kept.now n false = search rules in
    let within : n < length c.loop-node.spans = omega (arith, c.loop-node-test.true, c.loop-node.auto.spans) in
    let old = c.args.spans.now in
    let kept = c.args.kept.now in
    elim c.if-not-unwrap_or.branch [
      | then-not-unwrap_or w ↦ rw w.spans-is (one_forgotten n old kept c.loop-node.spans (record { first = 1; last = 0; finish = 0 }) within (omega arith) c.loop-node.invariant)
      | else-not-unwrap_or w ↦ rw w.spans-is (one_kept n old kept c.loop-node.spans (sym is ∙ w.if-not-unwrap_or.false) c.loop-node.invariant)
    ]

pub returns-clause-only : goal.returns-clause-only
returns-clause-only c =
    all_forgotten c.loop-node.node c.args.spans.now c.args.kept.now c.loop-node.spans (omega (arith, c.loop-node-test.false, c.loop-node.auto.spans)) c.loop-node.invariant
