use Rattle.std.proofs.Common.{◌<◌, arith, below_more}
use Rattle.hv_world.specs.WorldViews.{world_view}
use Rattle.hv_plan.specs.BuiltTrees.{tree_view}
use Rattle.hv_order.specs.inside.Checks.{HasLineAt}
use Rattle.hv_order.proofs.EntryLemmas.{one_too_many, all_lines}
use Rattle.hv_order.proofs.entries.other_line.Goals as goal

pub loop-place-preserved : goal.loop-place-preserved
loop-place-preserved c = λ k low lt.
    below_more (λ k. 0 < k → HasLineAt (tree_view c.args.tree.now) c.args.certificate.now k) c.loop-place.place
    (λ i less low. c.loop-place.invariant i low less) (λ low. c.has_line.ensures.yes c.if-not-has_line.false) k lt low

pub returns-then-len-count : goal.returns-then-len-count
returns-then-len-count c =
    all_lines (world_view c.args.world.now) (tree_view c.args.tree.now) c.requires c.args.certificate.now c.node_count-count.result c.node_count-count.ensures
    (omega (arith, c.if-len-count.true, c.len.ensures)) (λ k low lt. c.loop-place.invariant k low (omega (arith, lt, c.loop-place-test.false)))

pub returns-else-len-count : goal.returns-else-len-count
returns-else-len-count c =
    one_too_many (world_view c.args.world.now) (tree_view c.args.tree.now) c.requires c.args.certificate.now c.node_count-count.result c.node_count-count.ensures
    (omega (arith, c.if-len-count.false, c.len.ensures))
