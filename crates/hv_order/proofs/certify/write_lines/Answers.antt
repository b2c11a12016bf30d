use Rattle.hv_world.specs.WorldViews.{world_view}
use Rattle.hv_plan.specs.BuiltTrees.{tree_view}
use Rattle.hv_order.specs.inside.Writings.{SaysChosenLine}
use Rattle.hv_order.proofs.TreeLines.{line_has_id}
use Rattle.hv_order.proofs.Writing.{one_line_more}
use Rattle.hv_order.proofs.certify.write_lines.Goals as goal

pub write_line-requires-clause-id : goal.write_line-requires-clause-id
write_line-requires-clause-id c =
    line_has_id (world_view c.args.world.now) (tree_view c.args.tree.now) c.requires.tree c.loop-place.place c.number_at.result
    c.loop-place.auto.place c.number_at.ensures

pub loop-place-preserved : goal.loop-place-preserved
loop-place-preserved c =
    rw c.in_ok-push.ensures.items
    (one_line_more (SaysChosenLine (world_view c.args.world.now) (tree_view c.args.tree.now) c.args.chosen.now)
    (tree_view c.args.tree.now).order c.loop-place.place c.number_at.result c.loop-place.lines.items c.in_ok-line.line
    c.loop-place.auto.place c.number_at.ensures c.loop-place.invariant c.in_ok-line.ensures)
