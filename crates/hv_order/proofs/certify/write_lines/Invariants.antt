use Rattle.std.proofs.Common.{take, drop}
use Rattle.std.specs.List.{AllZip}
use Rattle.hv_plan.specs.BuiltTrees.{tree_view}
use Rattle.hv_world.specs.WorldViews.{world_view}
use Rattle.hv_order.specs.inside.Writings.{SaysChosenLine}
use Rattle.hv_order.proofs.certify.write_lines.Given as goal

abbrev pub invariant-loop-place : goal.invariant-loop-place
invariant-loop-place l =
    AllZip (SaysChosenLine (world_view l.world) (tree_view l.tree) l.chosen) (drop 1 (take l.place (tree_view l.tree).order)) l.lines.items
