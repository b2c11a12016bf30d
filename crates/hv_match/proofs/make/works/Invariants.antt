use Rattle.std.proofs.Common.{◌≡◌, map, take, option_map}
use Rattle.hv_plan.specs.TreeViews.{child_view}
use Rattle.hv_plan.specs.BuiltTrees.{tree_view}
use Rattle.hv_match.specs.Candidates.{child_task}
use Rattle.hv_match.specs.inside.Tables.{work_view}
use Rattle.hv_match.specs.inside.Ranges.{as_subtask}
use Rattle.hv_match.proofs.make.works.Given as goal

abbrev pub invariant-loop-child : goal.invariant-loop-child
invariant-loop-child l = map (option_map as_subtask) (map (option_map work_view) l.works.items) ≡ map (child_task (tree_view l.tree)) (map child_view (take l.child-index l.children))
