use Rattle.std.proofs.Common.{ℕ, map, take}
use Rattle.std.specs.List.{AllZip}
use Rattle.hv_world.specs.Views.{subtask_view}
use Rattle.hv_world.specs.declared.formula.Subtask as code_subtask
use Rattle.hv_plan.specs.BuiltTrees.{tree_view}
use Rattle.hv_plan.specs.TreeViews.{child_view}
use Rattle.hv_match.specs.Candidates.{Does, child_task}
use Rattle.hv_match.proofs.check.all_do.Given as goal

abbrev pub invariant-loop-number : goal.invariant-loop-number
invariant-loop-number l =
    AllZip (λ (x : ℕ) (s : code_subtask.Subtask). Does (map (child_task (tree_view l.tree)) (map child_view l.children)) l.values x (subtask_view s)) (take l.number l.places) (take l.number l.subtasks)
