use Rattle.std.proofs.Common.{◌≡◌, ◌++◌, drop, map}
use Rattle.hv_syntax.specs.NetworkViews.{subtask_view}
use Rattle.hv_world.specs.inside.LabelViews.{holders}
use Rattle.hv_world.proofs.labels.holders.Given as goal

abbrev pub invariant-loop-number : goal.invariant-loop-number
invariant-loop-number l = l.numbers.items ++ holders l.number (map subtask_view (drop l.number l.subtasks)) ≡ holders 0 (map subtask_view l.subtasks)
