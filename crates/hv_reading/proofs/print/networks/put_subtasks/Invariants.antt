use Rattle.std.proofs.Common.{◌≡◌, ◌++◌, drop, map}
use Rattle.hv_reading.specs.Canonical.{spaced, each}
use Rattle.hv_reading.specs.Canonical.{subtask_expression}
use Rattle.hv_syntax.specs.NetworkViews.{subtask_view}
use Rattle.hv_reading.proofs.print.networks.put_subtasks.Given as goal

abbrev pub invariant-loop-subtask : goal.invariant-loop-subtask
invariant-loop-subtask l = l.out.items ++ spaced (each subtask_expression (map subtask_view (drop l.subtask-index l.subtasks))) ≡ l.initial.out.items ++ spaced (each subtask_expression (map subtask_view l.subtasks))
