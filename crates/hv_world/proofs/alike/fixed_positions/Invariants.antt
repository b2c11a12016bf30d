use Rattle.std.proofs.Common.{map, take}
use Rattle.hv_world.specs.inside.Kept.{RowsSay}
use Rattle.hv_world.specs.Views.{subtask_view}
use Rattle.hv_world.proofs.alike.fixed_positions.Given as goal

abbrev pub invariant-loop-subtask : goal.invariant-loop-subtask
invariant-loop-subtask l = RowsSay (map subtask_view (take l.subtask-index l.subtasks)) l.rows
