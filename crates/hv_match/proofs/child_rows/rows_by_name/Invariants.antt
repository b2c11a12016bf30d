use Rattle.std.proofs.Common.{◌≡◌, map, take}
use Rattle.hv_world.specs.Views.{subtask_view}
use Rattle.hv_match.specs.inside.Tables.{places_named}
use Rattle.hv_match.proofs.child_rows.rows_by_name.Given as goal

abbrev pub invariant-loop-subtask : goal.invariant-loop-subtask
invariant-loop-subtask l = l.rows ≡ map (λ s. places_named s.name l.children) (map subtask_view (take l.subtask-index l.subtasks))
