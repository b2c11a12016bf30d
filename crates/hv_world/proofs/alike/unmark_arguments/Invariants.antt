use Rattle.std.proofs.Common.{◌≡◌, ℕ, ◌&&◌, not, map, take, length}
use Rattle.hv_world.specs.Alike.{is_argument}
use Rattle.hv_world.specs.inside.Kept.{is_marked}
use Rattle.hv_world.specs.Views.{subtask_view}
use Rattle.hv_world.proofs.alike.unmark_arguments.Given as goal

abbrev pub invariant-loop-subtask : goal.invariant-loop-subtask
invariant-loop-subtask l =
    (length l.marks ≡ length l.initial.marks)
    × ((k : ℕ) → is_marked l.marks k ≡ is_marked l.initial.marks k && not (is_argument k (map subtask_view (take l.subtask-index l.subtasks))))
