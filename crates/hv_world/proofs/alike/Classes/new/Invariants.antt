use Rattle.std.proofs.Common.{◌≡◌, Some, map, take}
use Rattle.hv_world.specs.Alike.{key, classes, number_in}
use Rattle.hv_world.specs.inside.Kept.{counts_in}
use Rattle.hv_world.specs.Views.{subtask_view}
use Rattle.hv_world.proofs.alike.Classes.new.Given as goal

abbrev pub invariant-loop-subtask : goal.invariant-loop-subtask
invariant-loop-subtask l =
    (counts_in l.counts ≡ classes (map (key (map subtask_view l.subtasks)) (map subtask_view (take l.subtask-index l.subtasks))))
    × (map (λ s. number_in (key (map subtask_view l.subtasks) s) (counts_in l.counts)) (map subtask_view (take l.subtask-index l.subtasks)) ≡ map Some l.numbers.items)
