use Rattle.std.proofs.Common.{◌≡◌, drop, map}
use Rattle.hv_world.specs.Views.{subtask_view}
use Rattle.hv_plan.specs.Fits.{names_of}
use Rattle.hv_plan.specs.Forms.{every, behind}
use Rattle.hv_plan.specs.inside.Tallies.{number_in}
use Rattle.hv_plan.proofs.subtasks.names.put_numbers_of_subtasks.Given as goal

-- the numbers so far and those of the subtasks that are left are those of all subtasks
abbrev pub invariant-loop-subtask : goal.invariant-loop-subtask
invariant-loop-subtask l =
    behind l.numbers.items (every (number_in l.sizes.tasks l.sizes.actions) (names_of (map subtask_view (drop l.subtask-index l.subtasks))))
    ≡ every (number_in l.sizes.tasks l.sizes.actions) (names_of (map subtask_view l.subtasks))
