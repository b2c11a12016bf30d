use Rattle.std.proofs.Common.{◌≡◌, drop, map}
use Rattle.hv_world.specs.Views.{name_view, subtask_view}
use Rattle.hv_plan.specs.Fits.{names_of}
use Rattle.hv_plan.proofs.subtasks.are_named.Given as goal

-- what is left decides
abbrev pub invariant-loop-name : goal.invariant-loop-name
invariant-loop-name l =
    map name_view (drop l.name-index l.names) ≡ names_of (map subtask_view l.left)
    → map name_view l.names ≡ names_of (map subtask_view l.subtasks)
