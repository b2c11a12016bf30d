use Rattle.std.proofs.Common.{◌≡◌, ◌≤◌, ◌++◌, length, drop, map}
use Rattle.hv_world.specs.Known.{by_place}
use Rattle.hv_world.specs.inside.Tables.{declaration_view}
use Rattle.hv_world.proofs.tables.sections.by_place.Given as goal

abbrev pub invariant-loop-task : goal.invariant-loop-task
invariant-loop-task l =
    (l.done ≤ length l.actions)
    × (map declaration_view l.merged.items ++ by_place (map declaration_view (drop l.task-index l.tasks)) (map declaration_view (drop l.done l.actions))
    ≡ by_place (map declaration_view l.tasks) (map declaration_view l.actions))
