use Rattle.std.proofs.Common.{◌≡◌, drop, map}
use Rattle.hv_world.specs.Views.{name_view}
use Rattle.hv_plan.specs.Forms.{every, behind}
use Rattle.hv_plan.specs.inside.Tallies.{number_in}
use Rattle.hv_plan.proofs.subtasks.names.put_numbers.Given as goal

-- the numbers so far and those of the names that are left are those of all names
abbrev pub invariant-loop-name : goal.invariant-loop-name
invariant-loop-name l =
    behind l.numbers.items (every (number_in l.sizes.tasks l.sizes.actions) (map name_view (drop l.name-index l.names)))
    ≡ every (number_in l.sizes.tasks l.sizes.actions) (map name_view l.names)
