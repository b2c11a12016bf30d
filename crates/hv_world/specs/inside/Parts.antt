-- The parts that a world is put together from.
use Rattle.hv_world.specs.declared.build.Parts.{Parts}
use Rattle.hv_world.specs.declared.tables.Tables.{Tables}
use Rattle.hv_world.specs.WorldParts.{world_from}
use Rattle.hv_world.specs.Worlds.{World}

-- the world of these parts
abbrev pub world_of_parts : Tables → Parts → World
world_of_parts tables parts =
    world_from tables.types.names.keys tables.objects.keys parts.kinds.typing
    parts.kinds.predicates.items parts.tasks.items parts.methods.items
    parts.actions.items parts.start.init parts.start.goal parts.start.top
