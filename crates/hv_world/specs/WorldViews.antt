-- What the world of the code says.
use Rattle.hv_world.specs.declared.world.World as code
use Rattle.hv_world.specs.WorldParts.{world_from}
use Rattle.hv_world.specs.Worlds.{World}

abbrev pub world_view : code.World → World
world_view w =
    world_from w.types.keys w.objects.keys w.typing w.predicates.items w.tasks.items
    w.methods.items w.actions.items w.init w.goal w.top
