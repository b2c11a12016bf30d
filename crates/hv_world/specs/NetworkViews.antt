-- What the networks of the code say.
use Rattle.std.specs.Prelude.{map}
use Rattle.hv_world.specs.declared.network.Network as code
use Rattle.hv_world.specs.Views.{subtask_view, constraint_view}
use Rattle.hv_world.specs.Worlds.{Network, network}

abbrev pub network_view : code.Network → Network
network_view n =
    network (map subtask_view n.subtasks.items) n.order (map constraint_view n.constraints.items)
