use Rattle.std.proofs.Common.{◌↔◌, drop, map}
use Rattle.hv_world.specs.Views.{type_number}
use Rattle.hv_world.specs.Bindings.{object_number}
use Rattle.hv_world.specs.Groundings.{AreOf}
use Rattle.hv_world.specs.WorldViews.{world_view}
use Rattle.hv_world.proofs.world.World.are_of.Given as goal

-- what is left decides
abbrev pub invariant-loop-object : goal.invariant-loop-object
invariant-loop-object l =
    AreOf (world_view l.self).typing (map object_number (drop l.object-index l.objects)) (map type_number l.left)
    ↔ AreOf (world_view l.self).typing (map object_number l.objects) (map type_number l.types)
