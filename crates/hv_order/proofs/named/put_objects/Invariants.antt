use Rattle.std.proofs.Common.{map, take}
use Rattle.std.specs.List.{AllZip}
use Rattle.hv_world.specs.Bindings.{object_number}
use Rattle.hv_world.specs.WorldViews.{world_view}
use Rattle.hv_order.specs.inside.Writings.{IsNameIn}
use Rattle.hv_order.proofs.named.put_objects.Given as goal

abbrev pub invariant-loop-name : goal.invariant-loop-name
invariant-loop-name l =
    AllZip (IsNameIn (world_view l.world)) (map object_number l.objects.items) (take l.name-index l.names)
