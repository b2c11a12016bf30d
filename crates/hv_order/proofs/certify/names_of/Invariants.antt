use Rattle.std.proofs.Common.{map, take}
use Rattle.std.specs.List.{AllZip}
use Rattle.hv_world.specs.Bindings.{object_number}
use Rattle.hv_world.specs.WorldViews.{world_view}
use Rattle.hv_order.specs.inside.Writings.{IsNameIn}
use Rattle.hv_order.proofs.certify.names_of.Given as goal

abbrev pub invariant-loop-object : goal.invariant-loop-object
invariant-loop-object l = AllZip (IsNameIn (world_view l.world)) (map object_number (take l.object-index l.objects)) l.names.items
