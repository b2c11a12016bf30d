use Rattle.hv_world.specs.Bindings.{object_number}
use Rattle.hv_world.specs.WorldViews.{world_view}
use Rattle.hv_order.specs.inside.Writings.{IsNameIn, IsObjectOf}
use Rattle.hv_order.proofs.Writing.{all_at, zip_more, no_name, name_at}
use Rattle.hv_order.proofs.certify.names_of.Goals as goal

pub unreachable-requires : goal.unreachable-requires
unreachable-requires c =
    no_name (world_view c.args.world.now).objects c.object_name.result _ c.object_name.ensures c.in-None.is
    (all_at object_number (IsObjectOf (world_view c.args.world.now)) c.args.objects.now c.loop-object.object-index (record { 0 = 0 })
    c.loop-object-test.true c.requires)

pub loop-object-preserved : goal.loop-object-preserved
loop-object-preserved c =
    rw c.in_ok-push-in-Some.ensures.items
    (zip_more object_number (IsNameIn (world_view c.args.world.now)) c.args.objects.now c.loop-object.object-index (record { 0 = 0 })
    c.loop-object.names.items c.in-Some.name c.loop-object-test.true c.loop-object.invariant
    (name_at (world_view c.args.world.now).objects c.object_name.result _ c.in-Some.name c.object_name.ensures c.in-Some.is))
