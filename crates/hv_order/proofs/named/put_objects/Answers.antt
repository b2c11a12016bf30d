use Rattle.hv_world.specs.WorldViews.{world_view}
use Rattle.hv_order.proofs.NamedLemmas.{no_object, one_named}
use Rattle.hv_order.proofs.named.put_objects.Goals as goal

pub returns-in-None : goal.returns-in-None
returns-in-None c =
    no_object (world_view c.args.world.now) c.is_sound.ensures c.args.names.now c.loop-name.name-index c.name-item.result c.object_named.result c.loop-name-test.true c.name-item.is
    c.object_named.ensures c.in-None.is

pub loop-name-preserved : goal.loop-name-preserved
loop-name-preserved c =
    rw c.in_ok-push-in-Some.ensures.items
    (one_named (world_view c.args.world.now) c.args.names.now c.loop-name.name-index c.name-item.result c.loop-name.objects.items c.object_named.result c.in-Some.object c.loop-name-test.true c.name-item.is
    c.object_named.ensures c.in-Some.is c.loop-name.invariant)
