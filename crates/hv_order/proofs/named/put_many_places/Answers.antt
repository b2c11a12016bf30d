use Rattle.hv_order.proofs.NamedLemmas.{place_more}
use Rattle.hv_order.proofs.named.put_many_places.Goals as goal

pub loop-id-preserved : goal.loop-id-preserved
loop-id-preserved c =
    rw c.in_ok-push.ensures.items
    (place_more c.args.own.now c.in_ok-table.table.keys c.args.ids.now c.loop-id.places.items c.loop-id.id-index 0 c.in_ok-place_of.field-0 c.loop-id-test.true
    c.in_ok-table.ensures c.loop-id.invariant c.in_ok-place_of.ensures)
