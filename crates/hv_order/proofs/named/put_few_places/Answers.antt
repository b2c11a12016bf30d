use Rattle.std.proofs.Common.{get_or, refl, sym, subst}
use Rattle.hv_order.specs.inside.Checks.{IsPlaceIn}
use Rattle.hv_order.proofs.NamedLemmas.{place_more}
use Rattle.hv_order.proofs.named.put_few_places.Goals as goal

pub loop-id-preserved : goal.loop-id-preserved
loop-id-preserved c =
    rw c.in_ok-push.ensures.items
    (place_more c.args.own.now c.args.own.now c.args.ids.now c.loop-id.places.items c.loop-id.id-index 0 c.in_ok-narrow.field-0 c.loop-id-test.true refl c.loop-id.invariant
    (subst (λ p. IsPlaceIn c.args.own.now (get_or c.args.ids.now c.loop-id.id-index 0) p) (sym c.in_ok-narrow.ensures) c.place_among.ensures))
