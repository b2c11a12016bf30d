use Rattle.std.proofs.Common.{refl, slice_index}
use Rattle.hv_lists.proofs.Places.{contained_at}
use Rattle.hv_plan.proofs.shape.numbers.put_items.Goals as goal

pub item-requires : goal.item-requires
item-requires c =
    let places = c.args.places.now in
    let i = c.loop-place.place-index in
    c.requires (slice_index places i) (contained_at places i (slice_index places i) c.loop-place-test.true refl)
