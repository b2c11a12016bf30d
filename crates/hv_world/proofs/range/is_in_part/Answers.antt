use Rattle.std.proofs.Common.{arith}
use Rattle.hv_lists.proofs.Places.{slice_get_here}
use Rattle.hv_world.proofs.RangeLemmas.{in_part}
use Rattle.hv_world.proofs.range.is_in_part.Goals as goal

pub returns-in-Some-get : goal.returns-in-Some-get
returns-in-Some-get c =
    let place = c.in-Some.ensures.lookup in
    let item = c.in-Some-get.ensures.lookup in
    in_part c.args.objects.now c.args.part c.args.object c.in-Some.place.now c.in-Some-checked_sub.index c.in-Some-get.other.now c.requires
    (slice_get_here c.args.part.places.now c.args.object c.in-Some.place.now place.3.0 place.1) (omega (arith, c.in-Some-checked_sub.ensures)) item.3.0 item.1
