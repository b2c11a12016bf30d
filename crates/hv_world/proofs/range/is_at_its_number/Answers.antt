use Rattle.hv_world.proofs.RangeLemmas.{at_place}
use Rattle.hv_world.proofs.range.is_at_its_number.Goals as goal

pub returns-in-Some : goal.returns-in-Some
returns-in-Some c =
    let item = c.in-Some.ensures.lookup in
    λ same. at_place c.args.objects.now c.args.object c.args.object c.in-Some.there.now item.3.0 item.1 same
