use Rattle.hv_world.proofs.TypeLemmas.{end_has}
use Rattle.hv_world.proofs.lists.is_at_end.Goals as goal

pub returns-in-Some : goal.returns-in-Some
returns-in-Some c =
    let item = c.in-Some.ensures.item in
    rw (c.eq.ensures) (end_has c.args.object.0 c.args.objects.now c.requires c.in-Some.last.now item.3.0 item.3.1)
