use Rattle.std.proofs.Common.{◌∙◌}
use Rattle.hv_order.proofs.NamedLemmas.{is_place}
use Rattle.hv_order.proofs.named.place_of.Goals as goal

pub returns : goal.returns
returns c = is_place c.args.table.now.keys c.args.id c.in_ok-place.place c.requires (c.in_ok-place.ensures ∙ c.place_in.ensures)
