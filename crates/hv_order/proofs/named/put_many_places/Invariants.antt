use Rattle.std.proofs.Common.{take}
use Rattle.hv_order.specs.inside.Checks.{ArePlacesIn}
use Rattle.hv_order.proofs.named.put_many_places.Given as goal

abbrev pub invariant-loop-id : goal.invariant-loop-id
invariant-loop-id l = ArePlacesIn l.own (take l.id-index l.ids) l.places.items
