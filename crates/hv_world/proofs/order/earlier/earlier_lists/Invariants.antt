use Rattle.std.proofs.Common.{◌≡◌, length, drop}
use Rattle.hv_world.specs.inside.OrderWalks.{lists_of}
use Rattle.hv_world.proofs.OrderLists.{HasRest}
use Rattle.hv_world.proofs.order.earlier.earlier_lists.Given as goal

abbrev pub invariant-loop-earlier : goal.invariant-loop-earlier
invariant-loop-earlier l = (length (lists_of l.lists.items) ≡ l.len) × HasRest l.pairs (lists_of l.lists.items) (drop l.earlier-index l.pairs)
