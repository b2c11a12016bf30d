use Rattle.std.proofs.Common.{◌≡◌, length}
use Rattle.hv_order.proofs.walk.none_stands.Given as goal

abbrev pub invariant-loop : goal.invariant-loop
invariant-loop l = length l.stands.items ≡ l.counter
