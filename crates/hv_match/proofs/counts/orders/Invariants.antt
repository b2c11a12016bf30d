use Rattle.std.proofs.Common.{◌≡◌, map, take}
use Rattle.hv_match.specs.Counts.{factorial, product}
use Rattle.hv_match.specs.inside.Numbers.{in_64_bits}
use Rattle.hv_match.proofs.counts.orders.Given as goal

abbrev pub invariant-loop-size : goal.invariant-loop-size
invariant-loop-size l = l.product ≡ in_64_bits (product (map factorial (take l.size-index l.sizes)))
