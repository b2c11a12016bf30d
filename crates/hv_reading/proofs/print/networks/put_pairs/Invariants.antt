use Rattle.std.proofs.Common.{◌≡◌, ◌++◌, drop, map}
use Rattle.hv_reading.specs.Canonical.{spaced, each}
use Rattle.hv_reading.specs.Canonical.{pair_expression}
use Rattle.hv_syntax.specs.NetworkViews.{pair_view}
use Rattle.hv_reading.proofs.print.networks.put_pairs.Given as goal

abbrev pub invariant-loop-pair : goal.invariant-loop-pair
invariant-loop-pair l = l.out.items ++ spaced (each pair_expression (map pair_view (drop l.pair-index l.pairs))) ≡ l.initial.out.items ++ spaced (each pair_expression (map pair_view l.pairs))
