use Rattle.std.proofs.Common.{◌≡◌, ◌*◌, ℕ}
use Rattle.hv_match.specs.Counts.{factorial}
use Rattle.hv_match.specs.inside.Numbers.{in_64_bits}
use Rattle.hv_match.proofs.counts.times_factorial.Given as goal

abbrev pub invariant-loop-below : goal.invariant-loop-below
invariant-loop-below l = (n : ℕ) → l.fn.number ≡ in_64_bits n → l.product ≡ in_64_bits (n * factorial l.below)
