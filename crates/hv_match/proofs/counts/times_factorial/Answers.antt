use Rattle.std.proofs.Common.{◌*◌, ap, ◌∙◌, arith}
use Rattle.hv_match.specs.Counts.{factorial}
use Rattle.hv_match.specs.inside.Numbers.{in_64_bits}
use Rattle.hv_match.proofs.CountLemmas.{more_orders}
use Rattle.hv_match.proofs.counts.times_factorial.Goals as goal

pub loop-below-init : goal.loop-below-init
loop-below-init c = λ n e. e ∙ ap in_64_bits (omega arith)

pub loop-below-preserved : goal.loop-below-preserved
loop-below-preserved c = λ n e. c.times-product.ensures (n * factorial c.loop-below.below) (c.loop-below.invariant n e) ∙ ap in_64_bits (more_orders n c.loop-below.below)
