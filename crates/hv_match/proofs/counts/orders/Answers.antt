use Rattle.std.proofs.Common.{ap, ◌∙◌, map, take}
use Rattle.hv_match.specs.Counts.{factorial, product}
use Rattle.hv_match.specs.inside.Numbers.{in_64_bits}
use Rattle.hv_match.proofs.CountLemmas.{orders_more}
use Rattle.hv_match.proofs.counts.orders.Goals as goal

pub loop-size-preserved : goal.loop-size-preserved
loop-size-preserved c =
    let i = c.loop-size.size-index in
    let sizes = c.args.sizes.now in
    c.times_factorial-product.ensures (product (map factorial (take i sizes))) c.loop-size.invariant ∙ ap in_64_bits (orders_more sizes i c.loop-size-test.true)
