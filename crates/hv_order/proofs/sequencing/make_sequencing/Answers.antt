use Rattle.hv_world.specs.Orders.{Before}
use Rattle.hv_order.proofs.Orders.{row_length}
use Rattle.hv_order.proofs.sequencing.make_sequencing.Goals as goal

pub directs-requires : goal.directs-requires
directs-requires c =
    let n = c.args.order.now in
    row_length (Before n) n.len c.arrangement-arrangement.result.now c.arrangement-arrangement.ensures.row
