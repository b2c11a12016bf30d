use Rattle.std.proofs.Common.{length}
use Rattle.hv_syntax.specs.NetworkViews.{network_view}
use Rattle.hv_world.specs.Networks.{written_by}
use Rattle.hv_world.specs.Orders.{written}
use Rattle.hv_world.proofs.WithinLemmas.{order_is, written_is}
use Rattle.hv_world.proofs.intern.networks.order_of.Goals as goal

pub returns : goal.returns
returns c =
    let network = network_view c.args.network.now in
    let subtasks = c.subtasks.result.now in
    let pairs = c.args.pairs.items in
    order_is (written (length subtasks) c.is_ordered.result pairs) (written_by network) c.in_ok-order.order
    (written_is subtasks c.is_ordered.result pairs network c.subtasks.ensures c.is_ordered.ensures c.requires.pairs) c.requires.within c.in_ok-order.ensures
