use Rattle.hv_world.specs.inside.OrderViews.{written_of}
use Rattle.hv_world.proofs.CycleLemmas.{before_is_decided}
use Rattle.hv_world.proofs.order.Order.is_decided.Goals as goal

pub returns : goal.returns
returns c = rw (← c.self.view_is) (before_is_decided (written_of c.self.inside) c.self.invariant.pairs)
