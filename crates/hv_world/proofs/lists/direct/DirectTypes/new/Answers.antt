use Rattle.hv_world.proofs.TypeLemmas.{seconds_in_order}
use Rattle.hv_world.proofs.lists.direct.DirectTypes.new.Goals as goal

pub returns-then-are_in_order : goal.returns-then-are_in_order
returns-then-are_in_order c = seconds_in_order c.args.declared.now (c.are_in_order.ensures c.if-are_in_order.true)
