use Rattle.std.proofs.Common.{sym, subst}
use Rattle.hv_world.specs.Orders.{AreDirect}
use Rattle.hv_world.specs.inside.OrderWalks.{lists_of, list_at}
use Rattle.hv_world.specs.inside.OrderViews.{written_of, AreLinks}
use Rattle.hv_world.proofs.OrderMeanings.{row_direct, listed_direct}
use Rattle.hv_world.proofs.order.Order.directly_before.Goals as goal

pub returns-in-AsWritten : goal.returns-in-AsWritten
returns-in-AsWritten c =
    let a = c.self.inside in
    let links = subst (AreLinks (written_of a) a.arrangement.items) c.in-AsWritten.is c.self.invariant.links in
    rw (← c.self.view_is, c.deref.ensures.value) (row_direct (written_of a) a.arrangement.items c.args.later links c.if-later-gt0.true c.if-later-self.true)

pub returns-in-Pairs : goal.returns-in-Pairs
returns-in-Pairs c =
    let a = c.self.inside in
    let links = subst (AreLinks (written_of a) a.arrangement.items) c.in-Pairs.is c.self.invariant.links in
    rw (← c.self.view_is, c.list_of.ensures) (subst (λ xs. AreDirect (written_of a) c.args.later (list_at (lists_of xs) c.args.later)) (sym c.deref-in-Pairs.ensures.value) (listed_direct (written_of a) (lists_of c.in-Pairs.direct.items) c.args.later links.0 links.1))
