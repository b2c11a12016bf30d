use Rattle.std.proofs.Common.{◌≡◌, ◌<◌}
use Rattle.hv_order.specs.inside.Nodes.{IsSettled, settled_by}
use Rattle.hv_order.specs.inside.Winners.{as_winner}
use Rattle.hv_order.proofs.Stacks.{small_run}
use Rattle.hv_order.proofs.solve.work.Goals as goal

pub returns-in-Over : goal.returns-in-Over
returns-in-Over g c =
    let q = g.N.Nodes.facts c.args.nodes.now in
    let v = c.args.task.node in
    let s = c.args.task.frame.start in
    let last : c.last.result ≡ q.last = c.last.ensures.last in
    let small : q.last < 4294967295 = rw last at c.last.ensures.small in
    let over : IsSettled q v s (settled_by (as_winner c.in-Over.best c.step.new.task.frame.winner) q.last) = rw c.in-Over.is at c.in_ok-node.ensures.over in
    let settled : IsSettled q v s c.close.result = rw (c.close.ensures, last) over in
    record { settled = settled; small = small_run q v s c.close.result.run small settled.run }
