use Rattle.std.proofs.Common.{◌<◌, length, arith}
use Rattle.std.proofs.lemmas.List.{length-map}
use Rattle.hv_world.specs.inside.OrderWalks.{lists_of}
use Rattle.hv_world.proofs.OrderWalk.{opened_walk}
use Rattle.hv_world.proofs.order.walk.open.Goals as goal

pub returns-clause-walk : goal.returns-clause-walk
returns-clause-walk c =
    let w = c.args.walk.now in
    let xss = lists_of c.args.lists.now in
    let within : c.args.subtask < length xss = omega (arith, c.requires.within, length-map c.args.lists.now (λ v. v.items)) in
    rw c.in_ok-push.ensures.items (opened_walk xss w.marks.items w.left.items w.trail.items w.row.items c.args.subtask within c.requires.walk c.requires.unseen c.requires.next)
