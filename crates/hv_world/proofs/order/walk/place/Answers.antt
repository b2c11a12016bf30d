use Rattle.std.proofs.Common.{◌<◌, length, vec_len, subst, arith}
use Rattle.std.proofs.lemmas.List.{length-map}
use Rattle.hv_world.specs.inside.OrderWalks.{lists_of, IsWalk}
use Rattle.hv_world.proofs.OrderWalk.{placed_walk, popped, last_open, fewer_changes}
use Rattle.hv_world.proofs.order.walk.place.Goals as goal

pub returns-clause-walk : goal.returns-clause-walk
returns-clause-walk c =
    let w = c.args.walk.now in
    let xss = lists_of c.args.lists.now in
    let within : c.args.last < length xss = omega (arith, c.requires.within, length-map c.args.lists.now (λ v. v.items)) in
    let trail = popped w.trail.items c.pop.new.self.items c.pop.result c.args.last (vec_len w.trail) (omega (arith, w.trail.ok)) (c.pop.ensures.value 0 (omega (arith, c.requires.last.0, w.trail.ok))) c.requires.last.1 c.pop.ensures.items in
    rw c.in_ok-push.ensures.items (placed_walk xss w.marks.items w.left.items c.pop.new.self.items w.row.items c.args.last within (subst (λ t. IsWalk xss w.marks.items w.left.items t w.row.items) trail c.requires.walk) c.requires.left)

pub returns-clause-steps : goal.returns-clause-steps
returns-clause-steps c =
    let w = c.args.walk.now in
    let xss = lists_of c.args.lists.now in
    let waits = last_open xss w.marks.items w.left.items w.trail.items w.row.items c.args.last c.requires.walk c.requires.last in
    omega (arith, fewer_changes w.marks.items c.args.last (omega (arith, c.requires.within, c.requires.walk.marks_count, length-map c.args.lists.now (λ v. v.items))) waits)
