use Rattle.std.proofs.Common.{◌≡◌, length, subst, arith}
use Rattle.std.proofs.lemmas.List.{length-map}
use Rattle.hv_world.specs.Orders.{Leads, IsRow}
use Rattle.hv_world.specs.inside.OrderWalks.{lists_of, IsListed, IsWalk}
use Rattle.hv_world.proofs.OrderWalk.{ended_walk}
use Rattle.hv_world.proofs.order.walk.row_of.Goals as goal

pub returns : goal.returns
returns c =
    let w = c.loop-root.walk in
    let xss = lists_of c.args.lists.now in
    let n : length xss ≡ length c.args.lists.now = length-map c.args.lists.now (λ v. v.items) in
    let ended = subst (λ t. IsWalk xss w.marks.items w.left.items t w.row.items) c.loop-root.invariant.1 c.loop-root.invariant.0 in
    subst (λ m. IsRow (Leads (IsListed xss)) m w.row.items) n (ended_walk xss w.marks.items w.left.items w.row.items ended (λ j k. c.loop-root.invariant.2 j (omega (arith, k, n))))
