use Rattle.std.proofs.Common.{◌<◌, ◌+◌, length, drop, get_or, ◌∙◌, subst, arith, length-set}
use Rattle.std.proofs.lemmas.List.{at_drop_more, at_drop_all, length-map}
use Rattle.hv_world.specs.inside.OrderWalks.{lists_of}
use Rattle.hv_world.proofs.OrderLists.{HasRest, one_pair_more, all_listed, pushed_lists}
use Rattle.hv_world.proofs.order.earlier.earlier_lists.Goals as goal

pub loop-earlier-preserved : goal.loop-earlier-preserved
loop-earlier-preserved c =
    let pairs = c.args.pairs.now in
    let vs = c.loop-earlier.lists.items in
    let at = c.loop-earlier.earlier-index in
    let p = get_or pairs at (0, 0) in
    let w : p.1 < c.args.len = (c.requires at (0, 0) (omega arith)).1 in
    let v : p.1 < length (lists_of vs) = omega (arith, w, c.loop-earlier.invariant.0) in
    let e = pushed_lists vs c.index_mut.result.now c.push.new.self p.1 p.0 (omega (arith, v, length-map vs (λ v. v.items))) c.index_mut.ensures.value c.in_ok-push.ensures.items in
    let rest = subst (HasRest pairs (lists_of vs)) (at_drop_more (λ r. r) pairs at (0, 0) (omega arith)) c.loop-earlier.invariant.1 in
    rw e (length-set (lists_of vs) p.1 _ ∙ c.loop-earlier.invariant.0, one_pair_more pairs (lists_of vs) p.0 p.1 (drop (at + 1) pairs) v rest)

pub returns : goal.returns
returns c =
    let rest = subst (HasRest c.args.pairs.now (lists_of c.loop-earlier.lists.items)) (at_drop_all (λ r. r) c.args.pairs.now c.loop-earlier.earlier-index (omega arith)) c.loop-earlier.invariant.1 in
    all_listed c.args.len c.args.pairs.now (lists_of c.loop-earlier.lists.items) c.loop-earlier.invariant.0 rest
