use Rattle.std.proofs.Common.{◌≡◌, true, false, arith}
use Rattle.hv_plan.specs.BuiltTrees.{tree_view}
use Rattle.hv_order.proofs.FirstWithout.{first_is, all_have}
use Rattle.hv_order.proofs.first.first_without.Goals as goal

pub returns-then-not-branch : goal.returns-then-not-branch
returns-then-not-branch c =
    first_is c.args.matcher.now (tree_view c.args.tree.now) c.loop-place.place c.number_at-node.result c.line_of.result
    c.number_at-node.ensures c.loop-place.invariant
    (λ has.
    let yes : c.in_ok-is_bound.field-0 ≡ true = c.in_ok-is_bound.ensures.1 has in
    let no : c.in_ok-is_bound.field-0 ≡ false = c.if-not-branch.true in
    cc)
    c.line_of.ensures

pub returns : goal.returns
returns c =
    all_have c.args.matcher.now (tree_view c.args.tree.now) c.requires.tree c.loop-place.place
    (omega (arith, c.node_count-place-end.ensures, c.loop-place-test.false)) c.loop-place.invariant
