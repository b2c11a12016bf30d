use Rattle.std.proofs.Common.{arith}
use Rattle.hv_plan.specs.BuiltTrees.{tree_view}
use Rattle.hv_judge.proofs.LimitLemmas.{first_above, one_more, none_above}
use Rattle.hv_judge.proofs.limit.first_above.Goals as goal

pub loop-place-init : goal.loop-place-init
loop-place-init c = λ i v less at. absurd (omega (arith, less))

pub returns-in-Some : goal.returns-in-Some
returns-in-Some c =
    first_above c.args.matcher.now (tree_view c.args.tree.now) c.args.limit c.loop-place.place
    c.in-Some.line c.loop-place.invariant c.in-Some.ensures

pub loop-place-preserved : goal.loop-place-preserved
loop-place-preserved c =
    one_more c.args.matcher.now (tree_view c.args.tree.now) c.args.limit c.loop-place.place
    c.loop-place.invariant c.in_default.ensures

pub returns : goal.returns
returns c =
    none_above c.args.matcher.now (tree_view c.args.tree.now) c.args.limit c.loop-place.place
    c.requires (omega (arith, c.loop-place-test.false, c.node_count-place-end.ensures))
    c.loop-place.invariant
