use Rattle.hv_plan.specs.BuiltTrees.{tree_view}
use Rattle.hv_order.proofs.FirstWithout.{tells}
use Rattle.hv_order.proofs.first.has_candidate.Goals as goal

pub returns : goal.returns
returns c =
    tells c.args.matcher.now (tree_view c.args.tree.now) c.args.node c.in_ok-candidates.candidates _ c.in_ok-is_some.is_some
    c.in_ok-candidates.ensures.exact c.in_ok-is_some.ensures.same c.in_ok-is_some.ensures.ok
