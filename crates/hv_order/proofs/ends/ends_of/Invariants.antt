use Rattle.hv_plan.specs.BuiltTrees.{tree_view}
use Rattle.hv_order.proofs.EndLemmas.{AreFirstEnds}
use Rattle.hv_order.proofs.ends.ends_of.Given as goal

abbrev pub invariant-loop-number : goal.invariant-loop-number
invariant-loop-number l = AreFirstEnds (tree_view l.tree) l.ends.items l.number
