use Rattle.hv_plan.specs.BuiltTrees.{tree_view}
use Rattle.hv_order.proofs.FirstLemmas.{AreFirstsUpto}
use Rattle.hv_order.proofs.firsts.firsts_of.Given as goal

abbrev pub invariant-loop-number : goal.invariant-loop-number
invariant-loop-number l = AreFirstsUpto (tree_view l.tree) l.firsts.items l.number
