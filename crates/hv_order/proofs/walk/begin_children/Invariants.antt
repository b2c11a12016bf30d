use Rattle.hv_order.proofs.BeginChildren.{AreSetTo}
use Rattle.hv_order.proofs.walk.begin_children.Given as goal

abbrev pub invariant-loop-subtask : goal.invariant-loop-subtask
invariant-loop-subtask l = AreSetTo l.initial.starts l.children l.begins l.subtask l.starts
