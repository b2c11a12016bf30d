use Rattle.hv_order.proofs.Forgetting.{KeepsUpto}
use Rattle.hv_order.proofs.memo.forget.Given as goal

-- the intervals of the first nodes are kept where they are to be
abbrev pub invariant-loop-node : goal.invariant-loop-node
invariant-loop-node l = KeepsUpto l.node l.initial.spans l.kept l.spans
