use Rattle.hv_order.proofs.Forgetting.{TellsUpto}
use Rattle.hv_order.proofs.memo.Memo.finishing.Given as goal

-- so of the nodes so far
abbrev pub invariant-loop-span : goal.invariant-loop-span
invariant-loop-span l = TellsUpto l.self l.finishing.items l.span-index
