use Rattle.hv_order.specs.inside.Memos.{IsEmptyList}
use Rattle.hv_order.proofs.memo.none_won.Given as goal

abbrev pub invariant-loop : goal.invariant-loop
invariant-loop l = IsEmptyList l.counter l.won.items
