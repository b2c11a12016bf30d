use Rattle.std.proofs.Common.{◌≡◌, get_or, take}
use Rattle.std.specs.Prelude.{All}
use Rattle.hv_plan.proofs.subtasks.counts.are_spent.Given as goal

-- the numbers so far are counted no more
abbrev pub invariant-loop-number : goal.invariant-loop-number
invariant-loop-number l = All (λ n. get_or l.counts n 0 ≡ 0) (take l.number-index l.numbers)
