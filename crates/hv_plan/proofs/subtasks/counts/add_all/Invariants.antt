use Rattle.std.proofs.Common.{◌≡◌, ℕ, length, get_or, take}
use Rattle.hv_plan.specs.inside.Tallies.{times}
use Rattle.hv_plan.proofs.subtasks.counts.add_all.Given as goal

-- the numbers so far are counted
abbrev pub invariant-loop-number : goal.invariant-loop-number
invariant-loop-number l = (length l.counts ≡ length l.fn.counts) × ((n : ℕ) → get_or l.counts n 0 ≡ times n (take l.number-index l.numbers))
