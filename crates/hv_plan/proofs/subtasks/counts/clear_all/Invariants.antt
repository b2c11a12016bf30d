use Rattle.std.proofs.Common.{◌≡◌, ◌≤◌, ℕ, length, get_or, take}
use Rattle.std.specs.Prelude.{All}
use Rattle.hv_plan.specs.inside.Tallies.{times}
use Rattle.hv_plan.proofs.subtasks.counts.clear_all.Given as goal

-- the numbers so far are counted no more, the others as before
abbrev pub invariant-loop-number : goal.invariant-loop-number
invariant-loop-number l =
    (length l.counts ≡ length l.fn.counts)
    × All (λ n. get_or l.counts n 0 ≡ 0) (take l.number-index l.numbers)
    × ((n : ℕ) → get_or l.counts n 0 ≤ get_or l.fn.counts n 0)
    × ((n : ℕ) → times n (take l.number-index l.numbers) ≡ 0 → get_or l.counts n 0 ≡ get_or l.fn.counts n 0)
