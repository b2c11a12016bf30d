use Rattle.std.proofs.Common.{◌≡◌, ◌<◌, ℕ, get_or}
use Rattle.hv_state.proofs.guesses.room_in.Given as goal

-- there is none so far
abbrev pub invariant-loop-place : goal.invariant-loop-place
invariant-loop-place l = (j d : ℕ) → j < l.place → get_or l.numbers j d ≡ 0 → ⊥
