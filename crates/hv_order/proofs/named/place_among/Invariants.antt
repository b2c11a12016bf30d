use Rattle.std.proofs.Common.{◌≡◌, ◌<◌, ℕ, slice_get, Some}
use Rattle.hv_order.proofs.named.place_among.Given as goal

abbrev pub invariant-loop-place : goal.invariant-loop-place
invariant-loop-place l = (x : ℕ) → x < l.place → slice_get l.own x ≡ Some l.id → ⊥
