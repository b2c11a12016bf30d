use Rattle.std.proofs.Common.{◌<◌, ℕ, slice_index}
use Rattle.hv_plan.proofs.shape.places.are_below.Given as goal

abbrev pub invariant-loop-place : goal.invariant-loop-place
invariant-loop-place l = (k : ℕ) → k < l.place-index → slice_index l.places k < l.count
