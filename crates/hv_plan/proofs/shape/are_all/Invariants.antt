use Rattle.std.proofs.Common.{◌≡◌, ◌<◌, ℕ, true}
use Rattle.hv_plan.specs.inside.Shaping.{is_marked}
use Rattle.hv_plan.proofs.shape.are_all.Given as goal

abbrev pub invariant-loop-mark : goal.invariant-loop-mark
invariant-loop-mark l = (k : ℕ) → k < l.mark-index → is_marked l.marks k ≡ true
