use Rattle.std.proofs.Common.{◌≤◌, length}
use Rattle.hv_plan.specs.inside.Shaping.{IsFirst, IsMissed, is_marked}
use Rattle.hv_plan.proofs.shape.first_unmet.Given as goal

abbrev pub invariant-loop-place : goal.invariant-loop-place
invariant-loop-place l = (l.place ≤ length l.is_met) × IsFirst (IsMissed (is_marked l.is_met) l.lines l.place) l.found
