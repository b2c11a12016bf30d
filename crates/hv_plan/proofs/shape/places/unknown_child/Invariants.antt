use Rattle.std.proofs.Common.{◌≤◌, length}
use Rattle.hv_plan.specs.inside.Shaping.{IsFirst, IsMissed}
use Rattle.hv_plan.specs.inside.Tables.{is_within}
use Rattle.hv_plan.proofs.shape.places.unknown_child.Given as goal

abbrev pub invariant-loop-k : goal.invariant-loop-k
invariant-loop-k l = (l.k ≤ length l.places) × IsFirst (IsMissed (is_within l.count l.places) l.lines l.k) l.unknown
