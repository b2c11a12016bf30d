use Rattle.std.proofs.Common.{◌≡◌}
use Rattle.hv_world.specs.declared.order.walk.Mark.TheVariants as marks
use Rattle.hv_world.specs.inside.OrderWalks.{lists_of, IsWalkOf, StaySeen, mark_at, steps_left}
use Rattle.hv_world.proofs.order.walk.go.Given as goal

abbrev pub invariant-loop-last : goal.invariant-loop-last
invariant-loop-last l = IsWalkOf (lists_of l.lists) l.walk × StaySeen l.fn.walk l.walk × (mark_at l.walk.marks.items l.root ≡ marks.Unseen → ⊥)

abbrev pub decreases-loop-last : goal.decreases-loop-last
decreases-loop-last l = steps_left l.walk
