use Rattle.std.proofs.Common.{◌≡◌, ◌<◌, ℕ, []}
use Rattle.hv_world.specs.declared.order.walk.Mark.TheVariants as marks
use Rattle.hv_world.specs.inside.OrderWalks.{lists_of, IsWalkOf, mark_at}
use Rattle.hv_world.proofs.order.walk.row_of.Given as goal

abbrev pub invariant-loop-root : goal.invariant-loop-root
invariant-loop-root l = IsWalkOf (lists_of l.lists) l.walk × (l.walk.trail.items ≡ []) × ((j : ℕ) → j < l.root → mark_at l.walk.marks.items j ≡ marks.Unseen → ⊥)
