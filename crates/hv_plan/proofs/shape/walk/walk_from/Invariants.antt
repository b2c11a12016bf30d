use Rattle.std.proofs.Common.{◌≡◌, ◌≤◌, ◌-◌, length}
use Rattle.hv_plan.specs.inside.Shaping.{kids, IsWalking}
use Rattle.hv_plan.proofs.shape.walk.walk_from.Given as goal

abbrev pub invariant-met : goal.invariant-met
invariant-met l =
    IsWalking l.root (kids l.lists l.actions) l.at l.walk.met.items l.walk.is_met.items
    × (length l.walk.is_met.items ≡ l.count)
    × (l.at ≤ length l.walk.met.items)
    × (length l.walk.met.items ≤ l.count)

abbrev pub decreases-met : goal.decreases-met
decreases-met l = l.count - l.at
