use Rattle.std.proofs.Common.{◌≡◌, ℕ, length, get_or, map, take}
use Rattle.hv_world.specs.WorldViews.{world_view}
use Rattle.hv_plan.specs.inside.ChildFaults.{ChildFaultIn}
use Rattle.hv_plan.specs.inside.LineFaults.{IsEarliest}
use Rattle.hv_plan.specs.LineViews.{plan_view}
use Rattle.hv_plan.specs.Shapes.{line_parent}
use Rattle.hv_plan.proofs.build.Methods.lines_cause.Given as goal

-- the cause that is reported of the lines so far
abbrev pub invariant-loop-place : goal.invariant-loop-place
invariant-loop-place l =
    (length l.tally.counts.items ≡ length l.fn.tally.counts.items)
    × ((n : ℕ) → get_or l.tally.counts.items n 0 ≡ 0)
    × IsEarliest (ChildFaultIn (world_view l.self.world.now) (plan_view l.plan) (map line_parent (take l.place (plan_view l.plan).decompositions))) l.cause
