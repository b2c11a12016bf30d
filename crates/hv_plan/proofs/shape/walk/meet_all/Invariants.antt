use Rattle.std.proofs.Common.{◌≡◌, length, take}
use Rattle.hv_plan.specs.inside.Shaping.{IsMeeting, Grows}
use Rattle.hv_plan.proofs.shape.walk.meet_all.Given as goal

abbrev pub invariant-loop-place : goal.invariant-loop-place
invariant-loop-place l =
    IsMeeting l.walk.met.items l.walk.is_met.items
    × (length l.walk.is_met.items ≡ length l.fn.walk.is_met.items)
    × Grows l.fn.walk.met.items (take l.place-index l.places) l.walk.met.items
