use Rattle.std.proofs.Common.{◌≡◌, length, take}
use Rattle.hv_plan.specs.inside.Shaping.{IsMeeting}
use Rattle.hv_plan.proofs.shape.repeats.are_once.Given as goal

abbrev pub invariant-loop-place : goal.invariant-loop-place
invariant-loop-place l = (length l.is_met.items ≡ l.count) × IsMeeting (take l.place-index l.places) l.is_met.items
