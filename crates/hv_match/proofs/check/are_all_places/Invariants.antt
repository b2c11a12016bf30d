use Rattle.std.proofs.Common.{◌≡◌, length, take}
use Rattle.hv_match.specs.inside.Checks.{AreMarked}
use Rattle.hv_match.proofs.check.are_all_places.Given as goal

abbrev pub invariant-loop-place : goal.invariant-loop-place
invariant-loop-place l = (length l.marks ≡ l.count) × AreMarked l.marks (take l.place-index l.places)
