use Rattle.std.proofs.Common.{◌≡◌, length}
use Rattle.hv_order.specs.inside.Listers.{still_listed}
use Rattle.hv_order.proofs.listing.ListerCandidates.next.Given as goal

abbrev pub invariant-loop-self : goal.invariant-loop-self
invariant-loop-self l = still_listed l.self ≡ still_listed l.fn.self

abbrev pub decreases-loop-self : goal.decreases-loop-self
decreases-loop-self l = length l.self.coming.coming
