use Rattle.std.proofs.Common.{◌≡◌, length}
use Rattle.hv_text.specs.Trees.{trees}
use Rattle.hv_reading.specs.Unsupported.{after_effect}
use Rattle.hv_reading.proofs.unsupported.after_effect.Given as goal

abbrev pub invariant-members : goal.invariant-members
invariant-members l = after_effect (trees l.rest) ≡ after_effect (trees l.es)

abbrev pub decreases-members : goal.decreases-members
decreases-members l = length l.rest
