use Rattle.std.proofs.Common.{◌≡◌, length}
use Rattle.hv_text.specs.Trees.{trees}
use Rattle.hv_reading.specs.Fields.{field}
use Rattle.hv_reading.proofs.field.field.Given as goal

abbrev pub invariant-fields : goal.invariant-fields
invariant-fields l = field l.slot (trees l.rest) ≡ field l.slot (trees l.es)

abbrev pub decreases-fields : goal.decreases-fields
decreases-fields l = length l.rest
