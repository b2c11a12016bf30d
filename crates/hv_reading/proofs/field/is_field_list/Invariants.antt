use Rattle.std.proofs.Common.{◌≡◌, length}
use Rattle.hv_text.specs.Trees.{trees}
use Rattle.hv_reading.specs.Fields.{is_field_list}
use Rattle.hv_reading.proofs.field.is_field_list.Given as goal

abbrev pub invariant-fields : goal.invariant-fields
invariant-fields l = is_field_list l.slots (trees l.rest) ≡ is_field_list l.slots (trees l.es)

abbrev pub decreases-fields : goal.decreases-fields
decreases-fields l = length l.rest
