use Rattle.std.proofs.Common.{◌≡◌, drop}
use Rattle.hv_reading.specs.Fields.{is_in}
use Rattle.hv_reading.proofs.field.is_in.Given as goal

abbrev pub invariant-loop-other : goal.invariant-loop-other
invariant-loop-other l = is_in (drop l.other-index l.slots) l.slot ≡ is_in l.slots l.slot
