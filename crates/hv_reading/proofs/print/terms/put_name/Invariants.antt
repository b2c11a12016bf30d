use Rattle.std.proofs.Common.{◌≡◌, ◌++◌, take}
use Rattle.hv_text.specs.Bytes.{lower}
use Rattle.hv_reading.proofs.print.terms.put_name.Given as goal

abbrev pub invariant-loop-b : goal.invariant-loop-b
invariant-loop-b l = l.out.items ≡ l.initial.out.items ++ lower (take l.b-index l.b-items)
