use Rattle.std.proofs.Common.{◌≡◌, ◌++◌, drop, map}
use Rattle.hv_reading.specs.Canonical.{spaced, typed_members}
use Rattle.hv_syntax.specs.Views.{typed_view}
use Rattle.hv_reading.proofs.print.terms.put_spaced_typed.Given as goal

abbrev pub invariant-loop-one : goal.invariant-loop-one
invariant-loop-one l = l.out.items ++ spaced (typed_members (map typed_view (drop l.one-index l.list))) ≡ l.initial.out.items ++ spaced (typed_members (map typed_view l.list))
