use Rattle.std.proofs.Common.{◌≡◌, ◌++◌, drop}
use Rattle.hv_certificate.specs.Texts.{ids_text}
use Rattle.hv_certificate.proofs.print.put_ids.Given as goal

abbrev pub invariant-loop-id : goal.invariant-loop-id
invariant-loop-id l = l.out.items ++ ids_text (drop l.id-index l.ids) ≡ l.initial.out.items ++ ids_text l.ids
