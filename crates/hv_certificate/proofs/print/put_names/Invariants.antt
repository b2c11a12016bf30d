use Rattle.std.proofs.Common.{◌≡◌, ◌++◌, drop}
use Rattle.hv_certificate.specs.Texts.{names_text}
use Rattle.hv_certificate.proofs.print.put_names.Given as goal

abbrev pub invariant-loop-name : goal.invariant-loop-name
invariant-loop-name l = l.out.items ++ names_text (drop l.name-index l.names) ≡ l.initial.out.items ++ names_text l.names
