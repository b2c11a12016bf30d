use Rattle.std.proofs.Common.{◌≡◌, ◌+◌, drop}
use Rattle.std.specs.List.{prefix_len}
use Rattle.hv_certificate.specs.inside.Words.{is_name_byte}
use Rattle.hv_certificate.proofs.words.name_end.Given as goal

-- the end of the word does not change
abbrev pub invariant-loop-i : goal.invariant-loop-i
invariant-loop-i l = l.i + prefix_len is_name_byte (drop l.i l.text) ≡ prefix_len is_name_byte l.text
