use Rattle.std.proofs.Common.{◌≡◌, drop}
use Rattle.std.specs.Str.Parse.{AllDigits, digits_value_after, digits_value}
use Rattle.hv_certificate.specs.Forms.{IsId}
use Rattle.hv_certificate.proofs.number.value_of.Given as goal

-- the bytes so far are digits, and with the value so far those that are left have the value of all
abbrev pub invariant-loop-byte : goal.invariant-loop-byte
invariant-loop-byte l =
    (AllDigits 10 (drop l.byte-index l.bytes) → AllDigits 10 l.bytes)
    × (digits_value_after 10 l.value (drop l.byte-index l.bytes) ≡ digits_value 10 l.bytes)
    × IsId l.value
