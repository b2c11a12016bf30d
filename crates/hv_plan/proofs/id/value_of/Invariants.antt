use Rattle.std.proofs.Common.{◌≡◌, drop, true}
use Rattle.std.specs.List.{list_all}
use Rattle.std.specs.Char.{is_ascii_digit}
use Rattle.hv_plan.specs.Forms.{value_from, is_id}
use Rattle.hv_plan.proofs.id.value_of.Given as goal

-- the number so far and the digits that are left give the number of all
abbrev pub invariant-loop-digit : goal.invariant-loop-digit
invariant-loop-digit l =
    (value_from l.value (drop l.digit-index l.digits) ≡ value_from 0 l.digits)
    × (list_all is_ascii_digit (drop l.digit-index l.digits) ≡ list_all is_ascii_digit l.digits)
    × (is_id l.value ≡ true)
