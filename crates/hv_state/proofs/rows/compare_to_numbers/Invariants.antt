use Rattle.std.proofs.Common.{◌≡◌, drop}
use Rattle.std.specs.Ordering.{nat_cmp}
use Rattle.std.specs.Cmp.Lexicographic.{slice_cmp}
use Rattle.hv_state.proofs.rows.compare_to_numbers.Given as goal

-- what is left decides
abbrev pub invariant-loop-object : goal.invariant-loop-object
invariant-loop-object l =
    slice_cmp nat_cmp (drop l.object-index l.objects) l.left ≡ slice_cmp nat_cmp l.objects l.numbers
