use Rattle.std.proofs.Common.{◌≡◌, drop}
use Rattle.std.specs.Ordering.{nat_cmp}
use Rattle.std.specs.Cmp.Lexicographic.{slice_cmp}
use Rattle.hv_state.proofs.rows.compare_rows.Given as goal

-- what is left decides
abbrev pub invariant-loop-number : goal.invariant-loop-number
invariant-loop-number l =
    slice_cmp nat_cmp (drop l.number-index l.row) l.left ≡ slice_cmp nat_cmp l.row l.other
