use Rattle.std.proofs.Common.{◌≡◌, map, take}
use Rattle.hv_match.proofs.child_rows.in_one.Given as goal

abbrev pub invariant-loop-row : goal.invariant-loop-row
invariant-loop-row l = l.lists ≡ map (λ v. v.items) (take l.row-index l.rows)
