use Rattle.std.proofs.Common.{◌≡◌, ◌++◌, drop}
use Rattle.hv_state.specs.inside.Rows.{rows_in}
use Rattle.hv_state.proofs.rows.push_copies.Given as goal

-- the rows so far, and what is left
abbrev pub invariant-loop-row : goal.invariant-loop-row
invariant-loop-row l = rows_in l.rows.items ++ rows_in (drop l.row-index l.more) ≡ rows_in l.fn.rows.items ++ rows_in l.more
