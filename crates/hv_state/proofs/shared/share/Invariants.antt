use Rattle.std.proofs.Common.{◌≡◌, ◌++◌, drop}
use Rattle.hv_state.specs.inside.Rows.{rows_in, rows_shared}
use Rattle.hv_state.proofs.shared.share.Given as goal

-- the rows so far, and what is left
abbrev pub invariant-loop-row : goal.invariant-loop-row
invariant-loop-row l = rows_shared l.shared.items ++ rows_in (drop l.row-index l.rows) ≡ rows_in l.rows
