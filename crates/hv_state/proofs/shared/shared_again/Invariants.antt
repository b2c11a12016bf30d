use Rattle.std.proofs.Common.{◌≡◌, ◌++◌, drop}
use Rattle.hv_state.specs.inside.Rows.{rows_shared}
use Rattle.hv_state.proofs.shared.shared_again.Given as goal

-- the rows so far, and what is left
abbrev pub invariant-loop-shared : goal.invariant-loop-shared
invariant-loop-shared l = rows_shared l.again.items ++ rows_shared (drop l.shared-index l.rows) ≡ rows_shared l.rows
