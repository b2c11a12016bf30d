use Rattle.std.proofs.Common.{drop}
use Rattle.hv_state.specs.inside.Rows.{rows_in}
use Rattle.hv_state.proofs.HistoryLemmas.{FlaggedBut}
use Rattle.hv_state.proofs.changes.flags_of.Given as goal

-- what has no flag yet is left
abbrev pub invariant-loop-row : goal.invariant-loop-row
invariant-loop-row l = FlaggedBut l.flags.items (rows_in l.rows) (rows_in (drop l.row-index l.rows))
