use Rattle.std.proofs.Common.{drop}
use Rattle.hv_state.specs.inside.Rows.{rows_in}
use Rattle.hv_state.proofs.LitLemmas.{IsLackingUpTo}
use Rattle.hv_state.proofs.lit.lacking.Given as goal

-- what is left to look up
abbrev pub invariant-loop-row : goal.invariant-loop-row
invariant-loop-row l = IsLackingUpTo (rows_in l.rows) (rows_in l.more) (rows_in l.new.items) (rows_in (drop l.row-index l.more))
