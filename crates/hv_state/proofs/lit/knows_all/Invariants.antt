use Rattle.std.proofs.Common.{drop}
use Rattle.hv_state.specs.inside.Rows.{rows_in}
use Rattle.hv_state.specs.inside.Bits.{Knows}
use Rattle.hv_state.proofs.lit.knows_all.Given as goal

-- what is left to find
abbrev pub invariant-loop-row : goal.invariant-loop-row
invariant-loop-row l = Knows (rows_in l.rows) (rows_in (drop l.row-index l.more)) → Knows (rows_in l.rows) (rows_in l.more)
