use Rattle.std.proofs.Common.{◌↔◌, List, ℕ}
use Rattle.std.specs.List.{Contains}
use Rattle.hv_state.specs.inside.Rows.{rows_in}
use Rattle.hv_state.proofs.BitLemmas.{LitBelow}
use Rattle.hv_state.proofs.lit.lit_rows.Given as goal

-- the rows so far
abbrev pub invariant-loop-number : goal.invariant-loop-number
invariant-loop-number l = (r : List ℕ) → Contains (rows_in l.lit.items) r ↔ LitBelow (rows_in l.rows, l.words) l.number r
