use Rattle.std.proofs.Common.{◌≡◌, [], map}
use Rattle.hv_state.specs.inside.Rows.{rows_in}
use Rattle.hv_state.specs.inside.Histories.{history_view}
use Rattle.hv_state.proofs.changes.Changes.none.Given as goal

-- the rows so far
abbrev pub invariant-loop-row : goal.invariant-loop-row
invariant-loop-row l = map history_view l.list.items ≡ map (λ row. (row, [])) (rows_in l.yielded)
