use Rattle.std.proofs.Common.{◌≡◌, ◌++◌, []}
use Rattle.hv_world.specs.FactViews.{facts_view, facts_left}
use Rattle.hv_state.specs.inside.Rows.{rows_in, rows_under}
use Rattle.hv_state.proofs.rows.push_rows.Given as goal

-- the rows so far, and what is left
abbrev pub invariant-loop-fact : goal.invariant-loop-fact
invariant-loop-fact l =
    rows_in l.rows.items ++ rows_under [] (facts_left l.fact-iterator) ≡ rows_in l.initial.rows.items ++ rows_under [] (facts_view l.facts)
