use Rattle.std.proofs.Common.{◌+◌, drop}
use Rattle.hv_state.specs.inside.Rows.{rows_in}
use Rattle.hv_state.proofs.RowLemmas.{rows_left, no_rows_left}
use Rattle.hv_state.proofs.HistoryLemmas.{flagged_more, flagged_all}
use Rattle.hv_state.proofs.changes.flags_of.Goals as goal

pub loop-row-preserved : goal.loop-row-preserved
loop-row-preserved c =
    let rows = c.args.rows.now in
    let v = c.row-item.result in
    let rest = rows_in (drop (c.loop-row.row-index + 1) rows) in
    let left = rows_left rows c.loop-row.row-index v c.loop-row-test.true c.row-item.is in
    flagged_more c.loop-row.flags.items c.raise.new.words.items (rows_in rows) (rows_in (drop c.loop-row.row-index rows)) rest v.numbers.items c.atom.result.predicate.0 (λ i. (c.atom.ensures i).predicate) left c.in_ok-raise.ensures c.loop-row.invariant

pub returns : goal.returns
returns c = flagged_all c.loop-row.flags.items (rows_in c.args.rows.now) (rows_in (drop c.loop-row.row-index c.args.rows.now)) (no_rows_left c.args.rows.now c.loop-row.row-index c.loop-row-test.false) c.loop-row.invariant
