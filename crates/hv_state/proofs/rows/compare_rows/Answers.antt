use Rattle.std.proofs.Common.{sym, ◌∙◌}
use Rattle.hv_state.proofs.TermLemmas.{more_numbers}
use Rattle.hv_state.proofs.rows.compare_rows.Goals as goal

pub returns-in-empty : goal.returns-in-empty
returns-in-empty c =
    sym (more_numbers c.args.row.now c.loop-number.number-index c.loop-number.left.now c.loop-number-test.true c.in-empty.len_below) ∙ c.loop-number.invariant
