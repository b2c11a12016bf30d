use Rattle.hv_state.specs.inside.Rows.{rows_in}
use Rattle.hv_state.proofs.RowLemmas.{gap_lacks}
use Rattle.hv_state.proofs.BitLemmas.{row_cleared, row_lacking}
use Rattle.hv_state.proofs.lit.clear.Goals as goal

pub returns-in-Ok-clause-dark : goal.returns-in-Ok-clause-dark
returns-in-Ok-clause-dark c =
    row_cleared (rows_in c.args.rows.now) c.args.row.now c.in-Ok.number c.in-Ok.ensures.0 c.in-Ok.ensures.1 c.args.words.now.items c.clear_bit.new.words.items c.requires.order c.clear_bit.ensures.cleared

pub returns-in_default-clause-dark : goal.returns-in_default-clause-dark
returns-in_default-clause-dark c =
    let rows = rows_in c.args.rows.now in
    row_lacking (rows, c.args.words.now.items) c.args.row.now (gap_lacks rows c.in_default.field-0 c.args.row.now c.in_default.ensures)
