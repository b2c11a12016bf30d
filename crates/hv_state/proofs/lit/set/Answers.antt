use Rattle.hv_state.specs.inside.Rows.{rows_in}
use Rattle.hv_state.proofs.RowLemmas.{gap_lacks}
use Rattle.hv_state.proofs.BitLemmas.{row_set}
use Rattle.hv_state.proofs.lit.set.Goals as goal

pub returns-in-Ok-clause-lit : goal.returns-in-Ok-clause-lit
returns-in-Ok-clause-lit c =
    row_set (rows_in c.args.rows.now) c.args.row.now c.in-Ok.number c.in-Ok.ensures.0 c.in-Ok.ensures.1 c.args.words.now.items c.set_bit.new.words.items c.set_bit.ensures.set

pub returns-in_default-clause-lit : goal.returns-in_default-clause-lit
returns-in_default-clause-lit c = absurd (gap_lacks (rows_in c.args.rows.now) c.in_default.field-0 c.args.row.now c.in_default.ensures c.requires.known)
