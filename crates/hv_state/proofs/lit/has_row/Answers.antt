use Rattle.hv_state.specs.inside.Rows.{rows_in}
use Rattle.hv_state.proofs.RowLemmas.{place_tells}
use Rattle.hv_state.proofs.lit.has_row.Goals as goal

pub returns : goal.returns
returns c = rw (c.is_ok.ensures.value) (place_tells (rows_in c.args.rows.now) c.args.row.now c.place.result c.place.ensures)
