use Rattle.hv_state.specs.inside.Rows.{rows_in}
use Rattle.hv_state.proofs.LitLemmas.{changed}
use Rattle.hv_state.proofs.bit_state.change.Goals as goal

pub returns-clause-lit : goal.returns-clause-lit
returns-clause-lit c =
    changed (rows_in c.args.table.now) c.args.words.now.items c.clear_all.new.words.items c.set_all.new.words.items (rows_in c.args.deletes.now) (rows_in c.args.adds.now) c.clear_all.ensures.dark c.set_all.ensures.lit
