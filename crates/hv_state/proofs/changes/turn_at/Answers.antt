use Rattle.std.proofs.lemmas.Result.{on_ok_weaker}
use Rattle.hv_state.specs.inside.Histories.{change_view}
use Rattle.hv_state.proofs.GrowLemmas.{rises_at, turned_at, set_same}
use Rattle.hv_state.proofs.StateLemmas.{on_err_weaker}
use Rattle.hv_state.proofs.changes.turn_at.Goals as goal

pub turn-requires : goal.turn-requires
turn-requires c = rises_at c.args.list.now.items c.args.place c.index_mut.result.now c.requires.place c.index_mut.ensures.value c.requires.rise

pub returns-clause-ok : goal.returns-clause-ok
returns-clause-ok c = on_ok_weaker c.turn.result (λ turned. turned_at c.args.list.now.items c.args.place c.index_mut.result.now _ (change_view c.args.change) c.requires.place c.index_mut.ensures.value c.turn.ensures.row turned) c.turn.ensures.ok

pub returns-clause-err : goal.returns-clause-err
returns-clause-err c = on_err_weaker c.turn.result (λ same. set_same c.args.list.now.items c.args.place c.index_mut.result.now _ c.requires.place c.index_mut.ensures.value c.turn.ensures.row same) c.turn.ensures.err
