use Rattle.std.proofs.Common.{◌≡◌, [], ap, sym, subst, ◌∙◌}
use Rattle.hv_world.specs.WorldViews.{world_view}
use Rattle.hv_state.specs.Atoms.{atoms_under}
use Rattle.hv_state.specs.inside.Rows.{rows_in, rows_shared, rows_under, HasSameRows}
use Rattle.hv_state.proofs.StateLemmas.{begun}
use Rattle.hv_state.proofs.sorted.SortedStateState.initial.Goals as goal

pub returns : goal.returns
returns c =
    let rows = rows_in c.in_ok-rows.rows.items in
    let shared : rows_shared c.in_ok-shared.shared.items ≡ rows_in c.sort_distinct.new.rows.items = c.in_ok-shared.ensures ∙ ap rows_in c.deref.ensures.value in
    begun rows (rows_shared c.in_ok-shared.shared.items) (atoms_under [] (world_view c.args.world.now).init) (c.in_ok-rows.ensures ∙ ap (rows_under []) c.init.ensures) (subst (HasSameRows rows) (sym shared) c.sort_distinct.ensures.exact)
