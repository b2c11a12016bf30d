use Rattle.std.proofs.Common.{rules, ◌≡◌, ◌∙◌, ◌++◌, [], ap, sym, subst, map, length}
use Rattle.std.specs.Vec.{vec_len}
use Rattle.std.proofs.lemmas.Iterator.Consumers.{YieldsList-end}
use Rattle.std.proofs.lemmas.Iterator.Adapters.{YieldsList-from_vec}
use Rattle.hv_state.specs.inside.Hashes.{TellRows}
use Rattle.hv_state.specs.inside.Rows.{rows_in}
use Rattle.hv_state.specs.inside.Histories.{AreFlagged, history_view, rows_of}
use Rattle.hv_state.proofs.GrowLemmas.{empty_table, empty_rows, empty_more, map_self}
use Rattle.hv_state.proofs.changes.Changes.none.Goals as goal

pub loop-row-preserved : goal.loop-row-preserved
loop-row-preserved c =
    ap (map history_view) c.in_ok-push.ensures.items ∙ empty_more c.loop-row.list.items c.loop-row.yielded _ c.loop-row.invariant (ap (λ v. v ++ []) c.new.ensures.items)

pub invariant_of-result : goal.invariant_of-result
invariant_of-result c =
    let given = c.into_iter-row-iterator.ensures.into_iter_gives in
    let size : vec_len c.args.rows ≡ length c.args.rows.items = search rules in
    let all = sym (map_self c.loop-row.yielded) ∙ (YieldsList-end (YieldsList-from_vec {s = c.into_iter-row-iterator.result} c.args.rows.items given.0 (given.1 ∙ size)) c.loop-row.yielded c.loop-row.row-iterator c.loop-row.yielded_by c.next.result c.next.new.self c.in-None.is c.next.ensures.steps).0 in
    let table = c.loop-row.invariant ∙ ap (λ vs. map (λ row. (row, [])) (rows_in vs)) all in
    let rows = sym (ap rows_of table ∙ empty_rows (rows_in c.args.rows.items)) in (
      empty_table (rows_in c.args.rows.items) c.requires (map history_view c.loop-row.list.items) table,
      subst (AreFlagged c.in_ok-flags.flags.items) rows (subst (λ xs. AreFlagged c.in_ok-flags.flags.items (rows_in xs)) c.deref.ensures.value c.in_ok-flags.ensures),
      subst (TellRows c.in_ok-guesses.guesses.buckets.items) rows (subst (λ xs. TellRows c.in_ok-guesses.guesses.buckets.items (rows_in xs)) c.deref-2.ensures.value c.in_ok-guesses.ensures),
    )

pub returns : goal.returns
returns c =
    let given = c.into_iter-row-iterator.ensures.into_iter_gives in
    let size : vec_len c.args.rows ≡ length c.args.rows.items = search rules in
    let all = sym (map_self c.loop-row.yielded) ∙ (YieldsList-end (YieldsList-from_vec {s = c.into_iter-row-iterator.result} c.args.rows.items given.0 (given.1 ∙ size)) c.loop-row.yielded c.loop-row.row-iterator c.loop-row.yielded_by c.next.result c.next.new.self c.in-None.is c.next.ensures.steps).0 in
    c.loop-row.invariant ∙ ap (λ vs. map (λ row. (row, [])) (rows_in vs)) all
