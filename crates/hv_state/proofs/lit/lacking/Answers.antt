use Rattle.std.proofs.Common.{drop, ◌+◌, ◌++◌, ◌∷◌, [], true≢false, sym, subst, ap, ◌∙◌}
use Rattle.std.specs.List.{Contains}
use Rattle.std.proofs.lemmas.List.{map_push}
use Rattle.hv_state.specs.declared.rows.Row.{Row}
use Rattle.hv_state.specs.inside.Rows.{rows_in}
use Rattle.hv_state.proofs.RowLemmas.{rows_left, no_rows_left}
use Rattle.hv_state.proofs.LitLemmas.{IsLackingUpTo, lacks_one_more, has_one_more, lacks_all}
use Rattle.hv_state.proofs.lit.lacking.Goals as goal
use Rattle.hv_state.proofs.lit.lacking.Goals.{then-not-has_row+in_ok-copy+in_ok-push, else-not-has_row}

pub loop-row-preserved : goal.loop-row-preserved
loop-row-preserved c =
    let rows = rows_in c.args.rows.now in
    let more = rows_in c.args.more.now in
    let new = rows_in c.loop-row.new.items in
    let v = c.row-item.result in
    let rest = rows_in (drop (c.loop-row.row-index + 1) c.args.more.now) in
    let left = rows_left c.args.more.now c.loop-row.row-index v c.loop-row-test.true c.row-item.is in
    let before = subst (IsLackingUpTo rows more new) left c.loop-row.invariant in
    elim c.if-not-has_row.branch [
      | then-not-has_row+in_ok-copy+in_ok-push w ↦
          let lacks : Contains rows v.numbers.items → ⊥ = λ m. true≢false (sym (c.has_row.ensures.1 (subst (Contains rows) (sym c.row.ensures) m)) ∙ w.if-not-has_row.true) in
          let pushed = ap rows_in (ap (λ u. u.items) w.new-is ∙ w.in_ok-push.ensures.items) ∙ map_push (λ (u : Row). u.numbers.items) c.loop-row.new.items w.in_ok-copy.field-0 ∙ ap (λ r. new ++ r ∷ []) w.in_ok-copy.ensures in
          subst (λ xs. IsLackingUpTo rows more xs rest) (sym pushed) (lacks_one_more rows more new rest v.numbers.items before lacks)
      | else-not-has_row w ↦
          let has = subst (Contains rows) c.row.ensures (c.has_row.ensures.0 w.if-not-has_row.false) in
          let same = ap rows_in (ap (λ u. u.items) w.new-is) in
          subst (λ xs. IsLackingUpTo rows more xs rest) (sym same) (has_one_more rows more new rest v.numbers.items before has)
    ]

pub returns : goal.returns
returns c =
    lacks_all (rows_in c.args.rows.now) (rows_in c.args.more.now) (rows_in c.loop-row.new.items) _ (no_rows_left c.args.more.now c.loop-row.row-index c.loop-row-test.false) c.loop-row.invariant
