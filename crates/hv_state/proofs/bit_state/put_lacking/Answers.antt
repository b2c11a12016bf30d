use Rattle.std.proofs.Common.{◌≡◌, ◌++◌, [], IfOk, length, sym, subst, ap, ◌∙◌, rules}
use Rattle.std.proofs.lemmas.List.{append-nil, nil_from_length}
use Rattle.hv_state.specs.inside.Rows.{rows_in, HasSameRows}
use Rattle.hv_state.proofs.bit_state.put_lacking.Goals as goal

pub returns-then-is_empty-clause-exact : goal.returns-then-is_empty-clause-exact
returns-then-is_empty-clause-exact c =
    let old = rows_in c.args.rows.now.items in
    let empty : length c.args.new.now ≡ 0 = search rules in
    let none : c.args.new.now ≡ [] = nil_from_length c.args.new.now empty in
    let same : old ++ rows_in c.args.new.now ≡ old = ap (λ n. old ++ rows_in n) none ∙ append-nil old in
    subst (λ xs. HasSameRows xs old) (sym same) (λ r. (λ h. h, λ h. h))

pub returns-clause-exact : goal.returns-clause-exact
returns-clause-exact c =
    subst (λ xs. IfOk c.merge_distinct.result (λ _. HasSameRows xs (rows_in c.merge_distinct.new.rows.items))) c.in_ok-push_copies.ensures c.merge_distinct.ensures.exact
