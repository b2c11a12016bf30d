use Rattle.std.proofs.Common.{◌≡◌, ◌↔◌, ◌⊎◌, inl, inr, ◌+◌, ℕ, List, [], Some, drop, get_or, slice_get, sym, subst, arith}
use Rattle.std.specs.List.{Contains}
use Rattle.std.proofs.lemmas.List.{at_drop_all}
use Rattle.hv_lists.proofs.Contained.{none_in_empty}
use Rattle.hv_world.specs.Bindings.{ground_action, ground_actions_view}
use Rattle.hv_world.specs.WorldViews.{world_view}
use Rattle.hv_state.specs.inside.Rows.{IsRowOf, rows_in, HasSameRows}
use Rattle.hv_state.specs.inside.Notes.{TouchedIn}
use Rattle.hv_state.proofs.NoteLemmas.{actions_left, get_there, touched_more, done_more}
use Rattle.hv_state.proofs.touched.touched.Goals.{then-len-distinct+in_ok-merge_distinct, else-len-distinct}
use Rattle.hv_state.proofs.touched.touched.Goals as goal

pub loop-number-init : goal.loop-number-init
loop-number-init c = (λ r. (λ m. elim m [ inl l ↦ absurd (none_in_empty r (subst (λ xs. Contains (rows_in xs) r) c.new-rows.ensures.items l)) | inr x ↦ x ], λ x. inr x), λ j a lt. absurd (omega (arith, lt)))

pub loop-number-preserved : goal.loop-number-preserved
loop-number-preserved c =
    let w = world_view c.args.world.now in
    let actions = ground_actions_view c.args.actions.now in
    let i = c.loop-number.number in
    let old = rows_in c.loop-number.rows.items in
    let pushed = rows_in c.push_new.new.rows.items in
    let now = rows_in c.if-len-distinct.rows.items in
    let Q = IsRowOf (TouchedIn w actions) in
    let a = get_or actions i (ground_action 0 []) in
    let there : slice_get actions i ≡ Some a = get_there actions i (ground_action 0 []) (omega (arith, c.loop-number-test.true, c.len-number-end.ensures)) in
    let same : HasSameRows pushed now = elim c.if-len-distinct.branch [ then-len-distinct+in_ok-merge_distinct b ↦ subst (λ v. HasSameRows pushed (rows_in v.items)) (sym b.rows-is) b.in_ok-merge_distinct.ensures.exact | else-len-distinct b ↦ subst (λ v. HasSameRows pushed (rows_in v.items)) (sym b.rows-is) (λ r. (λ m. m, λ m. m)) ] in
    let before = subst (λ xs. (r : List ℕ) → (Contains old r ⊎ IsRowOf (TouchedIn w xs) r) ↔ Q r) (actions_left actions i a there) c.loop-number.invariant.0 in
    let joined = c.in_ok-push_new.ensures a there c.loop-number.invariant.1 in
    (touched_more w old pushed now a (drop (i + 1) actions) Q joined same before, done_more w actions i old pushed now a there joined same c.loop-number.invariant.1)

pub returns-clause-exact : goal.returns-clause-exact
returns-clause-exact c = λ r.
    let w = world_view c.args.world.now in
    let actions = ground_actions_view c.args.actions.now in
    let rows = rows_in c.loop-number.rows.items in
    let none : drop c.loop-number.number actions ≡ [] = at_drop_all (λ xs. xs) actions c.loop-number.number (omega (arith, c.loop-number-test.false, c.len-number-end.ensures)) in
    let whole = subst (λ xs. (Contains rows r ⊎ IsRowOf (TouchedIn w xs) r) ↔ IsRowOf (TouchedIn w actions) r) none (c.loop-number.invariant.0 r) in
    let same = c.in_ok-merge_distinct-2.ensures.exact r in
    (λ m. whole.0 (inl (same.0 m)), λ m. same.1 (elim (whole.1 m) [ inl l ↦ l | inr x ↦ absurd x.1 ]))
