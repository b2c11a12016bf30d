use Rattle.std.proofs.Common.{◌≡◌, ◌+◌, ◌<◌, ℕ, List, None, Some, Option, nat_eq, ap, sym, subst, ◌∙◌, arith, get_or, length, slice_index, rules}
use Rattle.std.specs.Map.{update}
use Rattle.std.specs.Vec.{with_items}
use Rattle.std.proofs.lemmas.List.{with_items_is}
use Rattle.hv_plan.specs.inside.Shaping.{first_of, again_of, earlier, IsFirst, IsRepeat}
use Rattle.hv_plan.proofs.FirstLines.{IsTable, no_lines, none_repeated, table_next, repeat_next}
use Rattle.hv_plan.proofs.PlaceTables.{filled_with}
use Rattle.hv_plan.proofs.shape.repeats.second_parent.Goals as goal

pub loop-k-init : goal.loop-k-init
loop-k-init c =
    let slots = c.in_ok-first_lines.first_lines.items in (
      omega arith,
      omega (arith, c.in_ok-first_lines.ensures.len, c.in_ok-first_lines.first_lines.ok),
      no_lines c.args.places.now c.args.lines.now (λ place. get_or slots place None) (λ place. filled_with None slots c.args.count place (c.in_ok-first_lines.ensures.items_if_clones_equal (search rules))),
      none_repeated c.args.places.now c.args.lines.now,
    )

pub note_parent-again-requires : goal.note_parent-again-requires
note_parent-again-requires c =
    let lt : slice_index c.args.places.now c.loop-k.k < c.args.count = c.requires.within c.loop-k.k c.loop-k-test.true in
    omega (arith, lt, ap length c.deref_mut.ensures.value, c.loop-k.invariant.1)

pub loop-k-preserved : goal.loop-k-preserved
loop-k-preserved c =
    let places = c.args.places.now in
    let lines = c.args.lines.now in
    let k = c.loop-k.k in
    let line = slice_index lines k in
    let place = slice_index places k in
    let old : ℕ → Option ℕ = λ q. get_or c.loop-k.first_lines.items q None in
    let new : ℕ → Option ℕ = λ q. get_or c.note_parent-again.new.first_lines q None in
    let F : List (Option ℕ) → Type 0 = λ xs. (q : ℕ) → new q ≡ update nat_eq (λ j. get_or xs j None) place (Some (first_of line (get_or xs place None))) q in
    let again : c.note_parent-again.result ≡ again_of line (old place) = c.note_parent-again.ensures.again ∙ ap (λ xs. again_of line (get_or xs place None)) c.deref_mut.ensures.value in
    let size : length c.note_parent-again.new.first_lines ≡ length c.loop-k.first_lines.items = c.note_parent-again.ensures.size ∙ ap length c.deref_mut.ensures.value in
    let is : (with_items c.loop-k.first_lines c.note_parent-again.new.first_lines).items ≡ c.note_parent-again.new.first_lines =
    with_items_is c.loop-k.first_lines c.note_parent-again.new.first_lines (omega (arith, size, c.loop-k.first_lines.ok)) in
    let T : List (Option ℕ) → Type 0 = λ xs. IsTable places lines (k + 1) (λ q. get_or xs q None) in
    let P : Option ℕ → Type 0 = IsFirst (IsRepeat places lines (k + 1)) in (
      omega (arith, c.loop-k-test.true),
      ap length is ∙ size ∙ c.loop-k.invariant.1,
      subst T (sym is) (table_next places lines k old new c.loop-k.invariant.2 (subst F c.deref_mut.ensures.value c.note_parent-again.ensures.first)),
      subst P (sym (c.earlier-second.ensures ∙ ap (earlier c.loop-k.second) again)) (repeat_next places lines k old c.loop-k.second c.loop-k.invariant.2 c.loop-k.invariant.3),
    )

pub returns : goal.returns
returns c =
    let P : ℕ → Type 0 = λ k. IsFirst (IsRepeat c.args.places.now c.args.lines.now k) c.loop-k.second in
    let done : c.loop-k.k ≡ length c.args.places.now = omega (arith, c.loop-k-test.false, c.loop-k.invariant.0) in
    subst P done c.loop-k.invariant.3
