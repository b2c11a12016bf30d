use Rattle.std.proofs.Common.{◌≡◌, ◌+◌, ℕ, None, Some, Option, ap, sym, subst, ◌∙◌, arith, length, option_map, slice_index}
use Rattle.hv_plan.specs.LineViews.{plan_view}
use Rattle.hv_plan.specs.inside.Shaping.{lines_of_heads, earlier, IsFirst, IsRepeat}
use Rattle.hv_plan.specs.inside.Tables.{place_by, line_by, ArePlaces}
use Rattle.hv_plan.proofs.FirstLines.{IsTable, no_lines, none_repeated, table_next, repeat_next}
use Rattle.hv_plan.proofs.PlaceTables.{has_places, no_repeat}
use Rattle.hv_plan.proofs.shape.repeats.table_of.Goals as goal

pub loop-place-init : goal.loop-place-init
loop-place-init c =
    let ids = c.args.begins.now in
    let lines = lines_of_heads (plan_view c.args.plan.now) in (
      omega arith,
      λ i k e. let none : None ≡ Some k = sym (c.in_ok-table.ensures i) ∙ e in absurd (cc),
      no_lines ids lines (line_by c.in_ok-table.table lines) (λ id. ap (option_map (slice_index lines)) (c.in_ok-table.ensures id)),
      none_repeated ids lines,
    )

pub note-requires-clause-places : goal.note-requires-clause-places
note-requires-clause-places c = c.loop-place.invariant.1

pub loop-place-preserved : goal.loop-place-preserved
loop-place-preserved c =
    let ids = c.args.begins.now in
    let lines = lines_of_heads (plan_view c.args.plan.now) in
    let k = c.loop-place.place in
    let old = line_by c.loop-place.table lines in
    let P : Option ℕ → Type 0 = IsFirst (IsRepeat ids lines (k + 1)) in (
      omega (arith, c.loop-place-test.true),
      c.in_ok-again.ensures.places,
      table_next ids lines k old (line_by c.note.new.table lines) c.loop-place.invariant.2 c.in_ok-again.ensures.first,
      subst P (sym (c.earlier-repeat.ensures ∙ ap (earlier c.loop-place.repeat) c.in_ok-again.ensures.again)) (repeat_next ids lines k old c.loop-place.repeat c.loop-place.invariant.2 c.loop-place.invariant.3),
    )

pub returns-clause-repeat : goal.returns-clause-repeat
returns-clause-repeat c =
    let P : ℕ → Type 0 = λ k. IsFirst (IsRepeat c.args.begins.now (lines_of_heads (plan_view c.args.plan.now)) k) c.loop-place.repeat in
    let done : c.loop-place.place ≡ length c.args.begins.now = omega (arith, c.loop-place-test.false, c.loop-place.invariant.0) in
    subst P done c.loop-place.invariant.3

pub returns-clause-places : goal.returns-clause-places
returns-clause-places c = λ none.
    let ids = c.args.begins.now in
    let lines = lines_of_heads (plan_view c.args.plan.now) in
    let done : c.loop-place.place ≡ length ids = omega (arith, c.loop-place-test.false, c.loop-place.invariant.0) in
    let first : IsFirst (IsRepeat ids lines (length ids)) c.loop-place.repeat = subst (λ k. IsFirst (IsRepeat ids lines k) c.loop-place.repeat) done c.loop-place.invariant.3 in
    has_places ids lines (place_by c.loop-place.table) (subst (ArePlaces c.loop-place.table ids) done c.loop-place.invariant.1)
    (subst (λ k. IsTable ids lines k (line_by c.loop-place.table lines)) done c.loop-place.invariant.2) (no_repeat ids lines (subst (IsFirst (IsRepeat ids lines (length ids))) none first))
