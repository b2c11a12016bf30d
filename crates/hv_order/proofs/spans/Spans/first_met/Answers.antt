use Rattle.std.proofs.Common.{◌≡◌, ℕ, ◌-◌, ◌<◌, ◌≤◌, ◌⊎◌, inl, inr, false, length, sym, ap, ◌∙◌, subst, arith}
use Rattle.std.specs.Prelude.{min, nat_le}
use Rattle.std.specs.Option.{IfSome}
use Rattle.std.proofs.lemmas.Bool.{cases_lt, leb-false}
use Rattle.hv_plan.specs.TreeViews.{child_view}
use Rattle.hv_plan.specs.declared.tree.Child.{Child}
use Rattle.hv_order.specs.inside.Children.{child_at}
use Rattle.hv_order.specs.inside.Ends.{item_end}
use Rattle.hv_order.specs.inside.Firsts.{item_first}
use Rattle.hv_order.specs.inside.Spans.{IsMet}
use Rattle.hv_order.proofs.spans.Spans.first_met.Goals.{then-not-is_over_by, else-not-is_over_by}
use Rattle.hv_order.proofs.spans.Spans.first_met.Goals as goal

pub loop-place-preserved : goal.loop-place-preserved
loop-place-preserved c =
    let s = c.args.self.now in
    let cs = c.args.children.now in
    let p = c.loop-place.place in
    let some = c.loop-place-test.true in
    let ((later, low, within, is), met) = c.loop-place.invariant in
    let here : c.child_first.result ≡ item_first s.firsts.items (child_view (child_at cs (p - 1))) =
    c.child_first.ensures ∙ ap (λ xs. item_first xs (child_view c.child_at-child.result)) c.deref-in-loop-place-2.ensures.value ∙ ap (λ (x : Child). item_first s.firsts.items (child_view x)) c.child_at-child.ensures in (
      soonest later low within is some here (cases_lt c.child_first.result c.loop-place.soonest),
      elim c.if-not-is_over_by.branch [
        | then-not-is_over_by w ↦ (
            let over : nat_le (item_end s.ends.items (child_view (child_at cs (p - 1)))) c.loop-place.soonest ≡ false =
            ap (λ (x : Child). nat_le (item_end s.ends.items (child_view x)) c.loop-place.soonest) (sym c.child_at-child.ensures)
            ∙ ap (λ xs. nat_le (item_end xs (child_view c.child_at-child.result)) c.loop-place.soonest) (sym c.deref-in-loop-place.ensures.value) ∙ sym c.is_over_by.ensures ∙ w.if-not-is_over_by.true in
            let meets = leb-false (item_end s.ends.items (child_view (child_at cs (p - 1)))) c.loop-place.soonest over in
            subst (λ o. IfSome o (IsMet s cs)) (sym w.met-is) (record { later = later; behind = omega (arith, low, some); within = within; meets = omega (arith, meets, is) })
            )
        | else-not-is_over_by w ↦ subst (λ o. IfSome o (IsMet s cs)) (sym w.met-is) met
      ],
    )
  where
    soonest :
        (later : ℕ) → c.loop-place.place ≤ later → later < length c.args.children.now
        → c.loop-place.soonest ≡ item_first c.args.self.now.firsts.items (child_view (child_at c.args.children.now later)) → 0 < c.loop-place.place
        → c.child_first.result ≡ item_first c.args.self.now.firsts.items (child_view (child_at c.args.children.now (c.loop-place.place - 1)))
        → (c.child_first.result < c.loop-place.soonest) ⊎ (c.loop-place.soonest ≤ c.child_first.result)
        → (x : ℕ) × (c.loop-place.place - 1 ≤ x) × (x < length c.args.children.now) × (c.min-soonest.result ≡ item_first c.args.self.now.firsts.items (child_view (child_at c.args.children.now x)))
    soonest later low within is some here (inl less) =
        let sooner : min c.loop-place.soonest c.child_first.result ≡ c.child_first.result = omega (arith, less) in
        (c.loop-place.place - 1, omega arith, omega (arith, low, within, some), c.min-soonest.ensures ∙ sooner ∙ here)
    soonest later low within is some here (inr most) =
        let same : min c.loop-place.soonest c.child_first.result ≡ c.loop-place.soonest = omega (arith, most) in
        (later, omega (arith, low), within, c.min-soonest.ensures ∙ same ∙ is)
