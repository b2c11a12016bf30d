use Rattle.std.proofs.Common.{◌≡◌, ◌<◌, ◌≤◌, ◌∙◌, ◌⊎◌, inl, inr, ℕ, zero, suc, Bool, true, false, List, [], ◌∷◌, Some, ◌+◌, length, get_or, slice_get, is_some, leb, refl, sym, ap, subst, arith}
use Rattle.std.proofs.lemmas.Bool.Decides.{leb_tells}
use Rattle.hv_order.specs.declared.memo.Span.{Span}
use Rattle.hv_order.proofs.Forgetting.{TellsUpto, told_more, span_tells}
use Rattle.hv_order.proofs.memo.Memo.finishing.Goals as goal
use Rattle.hv_order.proofs.memo.Memo.finishing.Goals.{then-span, else-span}

get_at : {X : Type 0} (xs : List X) (i : ℕ) (d : X) → i < length xs → slice_get xs i ≡ Some (get_or xs i d)
get_at [] i d lt = absurd (omega (arith, lt))
get_at (x ∷ xs) zero d lt = refl
get_at (x ∷ xs) (suc i) d lt = get_at xs i d (omega (arith, lt))

-- what is late is not told
none_told_so : (first last : ℕ) → last < first → leb first last ≡ true → ⊥
none_told_so first last late on = by (leb_tells first last)
  where
    by : ((leb first last ≡ true) × (first ≤ last)) ⊎ ((leb first last ≡ false) × (last < first)) → ⊥
    by (inl (e, le)) = omega (arith, le, late)
    by (inr (e, lt)) = let clash : false ≡ true = sym e ∙ on in cc

pub loop-span-preserved : goal.loop-span-preserved
loop-span-preserved c =
    let m = c.args.self.now in
    let i = c.loop-span.span-index in
    let none : Span = record { first = 0; last = 0; finish = 0 } in
    let spans = m.spans.items in
    let same : c.deref-span-items.result.now ≡ spans = c.deref-span-items.ensures.value in
    let within : i < length spans = omega (arith, c.loop-span-test.true, ap length same) in
    let span = get_or c.deref-span-items.result.now i none in
    let at : slice_get spans i ≡ Some span = get_at spans i none within ∙ ap (λ xs. Some (get_or xs i none)) (sym same) in
    let P : List Bool → Type 0 = λ told. TellsUpto m told (i + 1) in
    subst P (sym c.in_ok-push.ensures.items)
    (told_more m c.loop-span.finishing.items i c.if-span.push c.loop-span.invariant
    (λ on. elim c.if-span.branch [
      | then-span w ↦ span_tells m i span at w.if-span.true (ap is_some (sym w.finish_of.ensures) ∙ sym w.is_some.ensures ∙ sym w.push-is ∙ on)
      | else-span w ↦ absurd (none_told_so span.first span.last w.if-span.false (sym w.push-is ∙ on))
    ]))
