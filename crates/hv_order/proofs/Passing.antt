-- Candidates that are passed over are none of those that are listed.
use Rattle.std.proofs.Common.{◌≡◌, ℕ, ◌+◌, ◌⊎◌, inl, inr, Bool, false, List, [], ◌∷◌, ◌++◌, cond, refl, sym, ap, ◌∙◌, subst, Contains}
use Rattle.std.specs.Prelude.{map, filter, take}
use Rattle.std.proofs.lemmas.List.{map-append, take-map}
use Rattle.std.proofs.lemmas.List.Elements.{filter-append, Contains-append_left}
use Rattle.hv_lists.proofs.Contained.{at_head, in_tail}
use Rattle.hv_plan.specs.declared.tree.Child.{Child}
use Rattle.hv_order.specs.inside.Arrangements.{Arrangement}
use Rattle.hv_order.specs.inside.Children.{child_at}
use Rattle.hv_order.specs.inside.Listers.{arranged_by}
use Rattle.hv_order.specs.inside.Spans.{is_in_order, IsMisplaced, IsBlocked, IsPlacing, ArePlacings}
use Rattle.hv_order.specs.declared.sequencing.Sequencing.{Sequencing}
use Rattle.hv_order.specs.declared.spans.Spans.{Spans}
use Rattle.hv_order.proofs.Blocked.{blocked_alike}
use Rattle.hv_order.proofs.SpanLemmas.{misplaced_alike}

-- what does not pass is left out
leaves : {X : Type 0} (p : X → Bool) (x : X) (xs : List X) → p x ≡ false → filter p (x ∷ xs) ≡ filter p xs
leaves p x xs e = ap (λ (b : Bool). cond b (x ∷ filter p xs) (filter p xs)) e

none_pass : {X Y : Type 0} (p : Y → Bool) (f : X → Y) (xs : List X) → ((x : X) → Contains xs x → p (f x) ≡ false) → filter p (map f xs) ≡ []
none_pass p f [] each = refl
none_pass p f (x ∷ xs) each = leaves p (f x) (map f xs) (each x (at_head x xs x refl)) ∙ none_pass p f xs (λ y m. each y (in_tail x xs y m))

module _ (s : Spans) (v : ℕ) (kids : List Child) (sequencing : Sequencing) where
  abbrev arranged : List ℕ × List ℕ → Arrangement
  arranged = arranged_by v kids sequencing

  -- where a candidate's children are not in order, those that are listed are the same without it, and without those that
  -- begin as it does
  pub passed :
      (n : ℕ) (M B : List ℕ) (mid gone rest : List (List ℕ × List ℕ)) (last : ℕ) → ArePlacings n ((M, B) ∷ mid)
      → IsMisplaced s (map (child_at kids) M) sequencing.direct last ⊎ IsBlocked s (map (child_at kids) M) sequencing.direct last
      → mid ≡ gone ++ rest → ((M' B' : List ℕ) → Contains gone (M', B') → take (last + 1) M' ≡ take (last + 1) M)
      → filter (is_in_order s) (map arranged ((M, B) ∷ mid)) ≡ filter (is_in_order s) (map arranged rest)
  passed n M B mid gone rest last placings stuck is alike =
      let first = placings M B (at_head (M, B) mid (M, B) refl) in
      let others : (M' B' : List ℕ) → Contains gone (M', B') → IsPlacing n M' =
      λ M' B' m. placings M' B' (in_tail (M, B) mid (M', B') (subst (λ (l : List (List ℕ × List ℕ)). Contains l (M', B')) (sym is) (Contains-append_left gone rest (M', B') m))) in
      let without = none_pass (is_in_order s) arranged gone (λ c m. so first stuck c.0 c.1 (others c.0 c.1 m) (alike c.0 c.1 m)) in
      leaves (is_in_order s) (arranged (M, B)) (map arranged mid) (so first stuck M B first refl)
      ∙ ap (λ (l : List (List ℕ × List ℕ)). filter (is_in_order s) (map arranged l)) is
      ∙ ap (filter (is_in_order s)) (map-append arranged gone rest)
      ∙ filter-append (is_in_order s) (map arranged gone) (map arranged rest)
      ∙ ap (λ (l : List Arrangement). l ++ filter (is_in_order s) (map arranged rest)) without
    where
      so :
          IsPlacing n M → IsMisplaced s (map (child_at kids) M) sequencing.direct last ⊎ IsBlocked s (map (child_at kids) M) sequencing.direct last
          → (M' B' : List ℕ) → IsPlacing n M' → take (last + 1) M' ≡ take (last + 1) M → is_in_order s (arranged (M', B')) ≡ false
      so first (inl misplaced) M' B' placed e =
          misplaced_alike s (map (child_at kids) M) (map (child_at kids) M') sequencing.direct last misplaced
          (take-map (child_at kids) (last + 1) M' ∙ ap (map (child_at kids)) e ∙ sym (take-map (child_at kids) (last + 1) M))
      so first (inr blocked) M' B' placed e = blocked_alike s kids n M M' first placed sequencing.direct last blocked e
