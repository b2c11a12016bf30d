-- One node more for which it is chosen as it stands.
use Rattle.std.proofs.Common.{◌≡◌, ℕ, zero, suc, ◌+◌, ◌⊎◌, inl, inr, ◌<◌, List, [], ◌∷◌, ◌++◌, Option, Some, None, length, slice_get, refl, sym, ap, ◌∙◌, subst, arith, length-append}
use Rattle.hv_order.specs.inside.Walks.{said_of}
use Rattle.hv_order.specs.inside.Chosen.{DoAllStand, IsChosenOf, IsChosenBy}
use Rattle.hv_order.specs.declared.walk.Stand.{Stand}
use Rattle.hv_order.specs.declared.certify.Chosen.{Chosen}

-- a member of a list with one more is a member of the list, or it is that one
pushed : {X : Type 0} (xs : List X) (x : X) (v : ℕ) (y : X) → slice_get (xs ++ x ∷ []) v ≡ Some y → (slice_get xs v ≡ Some y) ⊎ ((v ≡ length xs) × (x ≡ y))
pushed [] x zero y e = inr (refl, cc)
pushed [] x (suc v) y e = absurd (let clash : None ≡ Some y = e in cc)
pushed (z ∷ zs) x zero y e = inl e
pushed (z ∷ zs) x (suc v) y e = by (pushed zs x v y e)
  where
    by : (slice_get zs v ≡ Some y) ⊎ ((v ≡ length zs) × (x ≡ y)) → (slice_get (z ∷ zs) (suc v) ≡ Some y) ⊎ ((suc v ≡ length (z ∷ zs)) × (x ≡ y))
    by (inl f) = inl f
    by (inr (f, g)) = inr (ap suc f, g)

-- where all nodes stand, none is found not to
pub not_none : (stands : List (Option Stand)) (v : ℕ) (o : Option Stand) → DoAllStand stands → v < length stands → said_of stands v ≡ o → o ≡ None → ⊥
not_none stands v o all lt here none = let (s, said) = all v lt in let clash : Some s ≡ None = sym said ∙ (here ∙ none) in cc

pub one_more_chosen : (stands : List (Option Stand)) (cs : List Chosen) (v : ℕ) (s : Stand) (c : Chosen)
    → (length cs ≡ v) × ((u : ℕ) (d : Chosen) → slice_get cs u ≡ Some d → IsChosenBy stands u d)
    → said_of stands v ≡ Some s → IsChosenOf s c
    → (length (cs ++ c ∷ []) ≡ v + 1) × ((u : ℕ) (d : Chosen) → slice_get (cs ++ c ∷ []) u ≡ Some d → IsChosenBy stands u d)
one_more_chosen stands cs v s c so_far said is =
    (let n : length (cs ++ c ∷ []) ≡ length cs + 1 = length-append cs (c ∷ []) in omega (arith, n, so_far.0), each)
  where
    here : IsChosenBy stands v c
    here = record { stand = s; said = said; is = is }

    each : (u : ℕ) (d : Chosen) → slice_get (cs ++ c ∷ []) u ≡ Some d → IsChosenBy stands u d
    each u d g = by (pushed cs c u d g)
      where
        by : (slice_get cs u ≡ Some d) ⊎ ((u ≡ length cs) × (c ≡ d)) → IsChosenBy stands u d
        by (inl h) = so_far.1 u d h
        by (inr (h, k)) =
            let same : v ≡ u = sym so_far.0 ∙ sym h in
            let P : ℕ → Type 0 = λ x. IsChosenBy stands x c in
            subst (λ x. IsChosenBy stands u x) k (subst P same here)
