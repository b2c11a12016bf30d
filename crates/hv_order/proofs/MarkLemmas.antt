-- What a list of truth values marks, with one more at its end.
use Rattle.std.proofs.Common.{◌≡◌, ℕ, zero, suc, ◌⊎◌, inl, inr, Bool, true, false, List, [], ◌∷◌, ◌++◌, length, refl, ap}
use Rattle.hv_order.specs.inside.Marks.{IsMarked}

pub marked_front : (marks : List Bool) (b : Bool) (u : ℕ) → IsMarked marks u → IsMarked (marks ++ b ∷ []) u
marked_front [] b zero on = absurd (let clash : false ≡ true = on in cc)
marked_front [] b (suc u) on = absurd (let clash : false ≡ true = on in cc)
marked_front (x ∷ xs) b zero on = on
marked_front (x ∷ xs) b (suc u) on = marked_front xs b u on

pub marked_cases : (marks : List Bool) (b : Bool) (u : ℕ) → IsMarked (marks ++ b ∷ []) u → IsMarked marks u ⊎ ((u ≡ length marks) × (b ≡ true))
marked_cases [] b zero on = inr (refl, on)
marked_cases [] b (suc u) on = absurd (let clash : false ≡ true = on in cc)
marked_cases (x ∷ xs) b zero on = inl on
marked_cases (x ∷ xs) b (suc u) on = later (marked_cases xs b u on)
  where
    later : IsMarked xs u ⊎ ((u ≡ length xs) × (b ≡ true)) → IsMarked (x ∷ xs) (suc u) ⊎ ((suc u ≡ length (x ∷ xs)) × (b ≡ true))
    later (inl h) = inl h
    later (inr (e, h)) = inr (ap suc e, h)
