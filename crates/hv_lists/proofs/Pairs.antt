-- Two lists whose members are paired one by one.
use Rattle.std.proofs.Common.{◌≡◌, ℕ, zero, suc, List, [], ◌∷◌, ◌++◌, length, Some, slice_get, refl, ap, subst}
use Rattle.std.specs.List.{AllZip}
use Rattle.hv_lists.proofs.Options.{same_some}

pub same_length : {A B : Type 0} (R : A → B → Type 0) (xs : List A) (ys : List B) → AllZip R xs ys → length xs ≡ length ys
same_length R [] [] all = refl
same_length R [] (y ∷ ys) all = absurd all
same_length R (x ∷ xs) [] all = absurd all
same_length R (x ∷ xs) (y ∷ ys) (r, all) = ap suc (same_length R xs ys all)

-- the one that is paired with what stands at a place
pub paired_at : {A B : Type 0} (R : A → B → Type 0) (xs : List A) (ys : List B) (k : ℕ) (x : A) → AllZip R xs ys → slice_get xs k ≡ Some x → (y : B) × (slice_get ys k ≡ Some y) × R x y
paired_at R [] [] zero x all e = cc
paired_at R [] [] (suc k) x all e = cc
paired_at R [] (y ∷ ys) k x all e = absurd all
paired_at R (z ∷ xs) [] k x all e = absurd all
paired_at R (z ∷ xs) (y ∷ ys) zero x (r, all) e = (y, refl, subst (λ u. R u y) (same_some z x e) r)
paired_at R (z ∷ xs) (y ∷ ys) (suc k) x (r, all) e = paired_at R xs ys k x all e

pub zip_back : {A B : Type 0} (R : A → B → Type 0) (xs : List A) (ys : List B) (k : ℕ) (y : B) → AllZip R xs ys → slice_get ys k ≡ Some y → (x : A) × (slice_get xs k ≡ Some x) × R x y
zip_back R [] [] k y all e = cc
zip_back R [] (z ∷ zs) k y all e = absurd all
zip_back R (x ∷ xs) [] k y all e = absurd all
zip_back R (x ∷ xs) (z ∷ zs) zero y all e = (x, refl, subst (R x) (same_some z y e) all.0)
zip_back R (x ∷ xs) (z ∷ zs) (suc k) y all e = zip_back R xs zs k y all.1 e

-- one pair more
pub zip_end : {X Y : Type 0} (R : X → Y → Type 0) (xs : List X) (ys : List Y) (x : X) (y : Y) → AllZip R xs ys → R x y → AllZip R (xs ++ x ∷ []) (ys ++ y ∷ [])
zip_end R [] [] x y a r = (r, tt)
zip_end R [] (z ∷ ys) x y a r = absurd a
zip_end R (w ∷ xs) [] x y a r = absurd a
zip_end R (w ∷ xs) (z ∷ ys) x y a r = (a.0, zip_end R xs ys x y a.1 r)
