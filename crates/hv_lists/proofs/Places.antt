-- What stands at a place of a list, and a list with one more at its end.
use Rattle.std.proofs.Common.{◌≡◌, ◌<◌, ◌+◌, ◌⊎◌, ℕ, zero, suc, List, [], ◌∷◌, ◌++◌, map, take, drop, length, Some, Contains, slice_get, slice_index, get_or, refl, sym, ap, ◌∙◌, arith, length-append}
use Rattle.std.proofs.lemmas.List.{drop_more}
use Rattle.std.proofs.lemmas.Option.{slice_get_within, get_or_from_slice_get}
use Rattle.std.proofs.Math.ListN.{get_or-append}
use Rattle.std.proofs.Math.Seq.{get_or-append_seam}
use Rattle.std.proofs.lemmas.Grind.{get_or_default_zero}
use Rattle.hv_lists.proofs.Numbers.{below_next}

pub member_at : {X : Type 0} (xs : List X) (i : ℕ) → i < length xs → (x : X) × (slice_get xs i ≡ Some x)
member_at [] i lt = absurd (omega arith)
member_at (x ∷ xs) zero lt = (x, refl)
member_at (x ∷ xs) (suc i) lt = member_at xs i (omega arith)

pub slice_get_here : {X : Type 0} (xs : List X) (k : ℕ) (x : X) → k < length xs → x ≡ get_or xs k x → slice_get xs k ≡ Some x
slice_get_here [] k x lt e = absurd (omega arith)
slice_get_here (y ∷ xs) zero x lt e = ap Some (sym e)
slice_get_here (y ∷ xs) (suc k) x lt e = slice_get_here xs k x (omega arith) e

pub map_some : {X Y : Type 0} (f : X → Y) (xs : List X) (k : ℕ) (x : X) → slice_get xs k ≡ Some x → slice_get (map f xs) k ≡ Some (f x)
map_some f [] k x e = cc
map_some f (y ∷ ys) zero x e = let same : y ≡ x = cc in ap (λ z. Some (f z)) same
map_some f (y ∷ ys) (suc k) x e = map_some f ys k x e

-- what a list of numbers contains stands at a place
pub stands_at : (xs : List ℕ) (x : ℕ) (h : Contains xs x) → slice_index xs h.0 ≡ x
stands_at xs x h = sym (get_or_default_zero xs h.0 x h.1) ∙ h.2

pub contained_at : (xs : List ℕ) (k x : ℕ) → k < length xs → slice_index xs k ≡ x → Contains xs x
contained_at xs k x w e = (k, w, get_or_default_zero xs k x w ∙ e)

-- one more at the end
pub push_front : (xs : List ℕ) (y k : ℕ) → k < length xs → slice_index (xs ++ y ∷ []) k ≡ slice_index xs k
push_front xs y k h = get_or-append xs (y ∷ []) 0 k h

pub push_last : (xs : List ℕ) (y : ℕ) → slice_index (xs ++ y ∷ []) (length xs) ≡ y
push_last xs y = get_or-append_seam xs y [] 0

pub length_pushed : (xs : List ℕ) (y : ℕ) → length (xs ++ y ∷ []) ≡ length xs + 1
length_pushed xs y = length-append xs (y ∷ [])

pub below_pushed : (xs : List ℕ) (y k : ℕ) → k < length (xs ++ y ∷ []) → (k < length xs) ⊎ (k ≡ length xs)
below_pushed xs y k h = below_next k (length xs) (let e : length (xs ++ y ∷ []) ≡ length xs + 1 = length_pushed xs y in omega (arith, h, e))

pub take_one : {X : Type 0} (xs : List X) (i : ℕ) (d : X) → i < length xs → take (i + 1) xs ≡ take i xs ++ get_or xs i d ∷ []
take_one [] i d h = absurd (omega arith)
take_one (x ∷ xs) zero d h = refl
take_one {X} (x ∷ xs) (suc i) d h =
    let e : suc i + 1 ≡ suc (i + 1) = omega arith in
    rw e (ap (λ (l : List X). x ∷ l) (take_one xs i d (omega arith)))

pub map_end : {X Y : Type 0} (f : X → Y) (xs : List X) (x : X) → map f (xs ++ x ∷ []) ≡ map f xs ++ f x ∷ []
map_end f [] x = refl
map_end {X} {Y} f (y ∷ xs) x = ap (λ (l : List Y). f y ∷ l) (map_end f xs x)

-- where two lists are nothing together, the first is
pub first_none : {X : Type 0} (xs ys : List X) → xs ++ ys ≡ [] → xs ≡ []
first_none [] ys e = refl
first_none (x ∷ xs) ys e = absurd (cc)

-- what is left from a place on, where something stands there
pub left_from : {X : Type 0} (xs : List X) (i : ℕ) (x : X) → slice_get xs i ≡ Some x → drop i xs ≡ x ∷ drop (i + 1) xs
left_from xs i x e = drop_more xs i x (slice_get_within xs i x e) ∙ ap (λ y. y ∷ drop (i + 1) xs) (get_or_from_slice_get xs i x x e)
