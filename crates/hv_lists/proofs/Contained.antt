-- What a list contains: its head, what is in its tail, and nothing else.
use Rattle.std.proofs.Common.{◌≡◌, ◌<◌, ◌⊎◌, inl, inr, ℕ, zero, suc, List, [], ◌∷◌, map, length, Some, Contains, slice_get, get_or, refl, sym, ap, arith}
use Rattle.std.proofs.lemmas.Option.{slice_get_within, get_or_from_slice_get}

pub contains_first : {X : Type 0} (x : X) (xs : List X) → Contains (x ∷ xs) x
contains_first x xs = (0, omega arith, refl)

pub at_head : {X : Type 0} (y : X) (ys : List X) (x : X) → x ≡ y → Contains (y ∷ ys) x
at_head y ys x e = (0, omega arith, sym e)

pub in_tail : {X : Type 0} (y : X) (ys : List X) (x : X) → Contains ys x → Contains (y ∷ ys) x
in_tail y ys x h = (suc h.0, omega (arith, h.1), h.2)

pub contains_cases : {X : Type 0} (y : X) (ys : List X) (x : X) → Contains (y ∷ ys) x → (x ≡ y) ⊎ Contains ys x
contains_cases y ys x (zero, lt, e) = inl (sym e)
contains_cases y ys x (suc k, lt, e) = inr (k, omega (arith, lt), e)

pub none_in_empty : {X : Type 0} (x : X) → Contains [] x → ⊥
none_in_empty x h = let lt : h.0 < 0 = h.1 in omega (arith, lt)

-- what stands at a place
pub contains_at : {X : Type 0} (xs : List X) (k : ℕ) (x : X) → slice_get xs k ≡ Some x → Contains xs x
contains_at xs k x e = (k, slice_get_within xs k x e, get_or_from_slice_get xs k x x e)

pub place_of : (q : List ℕ) (x : ℕ) → Contains q x → (l : ℕ) × (l < length q) × (get_or q l 0 ≡ x) × (slice_get q l ≡ Some x)
place_of [] x m = absurd (none_in_empty x m)
place_of (y ∷ q) x (zero, lt, e) = let same : y ≡ x = e in (0, omega arith, same, ap Some same)
place_of (y ∷ q) x (suc k, lt, e) = let r = place_of q x (k, omega (arith, lt), e) in (suc r.0, omega (arith, r.1), r.2, r.3)

-- a list that is mapped
pub mem_map : {X Y : Type 0} (f : X → Y) (xs : List X) (x : X) → Contains xs x → Contains (map f xs) (f x)
mem_map f [] x m = absurd (none_in_empty x m)
mem_map f (y ∷ xs) x (zero, lt, e) = at_head (f y) (map f xs) (f x) (ap f (sym e))
mem_map f (y ∷ xs) x (suc k, lt, e) = in_tail (f y) (map f xs) (f x) (mem_map f xs x (k, omega (arith, lt), e))

pub map_mem : {X Y : Type 0} (f : X → Y) (xs : List X) (y : Y) → Contains (map f xs) y → (x : X) × Contains xs x × (f x ≡ y)
map_mem f [] y m = absurd (none_in_empty y m)
map_mem f (x ∷ xs) y (zero, lt, e) = (x, at_head x xs x refl, e)
map_mem f (x ∷ xs) y (suc k, lt, e) =
    let within : suc k < suc (length (map f xs)) = lt in
    let r = map_mem f xs y (k, omega (arith, within), e) in
    (r.0, in_tail x xs r.0 r.1, r.2)
