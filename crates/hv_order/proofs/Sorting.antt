-- Sorting items by two numbers, and by their code where both are equal: a strict total order.
use Rattle.std.proofs.Common.{◌≡◌, ℕ, ◌<◌, ◌≤◌, List, [], ◌∷◌, refl, sym, ap, ◌∙◌, subst, inl, inr, arith, ◌⊎◌, Contains, zero, suc, length}
use Rattle.hv_lists.specs.Lists.{Once}
use Rattle.hv_lists.proofs.Contained.{at_head, in_tail, none_in_empty}
use Rattle.hv_lists.proofs.EachOnce.{once_more}
use Rattle.hv_plan.specs.Trees.{Item}
use Rattle.hv_order.specs.Sequences.{Earlier}
use Rattle.hv_order.proofs.Members.{code, code_once, once_none}

-- x stands before y: by its place, else by its rank, else by its code
pub data Less (place order : Item → ℕ) (x y : Item) : Type 0 where
  by_place : place x < place y → Less place order x y
  by_rank : place x ≡ place y → order x < order y → Less place order x y
  by_code : place x ≡ place y → order x ≡ order y → code x < code y → Less place order x y

pub data Trichotomy (place order : Item → ℕ) (x y : Item) : Type 0 where
  first : Less place order x y → Trichotomy place order x y
  equal : x ≡ y → Trichotomy place order x y
  second : Less place order y x → Trichotomy place order x y

three : (m n : ℕ) → (m < n) ⊎ ((m ≡ n) ⊎ (n < m))
three m n = grind arith

module _ (place order : Item → ℕ) where
  pub less_place : {x y : Item} → Less place order x y → place x ≤ place y
  less_place (by_place a) = omega arith
  less_place (by_rank a b) = omega arith
  less_place (by_code a b c) = omega arith

  pub less_not : (x y : Item) → Less place order x y → x ≡ y → ⊥
  less_not x y (by_place a) e = let f : place x ≡ place y = ap place e in omega arith
  less_not x y (by_rank a b) e = let f : order x ≡ order y = ap order e in omega arith
  less_not x y (by_code a b c) e = let f : code x ≡ code y = ap code e in omega arith

  less_trans : (x y z : Item) → Less place order x y → Less place order y z → Less place order x z
  less_trans x y z (by_place a) (by_place b) = by_place (omega arith)
  less_trans x y z (by_place a) (by_rank b c) = by_place (omega arith)
  less_trans x y z (by_place a) (by_code b c d) = by_place (omega arith)
  less_trans x y z (by_rank a b) (by_place c) = by_place (omega arith)
  less_trans x y z (by_rank a b) (by_rank c d) = by_rank (omega arith) (omega arith)
  less_trans x y z (by_rank a b) (by_code c d e) = by_rank (omega arith) (omega arith)
  less_trans x y z (by_code a b c) (by_place d) = by_place (omega arith)
  less_trans x y z (by_code a b c) (by_rank d e) = by_rank (omega arith) (omega arith)
  less_trans x y z (by_code a b c) (by_code d e f) = by_code (omega arith) (omega arith) (omega arith)

  tri : (x y : Item) → Trichotomy place order x y
  tri x y = by_place_case (three (place x) (place y))
    where
      by_code_case : place x ≡ place y → order x ≡ order y → (code x < code y) ⊎ ((code x ≡ code y) ⊎ (code y < code x)) → Trichotomy place order x y
      by_code_case a b (inl c) = first (by_code a b c)
      by_code_case a b (inr (inl c)) = equal (code_once x y c)
      by_code_case a b (inr (inr c)) = second (by_code (sym a) (sym b) c)

      by_rank_case : place x ≡ place y → (order x < order y) ⊎ ((order x ≡ order y) ⊎ (order y < order x)) → Trichotomy place order x y
      by_rank_case a (inl b) = first (by_rank a b)
      by_rank_case a (inr (inl b)) = by_code_case a b (three (code x) (code y))
      by_rank_case a (inr (inr b)) = second (by_rank (sym a) b)

      by_place_case : (place x < place y) ⊎ ((place x ≡ place y) ⊎ (place y < place x)) → Trichotomy place order x y
      by_place_case (inl a) = first (by_place a)
      by_place_case (inr (inl a)) = by_rank_case a (three (order x) (order y))
      by_place_case (inr (inr a)) = second (by_place a)

  put : (x y : Item) (ys rest : List Item) → Trichotomy place order x y → List Item
  put x y ys rest (first h) = x ∷ y ∷ ys
  put x y ys rest (equal e) = y ∷ ys
  put x y ys rest (second h) = y ∷ rest

  insert : Item → List Item → List Item
  insert x [] = x ∷ []
  insert x (y ∷ ys) = put x y ys (insert x ys) (tri x y)

  pub sorted : List Item → List Item
  sorted [] = []
  sorted (x ∷ xs) = insert x (sorted xs)

  abbrev pub IsSorted : List Item → Type 0
  IsSorted [] = Unit {0}
  IsSorted (x ∷ xs) = ((y : Item) → Contains xs y → Less place order x y) × IsSorted xs

  put_has : (x y : Item) (ys rest : List Item) (c : Trichotomy place order x y) → Contains rest x → Contains (put x y ys rest c) x
  unfolding put
  put_has x y ys rest (first h) m = at_head x (y ∷ ys) x refl
  put_has x y ys rest (equal e) m = at_head y ys x e
  put_has x y ys rest (second h) m = in_tail y rest x m

  insert_has : (x : Item) (q : List Item) → Contains (insert x q) x
  unfolding insert
  insert_has x [] = at_head x [] x refl
  insert_has x (y ∷ ys) = put_has x y ys (insert x ys) (tri x y) (insert_has x ys)

  put_keeps : (x y z : Item) (ys rest : List Item) (c : Trichotomy place order x y) → (Contains ys z → Contains rest z) → Contains (y ∷ ys) z → Contains (put x y ys rest c) z
  unfolding put
  put_keeps x y z ys rest (first h) f m = in_tail x (y ∷ ys) z m
  put_keeps x y z ys rest (equal e) f m = m
  put_keeps x y z ys rest (second h) f (zero, lt, e) = at_head y rest z (sym e)
  put_keeps x y z ys rest (second h) f (suc i, lt, e) = in_tail y rest z (f (i, omega (arith, lt), e))

  insert_keeps : (x z : Item) (q : List Item) → Contains q z → Contains (insert x q) z
  unfolding insert
  insert_keeps x z [] m = absurd (none_in_empty z m)
  insert_keeps x z (y ∷ ys) m = put_keeps x y z ys (insert x ys) (tri x y) (insert_keeps x z ys) m

  put_from : (x y z : Item) (ys rest : List Item) (c : Trichotomy place order x y) → (Contains rest z → (z ≡ x) ⊎ Contains ys z) → Contains (put x y ys rest c) z → (z ≡ x) ⊎ Contains (y ∷ ys) z
  unfolding put
  put_from x y z ys rest (first h) f (zero, lt, e) = inl (sym e)
  put_from x y z ys rest (first h) f (suc i, lt, e) = let within : suc i < suc (suc (length ys)) = lt in inr (i, omega (arith, within), e)
  put_from x y z ys rest (equal e) f m = inr m
  put_from x y z ys rest (second h) f (zero, lt, e) = inr (at_head y ys z (sym e))
  put_from x y z ys rest (second h) f (suc i, lt, e) = let within : suc i < suc (length rest) = lt in by_equal (f (i, omega (arith, within), e))
    where
      by_equal : (z ≡ x) ⊎ Contains ys z → (z ≡ x) ⊎ Contains (y ∷ ys) z
      by_equal (inl e) = inl e
      by_equal (inr k) = inr (in_tail y ys z k)

  insert_from : (x z : Item) (q : List Item) → Contains (insert x q) z → (z ≡ x) ⊎ Contains q z
  unfolding insert
  insert_from x z [] (zero, lt, e) = inl (sym e)
  insert_from x z [] (suc i, lt, e) = absurd (let few : suc i < 1 = lt in omega (arith, few))
  insert_from x z (y ∷ ys) m = put_from x y z ys (insert x ys) (tri x y) (insert_from x z ys) m

  put_sorted : (x y : Item) (ys : List Item) (c : Trichotomy place order x y) → IsSorted (y ∷ ys) → IsSorted (insert x ys) → IsSorted (put x y ys (insert x ys) c)
  unfolding put
  put_sorted x y ys (first h) s r = (λ z m. below z m, s)
    where
      below : (z : Item) → Contains (y ∷ ys) z → Less place order x z
      below z (zero, lt, e) = subst (Less place order x) e h
      below z (suc i, lt, e) = let (before_rest, rest) = s in less_trans x y z h (before_rest z (i, omega (arith, lt), e))
  put_sorted x y ys (equal e) s r = s
  put_sorted x y ys (second h) s r = (λ z m. below z (insert_from x z ys m), r)
    where
      below : (z : Item) → (z ≡ x) ⊎ Contains ys z → Less place order y z
      below z (inl e) = subst (Less place order y) (sym e) h
      below z (inr m) = let (before_rest, rest) = s in before_rest z m

  insert_sorted : (x : Item) (q : List Item) → IsSorted q → IsSorted (insert x q)
  unfolding insert
  insert_sorted x [] s = (λ z m. absurd (none_in_empty z m), tt)
  insert_sorted x (y ∷ ys) sorted_all = let (before_rest, rest) = sorted_all in put_sorted x y ys (tri x y) sorted_all (insert_sorted x ys rest)

  pub sorted_sorted : (xs : List Item) → IsSorted (sorted xs)
  unfolding sorted
  sorted_sorted [] = tt
  sorted_sorted (x ∷ xs) = insert_sorted x (sorted xs) (sorted_sorted xs)

  pub sorted_has : (z : Item) (xs : List Item) → Contains xs z → Contains (sorted xs) z
  unfolding sorted
  sorted_has z [] m = m
  sorted_has z (x ∷ xs) (zero, lt, e) = subst (λ w. Contains (insert x (sorted xs)) w) e (insert_has x (sorted xs))
  sorted_has z (x ∷ xs) (suc i, lt, e) = insert_keeps x z (sorted xs) (sorted_has z xs (i, omega (arith, lt), e))

  pub sorted_from : (z : Item) (xs : List Item) → Contains (sorted xs) z → Contains xs z
  unfolding sorted
  sorted_from z [] m = m
  sorted_from z (x ∷ xs) m = by_equal (insert_from x z (sorted xs) m) (sorted_from z xs)
    where
      by_equal : (z ≡ x) ⊎ Contains (sorted xs) z → (Contains (sorted xs) z → Contains xs z) → Contains (x ∷ xs) z
      by_equal (inl e) f = at_head x xs z e
      by_equal (inr k) f = in_tail x xs z (f k)

  pub sorted_distinct : (q : List Item) → IsSorted q → Once q
  sorted_distinct [] s = once_none
  sorted_distinct (x ∷ q) s = let (before_rest, rest) = s in once_more x q (λ m. less_not x x (before_rest x m) refl) (sorted_distinct q rest)

  pub sorted_earlier : (x y : Item) (q : List Item) → IsSorted q → Contains q x → Contains q y → Less place order x y → Earlier x y q
  sorted_earlier x y [] s m k h = absurd (none_in_empty x m)
  sorted_earlier x y (z ∷ q) s (zero, lt, e) (zero, less, f) h = let first_is : x ≡ z = sym e in let second_is : z ≡ y = f in absurd (less_not x y h (first_is ∙ second_is))
  sorted_earlier x y (z ∷ q) s (zero, lt, e) (suc j, less, f) h = inl (sym e, (j, omega (arith, less), f))
  sorted_earlier x y (z ∷ q) s (suc i, lt, e) (zero, less, f) h =
      let (before_rest, rest) = s in
      let back : Less place order y x = subst (λ w. Less place order w x) f (before_rest x (i, omega (arith, lt), e)) in
      absurd (less_not x x (less_trans x y x h back) refl)
  sorted_earlier x y (z ∷ q) s (suc i, lt, e) (suc j, less, f) h = let (before_rest, rest) = s in inr (sorted_earlier x y q rest (i, omega (arith, lt), e) (j, omega (arith, less), f) h)
