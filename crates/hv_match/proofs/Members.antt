-- Members of lists, lists with each element once, and their lengths.
use Rattle.std.proofs.Common.{◌≡◌, ℕ, zero, suc, ◌+◌, ◌<◌, ◌≤◌, ◌≢◌, List, [], ◌∷◌, ◌++◌, length, refl, sym, ap, ◌∙◌, arith, subst, ◌⊎◌, inl, inr, get_or, Contains}
use Rattle.std.specs.List.{flat_map}
use Rattle.std.proofs.lemmas.List.Elements.{Contains-append_left, Contains-append_right, Contains-append_cases}
use Rattle.hv_lists.specs.Lists.{Once}
use Rattle.hv_lists.proofs.Contained.{at_head, in_tail, contains_cases, none_in_empty}
use Rattle.hv_lists.proofs.EachOnce.{once_head, once_tail, once_more}

-- a list with each once: its head is not in its tail, and the tail has each once
pub once_none : {X : Type 0} → Once {X = X} []
once_none {X} = λ i j d less within. absurd (let lt : j < 0 = within in omega (arith, lt))

-- what a mapped list contains
pub mem_flat : {X Y : Type 0} (f : X → List Y) (xs : List X) (y : Y) → Contains (flat_map f xs) y → (x : X) × Contains xs x × Contains (f x) y
mem_flat f [] y m = absurd (none_in_empty y m)
mem_flat {X} {Y} f (x ∷ xs) y m = go (Contains-append_cases (f x) (flat_map f xs) y m) (λ b. mem_flat f xs y b)
  where
    go : Contains (f x) y ⊎ Contains (flat_map f xs) y → (Contains (flat_map f xs) y → (z : X) × Contains xs z × Contains (f z) y) → (z : X) × Contains (x ∷ xs) z × Contains (f z) y
    go (inl a) k = (x, at_head x xs x refl, a)
    go (inr b) k = let r = k b in (r.0, in_tail x xs r.0 r.1, r.2)

pub flat_mem : {X Y : Type 0} (f : X → List Y) (xs : List X) (x : X) (y : Y) → Contains xs x → Contains (f x) y → Contains (flat_map f xs) y
flat_mem f [] x y m n = absurd (none_in_empty x m)
flat_mem {X} {Y} f (z ∷ xs) x y (zero, lt, e) n = let P : X → Type 0 = λ w. Contains (f w) y in Contains-append_left (f z) (flat_map f xs) y (subst P (sym e) n)
flat_mem f (z ∷ xs) x y (suc k, lt, e) n = Contains-append_right (f z) (flat_map f xs) y (flat_mem f xs x y (k, omega (arith, lt), e) n)

pub once_append : {X : Type 0} (xs ys : List X) → Once xs → Once ys → ((q : X) → Contains xs q → Contains ys q → ⊥) → Once (xs ++ ys)
once_append [] ys h k d = k
once_append (x ∷ xs) ys h k d =
    once_more x (xs ++ ys) (λ m. elim (Contains-append_cases xs ys x m) [ inl a ↦ once_head x xs h a | inr b ↦ d x (at_head x xs x refl) b ])
    (once_append xs ys (once_tail x xs h) k (λ q a b. d q (in_tail x xs q a) b))

pub once_flat : {X Y : Type 0} (f : X → List Y) (xs : List X) → Once xs → ((x : X) → Once (f x)) → ((x y : X) (q : Y) → Contains (f x) q → Contains (f y) q → x ≡ y) → Once (flat_map f xs)
once_flat {X} {Y} f [] h k d = once_none {X = Y}
once_flat {X} {Y} f (x ∷ xs) h k d =
    once_append (f x) (flat_map f xs) (k x) (once_flat f xs (once_tail x xs h) k d)
    (λ q a b. let r = mem_flat f xs q b in let P : X → Type 0 = λ w. Contains xs w in once_head x xs h (subst P (sym (d x r.0 q a r.2)) r.1))

-- a list without one of its elements
behind : {X : Type 0} (z : X) (zs : List X) (x : X) (k : ℕ) → suc k < length (z ∷ zs) → get_or zs k x ≡ x → Contains zs x
behind z zs x k lt e = (k, omega (arith, lt), e)

pub without : {X : Type 0} (zs : List X) (x : X) → Contains zs x → List X
without [] x m = absurd (none_in_empty x m)
without (z ∷ zs) x (zero, lt, e) = zs
without (z ∷ zs) x (suc k, lt, e) = z ∷ without zs x (behind z zs x k lt e)

pub without_len : {X : Type 0} (zs : List X) (x : X) (m : Contains zs x) → length (without zs x m) + 1 ≡ length zs
unfolding without
without_len [] x m = absurd (none_in_empty x m)
without_len (z ∷ zs) x (zero, lt, e) = omega arith
without_len (z ∷ zs) x (suc k, lt, e) = omega (arith, without_len zs x (behind z zs x k lt e))

pub without_mem : {X : Type 0} (zs : List X) (x y : X) (m : Contains zs x) → (x ≡ y → ⊥) → Contains zs y → Contains (without zs x m) y
unfolding without
without_mem [] x y m d n = absurd (none_in_empty x m)
without_mem (z ∷ zs) x y (zero, lt, e) d (zero, less, f) = let first : x ≡ z = sym e in let second : z ≡ y = f in absurd (d (first ∙ second))
without_mem (z ∷ zs) x y (zero, lt, e) d (suc j, less, f) = (j, omega (arith, less), f)
without_mem (z ∷ zs) x y (suc k, lt, e) d (zero, less, f) = at_head z (without zs x (behind z zs x k lt e)) y (sym f)
without_mem (z ∷ zs) x y (suc k, lt, e) d (suc j, less, f) =
    in_tail z (without zs x (behind z zs x k lt e)) y (without_mem zs x y (behind z zs x k lt e) d (j, omega (arith, less), f))

-- pigeons and holes
pub at_most : {X : Type 0} (xs zs : List X) → Once xs → ((x : X) → Contains xs x → Contains zs x) → length xs ≤ length zs
at_most [] zs h s = omega arith
at_most {X} (x ∷ xs) zs h s =
    let m = s x (at_head x xs x refl) in
    let P : X → Type 0 = λ w. Contains xs w in
    let r = at_most xs (without zs x m) (once_tail x xs h) (λ y n. without_mem zs x y m (λ e. once_head x xs h (subst P (sym e) n)) (s y (in_tail x xs y n))) in
    omega (arith, r, without_len zs x m)

same_or_not : (a b : ℕ) → (a ≡ b) ⊎ (a ≡ b → ⊥)
same_or_not a b = grind arith

pub mem_or_not : (xs : List ℕ) (x : ℕ) → Contains xs x ⊎ (Contains xs x → ⊥)
mem_or_not [] x = inr (none_in_empty x)
mem_or_not (y ∷ xs) x = go (same_or_not y x) (mem_or_not xs x)
  where
    go : (y ≡ x) ⊎ (y ≡ x → ⊥) → Contains xs x ⊎ (Contains xs x → ⊥) → Contains (y ∷ xs) x ⊎ (Contains (y ∷ xs) x → ⊥)
    go (inl e) r = inl (at_head y xs x (sym e))
    go (inr d) (inl m) = inl (in_tail y xs x m)
    go (inr d) (inr n) = inr (λ m. elim (contains_cases y xs x m) [ inl e ↦ d (sym e) | inr k ↦ n k ])

-- the numbers below n
pub upto : ℕ → List ℕ
upto zero = []
upto (suc n) = n ∷ upto n

upto_len : (n : ℕ) → length (upto n) ≡ n
unfolding upto
upto_len zero = refl
upto_len (suc n) = ap suc (upto_len n)

upto_mem : (n x : ℕ) → x < n → Contains (upto n) x
unfolding upto
upto_mem zero x h = absurd (omega arith)
upto_mem (suc n) x h = elim (same_or_not n x) [ inl e ↦ at_head n (upto n) x (sym e) | inr d ↦ in_tail n (upto n) x (upto_mem n x (let d' : n ≢ x = d in omega arith)) ]

-- n different numbers below n are all of them
pub all_there : (n : ℕ) (xs : List ℕ) → Once xs → length xs ≡ n → ((y : ℕ) → Contains xs y → y < n) → (x : ℕ) → x < n → Contains xs x
all_there n xs h e s x lt = go (mem_or_not xs x)
  where
    go : Contains xs x ⊎ (Contains xs x → ⊥) → Contains xs x
    go (inl m) = m
    go (inr d) =
        let k : suc (length xs) ≤ length (upto n) = at_most (x ∷ xs) (upto n) (once_more x xs d h) (λ y m. elim (contains_cases x xs y m) [ inl f ↦ upto_mem n y (omega arith) | inr r ↦ upto_mem n y (s y r) ]) in
        absurd (omega (arith, k, upto_len n))
