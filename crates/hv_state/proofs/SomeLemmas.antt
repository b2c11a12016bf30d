-- One of several is so.
use Rattle.std.proofs.Common.{◌≡◌, ◌<◌, ◌≤◌, ◌+◌, ◌++◌, ◌↔◌, ◌⊎◌, inl, inr, ℕ, zero, suc, List, [], ◌∷◌, length, take, get_or, refl, sym, ap, ◌∙◌, subst, arith}
use Rattle.std.specs.List.{Contains}
use Rattle.std.proofs.lemmas.List.{take_more}
use Rattle.hv_world.specs.declared.id.ObjectId.{ObjectId}
use Rattle.hv_world.specs.Types.{Typing, Of, object_numbers}
use Rattle.hv_state.specs.Truth.{ForSome}

-- one of these is so
abbrev pub SomeOf : {X : Type 0} → (X → Type 0) → List X → Type 0
SomeOf P [] = ⊥
SomeOf P (x ∷ xs) = P x ⊎ SomeOf P xs

some_push : {X : Type 0} (P : X → Type 0) (xs : List X) (y : X) → (SomeOf P xs ⊎ P y) ↔ SomeOf P (xs ++ y ∷ [])
some_push P [] y = (λ m. elim m [ inl a ↦ absurd a | inr b ↦ inl b ], λ m. elim m [ inl b ↦ inr b | inr a ↦ absurd a ])
some_push P (x ∷ xs) y =
    let rest = some_push P xs y in
    (λ m. elim m [ inl a ↦ (elim a [ inl p ↦ inl p | inr s ↦ inr (rest.0 (inl s)) ]) | inr b ↦ inr (rest.0 (inr b)) ], λ m. elim m [ inl p ↦ inl (inl p) | inr s ↦ (elim (rest.1 s) [ inl a ↦ inl (inr a) | inr b ↦ inr b ]) ])

-- of the first of a list, and the next
pub some_more : {X : Type 0} (P : X → Type 0) (xs : List X) (i : ℕ) (x : X) → i < length xs → x ≡ get_or xs i x → (SomeOf P (take i xs) ⊎ P x) ↔ SomeOf P (take (i + 1) xs)
some_more P xs i x lt is =
    let more : take (i + 1) xs ≡ take i xs ++ x ∷ [] = take_more xs i x lt ∙ ap (λ y. take i xs ++ y ∷ []) (sym is) in
    subst (λ ys. (SomeOf P (take i xs) ⊎ P x) ↔ SomeOf P ys) (sym more) (some_push P (take i xs) x)

-- some of the first of a list are some of it
pub some_taken : {X : Type 0} (P : X → Type 0) (xs : List X) (i : ℕ) → SomeOf P (take i xs) → SomeOf P xs
some_taken P [] zero m = m
some_taken P [] (suc i) m = m
some_taken P (x ∷ xs) zero m = absurd m
some_taken P (x ∷ xs) (suc i) (inl p) = inl p
some_taken P (x ∷ xs) (suc i) (inr m) = inr (some_taken P xs i m)

-- where one of them is so with any other, the first of them up to it decide
pub one_for_all : {X : Type 0} (P : X → Type 0) (xs : List X) (i : ℕ) (x : X) → i < length xs → x ≡ get_or xs i x → ((y : X) → P y → P x) → SomeOf P (take (i + 1) xs) ↔ SomeOf P xs
one_for_all {X = X} P xs i x lt is all = (some_taken P xs (i + 1), λ m. (some_more P xs i x lt is).0 (inr (any xs m)))
  where
    any : (ys : List X) → SomeOf P ys → P x
    any [] m = absurd m
    any (y ∷ ys) (inl p) = all y p
    any (y ∷ ys) (inr m) = any ys m

-- the first of a list, where they are all
pub taken : {X : Type 0} (xs : List X) (n : ℕ) → length xs ≤ n → take n xs ≡ xs
taken [] zero h = refl
taken [] (suc n) h = refl
taken (x ∷ xs) zero h = absurd (omega (arith, h))
taken (x ∷ xs) (suc n) h = ap (λ ys. x ∷ ys) (taken xs n (omega (arith, h)))

some_number : (P : ℕ → Type 0) (os : List ObjectId) (n : ℕ) → Contains (object_numbers os) n → P n → SomeOf (λ o. P o.0) os
some_number P [] n m p = absurd (omega (arith, m.1))
some_number P (o ∷ os) n (zero, lt, e) p = inl (subst P (sym e) p)
some_number P (o ∷ os) n (suc i, lt, e) p = inr (some_number P os n (i, omega (arith, lt), e) p)

number_of_some : (P : ℕ → Type 0) (os : List ObjectId) → SomeOf (λ o. P o.0) os → (n : ℕ) × Contains (object_numbers os) n × P n
number_of_some P [] m = absurd m
number_of_some P (o ∷ os) (inl p) = (o.0, (0, omega arith, refl), p)
number_of_some P (o ∷ os) (inr m) = let (n, at, p) = number_of_some P os m in (n, (suc at.0, omega (arith, at.1), at.2), p)

-- of the objects of a type
pub some_objects : (w : Typing) (t : ℕ) (os : List ObjectId) (exact : (o : ℕ) → Contains (object_numbers os) o ↔ Of w o t) (P : List ℕ → Type 0) (ts env : List ℕ) → SomeOf (λ o. ForSome w P ts (env ++ o.0 ∷ [])) os ↔ ForSome w P (t ∷ ts) env
some_objects w t os exact P ts env =
    (λ m. (let h = number_of_some (λ n. ForSome w P ts (env ++ n ∷ [])) os m in (h.0, (exact h.0).0 h.1, h.2)), λ m. some_number (λ n. ForSome w P ts (env ++ n ∷ [])) os m.0 ((exact m.0).1 m.1) m.2)

-- where it is so for some objects, it is so for these
pub for_these : (w : Typing) (P : List ℕ → Type 0) (ts env : List ℕ) → ForSome w P ts env → (inner : List ℕ) × P inner
for_these w P [] env p = (env, p)
for_these w P (t ∷ ts) env (o, of, rest) = for_these w P ts (env ++ o ∷ []) rest
