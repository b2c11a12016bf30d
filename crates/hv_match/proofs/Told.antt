-- A table that has for each choice the level at which it was made tells whether a choice stands.
use Rattle.std.proofs.Common.{◌≡◌, ◌≢◌, ℕ, zero, suc, ◌+◌, ◌<◌, ◌≤◌, Bool, true, List, [], ◌∷◌, ◌++◌, length, take, set, get_or, refl, sym, ap, ◌∙◌, arith, subst, length-append, get_or-set_same, get_or-set_other, ◌⊎◌, inl, inr, Some, slice_get, Contains}
use Rattle.std.proofs.lemmas.List.Elements.{Contains-get_or}
use Rattle.std.proofs.lemmas.List.{get_or_append_left, get_or_push, take_all}
use Rattle.hv_lists.specs.Lists.{Once}
use Rattle.hv_lists.proofs.Contained.{at_head, in_tail, none_in_empty, place_of}
use Rattle.hv_lists.proofs.EachOnce.{once_head, once_tail, once_more}
use Rattle.hv_match.specs.inside.Search.{below}
use Rattle.hv_match.specs.inside.States.{AreTold}
use Rattle.hv_match.proofs.Members.{once_none}
use Rattle.hv_match.proofs.Listing.{none_begins}

pub take_short : (n : ℕ) (q : List ℕ) (x : ℕ) → length q < n → take n (q ++ x ∷ []) ≡ q ++ x ∷ []
take_short n q x h = take_all n (q ++ x ∷ []) (omega (arith, length-append q (x ∷ [])))

-- a choice that is told and does not stand where the table says stands nowhere
pub stands_nowhere : (t q : List ℕ) (x : ℕ) → AreTold t q → (slice_get q (get_or t x 0) ≡ Some x → ⊥) → Contains q x → ⊥
stands_nowhere t q x told out m =
    let r = place_of q x m in
    let at : get_or t x 0 ≡ r.0 = ap (λ y. get_or t y 0) (sym r.2) ∙ told r.0 r.1 in
    out (ap (slice_get q) at ∙ r.3)

-- one choice more
pub told_more : (t q : List ℕ) (x : ℕ) → AreTold t q → (Contains q x → ⊥) → x < length t → AreTold (set t x (length q)) (q ++ x ∷ [])
told_more t q x told out h l lt = go (before_or_last l (length q) (omega (arith, lt, length-append q (x ∷ []))))
  where
    before_or_last : (l n : ℕ) → l < n + 1 → (l < n) ⊎ (l ≡ n)
    before_or_last l n h = grind arith

    go : (l < length q) ⊎ (l ≡ length q) → get_or (set t x (length q)) (get_or (q ++ x ∷ []) l 0) 0 ≡ l
    go (inl k) =
        let other : get_or q l 0 ≢ x = λ e. out (subst (λ y. Contains q y) e (Contains-get_or q l 0 k)) in
        rw (get_or_append_left q (x ∷ []) 0 l k, get_or-set_other t x (get_or q l 0) (length q) 0 other) (told l k)
    go (inr e) = rw (get_or_push q x 0 l (sym e), get_or-set_same t x (length q) 0 h) (sym e)

-- the first choices of more
pub told_first : (n : ℕ) (t q : List ℕ) (x : ℕ) → AreTold t (take n (q ++ x ∷ [])) → AreTold t (take n q)
told_first n t q x told l lt =
    let long = fewer n q in
    let same : get_or (take n (q ++ x ∷ [])) l 0 ≡ get_or (take n q) l 0 = alike n q l lt in
    ap (λ y. get_or t y 0) (sym same) ∙ told l (omega (arith, long, lt))
  where
    fewer : (n : ℕ) (q : List ℕ) → length (take n q) ≤ length (take n (q ++ x ∷ []))
    fewer zero q = omega arith
    fewer (suc n) [] = omega arith
    fewer (suc n) (y ∷ q) = omega (arith, fewer n q)

    alike : (n : ℕ) (q : List ℕ) (l : ℕ) → l < length (take n q) → get_or (take n (q ++ x ∷ [])) l 0 ≡ get_or (take n q) l 0
    alike zero q l h = absurd (omega arith)
    alike (suc n) [] l h = absurd (omega arith)
    alike (suc n) (y ∷ q) zero h = refl
    alike (suc n) (y ∷ q) (suc l) h = alike n q l (omega arith)

-- choices that are told differ
differ_once : (q : List ℕ) → ((i j : ℕ) → i < j → j < length q → get_or q i 0 ≡ get_or q j 0 → ⊥) → Once q
differ_once [] h = once_none
differ_once (x ∷ q) h =
    once_more x q (λ m. let r = place_of q x m in h 0 (suc r.0) (omega arith) (omega (arith, r.1)) (sym r.2))
    (differ_once q (λ i j before within e. h (suc i) (suc j) (omega arith) (omega arith) e))

pub told_once : (t q : List ℕ) → AreTold t q → Once q
told_once t q told = differ_once q (λ i j before within e.
    let one : i ≡ j = sym (told i (omega arith)) ∙ ap (λ y. get_or t y 0) e ∙ told j within in
    absurd (omega arith))

-- nothing in which the first choices differ begins with one of them twice
twice : (n : ℕ) (p xs : List ℕ) (x : ℕ) → length p < n → Contains p x → Once (take n ((p ++ x ∷ []) ++ xs)) → ⊥
twice n [] xs x h m o = absurd (none_in_empty x m)
twice zero (y ∷ p) xs x h m o = absurd (omega arith)
twice (suc n) (y ∷ p) xs x h (zero, lt, e) o = once_head y (take n ((p ++ x ∷ []) ++ xs)) o (subst (λ z. Contains (take n ((p ++ x ∷ []) ++ xs)) z) (sym e) (later n p (omega arith)))
  where
    later : (n : ℕ) (p : List ℕ) → length p < n → Contains (take n ((p ++ x ∷ []) ++ xs)) x
    later zero p h = absurd (omega arith)
    later (suc n) [] h = at_head x (take n xs) x refl
    later (suc n) (z ∷ p) h = in_tail z (take n ((p ++ x ∷ []) ++ xs)) x (later n p (omega arith))
twice (suc n) (y ∷ p) xs x h (suc k, lt, e) o = twice n p xs x (omega arith) (k, omega (arith, lt), e) (once_tail y (take n ((p ++ x ∷ []) ++ xs)) o)

pub none_twice : (options : List ℕ → List ℕ) (good : List ℕ → Bool) (n : ℕ) (p : List ℕ) (x : ℕ) → length p < n → Contains p x → ((q : List ℕ) → good q ≡ true → Once (take n q)) → (k : ℕ) → below options good k (p ++ x ∷ []) 0 ≡ []
none_twice options good n p x h m differ k = none_begins options good k (p ++ x ∷ []) (λ q xs e l g. twice n p xs x h m (subst (λ z. Once (take n z)) e (differ q g)))
