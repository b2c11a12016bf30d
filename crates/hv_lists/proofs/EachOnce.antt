-- Lists in which each stands once.
use Rattle.std.proofs.Common.{◌≡◌, ◌≢◌, ◌<◌, ◌≤◌, ◌+◌, ◌-◌, ◌⊎◌, inl, inr, ℕ, suc, List, ◌∷◌, ◌++◌, length, get_or, Contains, slice_index, refl, sym, ap, ◌∙◌, subst, arith, length-append}
use Rattle.std.proofs.Math.ListN.{get_or-append}
use Rattle.std.proofs.lemmas.List.{get_or-append_right}
use Rattle.std.proofs.lemmas.List.Kept.{AllPairs-cons}
use Rattle.std.proofs.lemmas.List.Elements.{Contains-get_or}
use Rattle.hv_lists.specs.Lists.{Once}
use Rattle.hv_lists.proofs.Numbers.{either, either_side}

-- the head is not in the tail
pub once_head : {X : Type 0} (x : X) (xs : List X) → Once (x ∷ xs) → Contains xs x → ⊥
once_head x xs once (k, lt, e) = once 0 (suc k) x (omega arith) (omega (arith, lt)) (sym e)

pub once_tail : {X : Type 0} (x : X) (xs : List X) → Once (x ∷ xs) → Once xs
once_tail x xs once = λ i j d less within. once (suc i) (suc j) d (omega (arith, less)) (omega (arith, within))

pub once_more : {X : Type 0} (x : X) (xs : List X) → (Contains xs x → ⊥) → Once xs → Once (x ∷ xs)
once_more x xs absent once = AllPairs-cons ◌≢◌ x xs (λ i d lt e. absent (subst (Contains xs) (sym e) (Contains-get_or xs i d lt))) once

-- two places have not the same
pub once_at : (xs : List ℕ) → Once xs → (a b : ℕ) → a < b → b < length xs → slice_index xs a ≢ slice_index xs b
once_at xs h a b o w = h a b 0 o w

pub same_place : (xs : List ℕ) → Once xs → (a b : ℕ) → a < length xs → b < length xs → slice_index xs a ≡ slice_index xs b → a ≡ b
same_place xs h a b v w e = by (either a b) where
  cut : a ≢ b → (a < b) ⊎ (b ≤ a) → a ≡ b
  cut n (inl o) = absurd (once_at xs h a b o w e)
  cut n (inr o) = absurd (once_at xs h b a (omega (arith, n, o)) v (sym e))

  by : (a ≡ b) ⊎ (a ≢ b) → a ≡ b
  by (inl q) = q
  by (inr n) = cut n (either_side a b)

-- two lists one behind the other
back : (n j : ℕ) → (n + j) - n ≡ j
back n j = omega arith

pub once_apart : (xs ys : List ℕ) (i : ℕ) → Once (xs ++ ys) → Contains xs i → Contains ys i → ⊥
once_apart xs ys i once h g =
    let v : h.0 < length xs = h.1 in
    let w : g.0 < length ys = g.1 in
    let l : length (xs ++ ys) ≡ length xs + length ys = length-append xs ys in
    once h.0 (length xs + g.0) i (omega (arith, v)) (omega (arith, w, l))
    ((get_or-append xs ys i h.0 v ∙ h.2) ∙ sym (get_or-append_right xs ys (length xs) (length xs + g.0) i refl (omega arith) ∙ ap (λ j. get_or ys j i) (back (length xs) g.0) ∙ g.2))

pub once_right : (xs ys : List ℕ) → Once (xs ++ ys) → Once ys
once_right xs ys once = λ a b d o w e.
    let l : length (xs ++ ys) ≡ length xs + length ys = length-append xs ys in
    once (length xs + a) (length xs + b) d (omega (arith, o)) (omega (arith, w, l)) (at a d ∙ e ∙ sym (at b d))
  where
    at : (j d : ℕ) → get_or (xs ++ ys) (length xs + j) d ≡ get_or ys j d
    at j d = get_or-append_right xs ys (length xs) (length xs + j) d refl (omega arith) ∙ ap (λ k. get_or ys k d) (back (length xs) j)

pub once_left : (xs ys : List ℕ) → Once (xs ++ ys) → Once xs
once_left xs ys once = λ a b d o w e.
    let l : length (xs ++ ys) ≡ length xs + length ys = length-append xs ys in
    once a b d o (omega (arith, w, l)) (get_or-append xs ys d a (omega (arith, o, w)) ∙ e ∙ sym (get_or-append xs ys d b w))
