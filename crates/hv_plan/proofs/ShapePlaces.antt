-- The places of ids.
use Rattle.std.proofs.Common.{◌≡◌, ◌+◌, ◌<◌, ◌≤◌, ◌⊎◌, inl, inr, ℕ, Bool, true, false, List, [], ◌∷◌, ◌++◌, Some, None, cond, nat_eq, nat_lt, position, refl, sym, ap, ◌∙◌, subst, arith, length, take, get_or, Contains, slice_index, eqb-true, eq-eqb, lt-ltb, ltb-true, ltb-false, not, suc, true≢false}
use Rattle.std.specs.Cmp.{nat_eq_equiv}
use Rattle.std.specs.List.{list_any, position_or_len}
use Rattle.std.proofs.lemmas.List.{take_more, length-take-le, get_or-take}
use Rattle.std.proofs.lemmas.List.Sums.{passes_at_first, fails_before_first, position_or_len_is}
use Rattle.std.proofs.lemmas.Map.Views.{list_any-from_Contains, Contains-from_any}
use Rattle.indexmap.specs.IndexSet.{insert_key}
use Rattle.hv_lists.specs.Lists.{Once}
use Rattle.hv_lists.proofs.Places.{stands_at, contained_at}
use Rattle.hv_lists.proofs.EachOnce.{once_at}
use Rattle.hv_lists.proofs.Numbers.{either_side}
use Rattle.hv_plan.specs.Ids.{place_of}
use Rattle.hv_plan.specs.inside.Shaping.{is_known}

-- an id that is among others, and one that is not
pub known_is : (ks ids : List ℕ) (k : ℕ) → is_known ks ids k ≡ true → Contains ks (slice_index ids k)
known_is ks ids k e = Contains-from_any {eq = nat_eq} (λ x y q. eqb-true x y q) (slice_index ids k) ks e

pub unknown_is : (ks ids : List ℕ) (k : ℕ) → is_known ks ids k ≡ false → Contains ks (slice_index ids k) → ⊥
unknown_is ks ids k e h = true≢false (sym (list_any-from_Contains nat_eq_equiv (slice_index ids k) ks h) ∙ e)

pub is_unknown : (ks ids : List ℕ) (k : ℕ) → (Contains ks (slice_index ids k) → ⊥) → is_known ks ids k ≡ false
is_unknown ks ids k n = by (is_known ks ids k) refl where
  by : (b : Bool) → is_known ks ids k ≡ b → is_known ks ids k ≡ false
  by true e = absurd (n (known_is ks ids k e))
  by false e = e

-- the step of a table of ids that stand once
pub table_next : (ids keys new : List ℕ) (i x : ℕ) → Once ids → i < length ids → x ≡ slice_index ids i → keys ≡ take i ids → new ≡ insert_key nat_eq keys x → new ≡ take (i + 1) ids
table_next ids keys new i x once w is so_far added =
    added ∙ ap (λ b. cond b keys (keys ++ x ∷ [])) absent ∙ (λ j. so_far j ++ is j ∷ []) ∙ sym (take_more ids i 0 w)
  where
    stands_before : Contains keys x → ⊥
    stands_before h0 =
        let P : List ℕ → Type 0 = λ ks. Contains ks x in
        let h : Contains (take i ids) x = subst P so_far h0 in
        let v : h.0 < length (take i ids) = h.1 in
        let l : length (take i ids) ≡ i = length-take-le i ids (omega (arith, w)) in
        let o : h.0 < i = omega (arith, v, l) in
        once_at ids once h.0 i o w (sym (get_or-take i ids h.0 0 o) ∙ stands_at (take i ids) x h ∙ is)

    absent : list_any (nat_eq x) keys ≡ false
    absent = by (list_any (nat_eq x) keys) refl where
      by : (b : Bool) → list_any (nat_eq x) keys ≡ b → list_any (nat_eq x) keys ≡ false
      by true e = absurd (stands_before (Contains-from_any {eq = nat_eq} (λ a b q. eqb-true a b q) x keys e))
      by false e = e

-- where `position` finds nothing, the place is behind the last
first_within : (p : ℕ → Bool) (xs : List ℕ) → position_or_len p xs ≤ length xs
first_within p [] = omega arith
first_within p (x ∷ xs) = by (p x) (first_within p xs) where
  by : (b : Bool) → position_or_len p xs ≤ length xs → cond (not b) (1 + position_or_len p xs) 0 ≤ suc (length xs)
  by true le = omega arith
  by false le = omega (arith, le)

pub no_position : (is : List ℕ) (i : ℕ) → position (nat_eq i) is ≡ None → length is ≡ place_of is i
no_position is i e = by (nat_lt (place_of is i) (length is)) refl where
  by : (b : Bool) → nat_lt (place_of is i) (length is) ≡ b → length is ≡ place_of is i
  by true t = absurd (some_not_none (sym (ap (λ b. cond b (Some (place_of is i)) None) t) ∙ e))
    where
      some_not_none : Some (place_of is i) ≡ None → ⊥
      some_not_none q = cc
  by false t =
      let le : place_of is i ≤ length is = first_within (nat_eq i) is in
      let ge : length is ≤ place_of is i = ltb-false (place_of is i) (length is) t in
      omega (arith, le, ge)

-- the place of an id that is there
pub place_within : (is : List ℕ) (i : ℕ) → Contains is i → place_of is i < length is
place_within is i h = by (either_side (place_of is i) (length is)) where
  by : (place_of is i < length is) ⊎ (length is ≤ place_of is i) → place_of is i < length is
  by (inl w) = w
  by (inr ge) =
      let v : h.0 < length is = h.1 in
      absurd (true≢false (sym (eq-eqb i (get_or is h.0 i) (sym h.2)) ∙ fails_before_first (nat_eq i) is h.0 i (omega (arith, v, ge))))

pub id_at_place : (is : List ℕ) (i : ℕ) → Contains is i → slice_index is (place_of is i) ≡ i
id_at_place is i h = sym (eqb-true i (slice_index is (place_of is i)) (passes_at_first (nat_eq i) is 0 (place_within is i h)))

-- the place of an id that is not there
pub absent_place : (is : List ℕ) (i : ℕ) → (Contains is i → ⊥) → place_of is i ≡ length is
absent_place is i n = by (either_side (place_of is i) (length is)) where
  by : (place_of is i < length is) ⊎ (length is ≤ place_of is i) → place_of is i ≡ length is
  by (inl w) = absurd (n (contained_at is (place_of is i) i w (sym (eqb-true i (slice_index is (place_of is i)) (passes_at_first (nat_eq i) is 0 w)))))
  by (inr ge) = let le : place_of is i ≤ length is = first_within (nat_eq i) is in omega (arith, le, ge)

nat_lt_self : (n : ℕ) → nat_lt n n ≡ false
nat_lt_self n = by (nat_lt n n) refl where
  by : (b : Bool) → nat_lt n n ≡ b → nat_lt n n ≡ false
  by true e = absurd (let lt : n < n = ltb-true n n e in omega (arith, lt))
  by false e = e

-- the place of an id is within where the id is there
pub within_known : (is : List ℕ) (i : ℕ) → nat_lt (place_of is i) (length is) ≡ list_any (nat_eq i) is
within_known is i = by (list_any (nat_eq i) is) refl
  where
    by : (b : Bool) → list_any (nat_eq i) is ≡ b → nat_lt (place_of is i) (length is) ≡ list_any (nat_eq i) is
    by true e = lt-ltb (place_of is i) (length is) (place_within is i (Contains-from_any {eq = nat_eq} (λ x y q. eqb-true x y q) i is e)) ∙ sym e
    by false e = ap (λ n. nat_lt n (length is)) (absent_place is i (λ h. true≢false (sym (list_any-from_Contains nat_eq_equiv i is h) ∙ e))) ∙ nat_lt_self (length is) ∙ sym e

pub place_is : (is : List ℕ) (k i : ℕ) → Once is → k < length is → slice_index is k ≡ i → place_of is i ≡ k
place_is is k i once w e = position_or_len_is (nat_eq i) is k 0 (omega (arith, w)) (λ j o. before j o) (λ _. eq-eqb i (slice_index is k) (sym e))
  where
    before : (j : ℕ) → j < k → nat_eq i (slice_index is j) ≡ false
    before j o = by (nat_eq i (slice_index is j)) refl where
      by : (b : Bool) → nat_eq i (slice_index is j) ≡ b → nat_eq i (slice_index is j) ≡ false
      by true t = absurd (once_at is once j k o w (sym (eqb-true i (slice_index is j) t) ∙ sym e))
      by false t = t
