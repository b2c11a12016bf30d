-- What is kept between each subtask and those directly before it is kept for all that come before.
use Rattle.std.proofs.Common.{◌≡◌, ℕ, zero, suc, ◌<◌, ◌≤◌, ◌⊎◌, inl, inr, Bool, true, false, refl, sym, ◌∙◌, subst, arith, Contains}
use Rattle.std.proofs.lemmas.List.Elements.{All-contains}
use Rattle.hv_world.specs.Networks.{IsArrangeable}
use Rattle.hv_world.specs.Orders.{Written, IsPaired, IsDirect, one_step, more_steps, Before}
use Rattle.hv_order.proofs.Members.{not_true}

module _ (n : Written) (arrangeable : IsArrangeable n) where
  within : (i j : ℕ) → Contains n.pairs (i, j) → (i < n.len) × (j < n.len)
  within i j c = All-contains (λ (p : ℕ × ℕ). (p.0 < n.len) × (p.1 < n.len)) n.pairs (i, j) arrangeable.pairs c

  pub paired_within : (i j : ℕ) → IsPaired n i j → (i < n.len) × (j < n.len)
  paired_within i j (inl c) = within i j c
  paired_within i j (inr (ordered, less, lt)) = (omega (arith, less, lt), lt)

  pub before_within : (i j : ℕ) → Before n i j → i < n.len
  before_within i j (one_step p) = (paired_within i j p).0
  before_within i j (more_steps {k = k} p rest) = (paired_within i k p).0

  -- what stands directly before another comes before it
  pub direct_before : (i j : ℕ) → IsDirect n i j → Before n i j
  direct_before i j (inl (ordered, next, lt)) = one_step (inr (ordered, omega (arith, next), lt))
  direct_before i j (inr (loose, c)) = one_step (inl c)

  module _ (F S : ℕ → ℕ) (spans : (k : ℕ) → S k ≤ F k) (direct : (i j : ℕ) → j < n.len → IsDirect n i j → F i ≤ S j) where
    compare : (i j : ℕ) → (i < j) ⊎ (j ≤ i)
    compare i j = grind arith

    same_or : (i j : ℕ) → j ≤ i → (j ≡ i) ⊎ (j < i)
    same_or i j = grind arith

    -- in the ordered form, by steps of one
    steps : n.is_ordered ≡ true → (j i : ℕ) → i < j → j < n.len → F i ≤ S j
    steps ordered zero i less lt = absurd (omega (arith, less))
    steps ordered (suc j) i less lt = by (compare i j) (λ before. steps ordered j i before (omega (arith, lt)))
      where
        last : F j ≤ S (suc j)
        last = direct j (suc j) lt (inl (ordered, omega arith, lt))

        by : (i < j) ⊎ (j ≤ i) → (i < j → F i ≤ S j) → F i ≤ S (suc j)
        by (inl before) go = let a = go before in let b = spans j in omega (arith, a, b, last)
        by (inr past) go = let same : i ≡ j = omega (arith, past, less) in let P : ℕ → Type 0 = λ k. F k ≤ S (suc j) in subst P (sym same) last

    goes_on : n.is_ordered ≡ true → (i j : ℕ) → Contains n.pairs (i, j) → i < j
    goes_on ordered i j c = by (compare i j)
      where
        back : (j ≡ i) ⊎ (j < i) → i < j
        back (inl same) = absurd (arrangeable.acyclic (i, one_step (inl (let P : ℕ → Type 0 = λ k. Contains n.pairs (i, k) in subst P same c))))
        back (inr less) = absurd (arrangeable.acyclic (i, more_steps {k = j} (inl c) (one_step (inr (ordered, less, (within i j c).0)))))

        by : (i < j) ⊎ (j ≤ i) → i < j
        by (inl less) = less
        by (inr past) = back (same_or i j past)

    paired : (i j : ℕ) → IsPaired n i j → F i ≤ S j
    paired i j p = by n.is_ordered refl p
      where
        by : (b : Bool) → n.is_ordered ≡ b → IsPaired n i j → F i ≤ S j
        by true e (inl c) = steps e j i (goes_on e i j c) (within i j c).1
        by true e (inr (ordered, less, lt)) = steps e j i less lt
        by false e (inl c) = direct i j (within i j c).1 (inr (e, c))
        by false e (inr (ordered, less, lt)) = not_true (sym e ∙ ordered)

    pub chained : (i j : ℕ) → Before n i j → F i ≤ S j
    chained i j (one_step p) = paired i j p
    chained i j (more_steps {k = k} p rest) =
        let a = paired i k p in
        let b = chained k j rest in
        let c = spans k in
        omega (arith, a, b, c)
