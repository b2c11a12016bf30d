-- Two numbers: which is less, and whether they are one.
use Rattle.std.proofs.Common.{◌≡◌, ◌≢◌, ◌<◌, ◌≤◌, ◌+◌, ◌⊎◌, inl, inr, ℕ, zero, suc, Bool, true, false, nat_eq, nat_lt, refl, sym, ap, ◌∙◌, arith, eqb-true, eq-eqb, ltb-true, ltb-false, true≢false}

pub data Compared (j k : ℕ) : Type 0 where
  less : j < k → Compared j k
  equal : j ≡ k → Compared j k
  more : k < j → Compared j k

pub compare : (j k : ℕ) → Compared j k
compare zero zero = equal refl
compare zero (suc k) = less (omega arith)
compare (suc j) zero = more (omega arith)
compare (suc j) (suc k) = next (compare j k) where
  next : Compared j k → Compared (suc j) (suc k)
  next (less h) = less (omega arith)
  next (equal e) = equal (ap suc e)
  next (more h) = more (omega arith)

pub either : (i j : ℕ) → (i ≡ j) ⊎ (i ≢ j)
either i j = by (nat_eq i j) refl where
  by : (b : Bool) → nat_eq i j ≡ b → (i ≡ j) ⊎ (i ≢ j)
  by true e = inl (eqb-true i j e)
  by false e = inr (λ q. true≢false (sym (eq-eqb i j q) ∙ e))

pub either_side : (i j : ℕ) → (i < j) ⊎ (j ≤ i)
either_side i j = by (nat_lt i j) refl where
  by : (b : Bool) → nat_lt i j ≡ b → (i < j) ⊎ (j ≤ i)
  by true e = inl (ltb-true i j e)
  by false e = inr (ltb-false i j e)

-- what is below the next number is below this one, or is it
pub below_next : (j k : ℕ) → j < k + 1 → (j < k) ⊎ (j ≡ k)
below_next j k lt = by (either_side j k) where
  by : (j < k) ⊎ (k ≤ j) → (j < k) ⊎ (j ≡ k)
  by (inl o) = inl o
  by (inr o) = inr (omega arith)
