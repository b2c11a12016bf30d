-- What a matching and a binding amount to: orders and truth are decided, so there are tests for them.
use Rattle.std.proofs.Common.{◌≡◌, ℕ, zero, suc, ◌<◌, ◌≤◌, Bool, true, false, ◌↔◌, refl, arith, inl, inr, ◌⊎◌}
use Rattle.std.proofs.lemmas.Bool.{cases_lt}
use Rattle.hv_plan.specs.Trees.{Item}
use Rattle.hv_order.specs.Meanings.{Meaning}
use Rattle.hv_order.specs.StandIns.{Comes, StandsFor}
use Rattle.hv_order.proofs.Members.{same_item, not_true}

-- a test for what is decided
pub is_yes : {P : Type 0} → P ⊎ (P → ⊥) → Bool
is_yes (inl p) = true
is_yes (inr n) = false

pub yes_tells : {P : Type 0} (d : P ⊎ (P → ⊥)) → (is_yes d ≡ true) ↔ P
unfolding is_yes
yes_tells (inl p) = (λ e. p, λ q. refl)
yes_tells (inr n) = (λ e. not_true e, λ q. absurd (n q))

pub both_decided : {P Q : Type 0} → P ⊎ (P → ⊥) → Q ⊎ (Q → ⊥) → (P × Q) ⊎ (P × Q → ⊥)
both_decided (inl p) (inl q) = inl (p, q)
both_decided (inl p) (inr n) = inr (λ h. n h.1)
both_decided (inr n) d = inr (λ h. n h.0)

-- a number below k has the property
abbrev SomeBelow : (ℕ → Type 0) → ℕ → Type 0
SomeBelow P k = (i : ℕ) × (i < k) × P i

none_more : (P : ℕ → Type 0) (k : ℕ) → (P k → ⊥) → (SomeBelow P k → ⊥) → (i : ℕ) → i < suc k → P i → (i < k) ⊎ (k ≤ i) → (i ≡ k → P i → P k) → ⊥
none_more P k here below i lt p (inl less) move = below (i, less, p)
none_more P k here below i lt p (inr more) move = here (move (omega arith) p)

pub some_below : (P : ℕ → Type 0) → ((i : ℕ) → P i ⊎ (P i → ⊥)) → (k : ℕ) → SomeBelow P k ⊎ (SomeBelow P k → ⊥)
some_below P decide zero = inr (λ h. let lt : h.0 < 0 = h.1 in omega (arith, lt))
some_below P decide (suc k) = by (decide k) (some_below P decide k)
  where
    move : (i : ℕ) → i ≡ k → P i → P k
    move i e p = rw e at p

    by : P k ⊎ (P k → ⊥) → SomeBelow P k ⊎ (SomeBelow P k → ⊥) → SomeBelow P (suc k) ⊎ (SomeBelow P (suc k) → ⊥)
    by (inl p) below = inl (k, omega arith, p)
    by (inr here) (inl (i, less, p)) = inl (i, omega arith, p)
    by (inr here) (inr below) = inr (λ h. none_more P k here below h.0 h.1 h.2 (cases_lt h.0 k) (move h.0))

module _ (k : ℕ) (child : ℕ → Item) (Before : ℕ → ℕ → Type 0) (decided : (i j : ℕ) → Before i j ⊎ (Before i j → ⊥)) where
  -- the subtask stands for y, and i comes before it
  abbrev IsSecond : Item → ℕ → ℕ → Type 0
  IsSecond y i j = (child j ≡ y) × Before i j

  abbrev IsFirst : Item → Item → ℕ → Type 0
  IsFirst x y i = (child i ≡ x) × SomeBelow (IsSecond y i) k

  second_decided : (y : Item) (i j : ℕ) → IsSecond y i j ⊎ (IsSecond y i j → ⊥)
  second_decided y i j = both_decided (same_item (child j) y) (decided i j)

  first_decided : (x y : Item) (i : ℕ) → IsFirst x y i ⊎ (IsFirst x y i → ⊥)
  first_decided x y i = both_decided (same_item (child i) x) (some_below (IsSecond y i) (second_decided y i) k)

  comes_from : (x y : Item) → SomeBelow (IsFirst x y) k → Comes k child Before x y
  comes_from x y (i, in_i, (e, (j, in_j, (f, b)))) = record { first = i; second = j; first_is = in_i; second_is = in_j; of_first = e; of_second = f; before = b }

  comes_to : (x y : Item) → Comes k child Before x y → SomeBelow (IsFirst x y) k
  comes_to x y c = (c.first, c.first_is, (c.of_first, (c.second, c.second_is, (c.of_second, c.before))))

  comes_decided : (x y : Item) → Comes k child Before x y ⊎ (Comes k child Before x y → ⊥)
  comes_decided x y = by (some_below (IsFirst x y) (first_decided x y) k)
    where
      by : SomeBelow (IsFirst x y) k ⊎ (SomeBelow (IsFirst x y) k → ⊥) → Comes k child Before x y ⊎ (Comes k child Before x y → ⊥)
      by (inl some) = inl (comes_from x y some)
      by (inr none) = inr (λ c. none (comes_to x y c))

  pub meaning_of : (TrueAt : ℕ → Type 0) → ((m : ℕ) → TrueAt m ⊎ (TrueAt m → ⊥)) → (c : Meaning) × StandsFor k child Before TrueAt c
  meaning_of TrueAt truth = (
    record { before = λ x y. is_yes (comes_decided x y); true_at = λ m. is_yes (truth m) },
    record { before = λ x y. yes_tells (comes_decided x y); true_at = λ m. yes_tells (truth m) },
  )
