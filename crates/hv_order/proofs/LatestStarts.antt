-- The last state in which all children can still begin, child by child.
use Rattle.std.proofs.Common.{◌≡◌, ℕ, ◌+◌, ◌<◌, ◌≤◌, ◌⊎◌, inl, inr, ◌∙◌, List, length, sym, subst, arith, min}
use Rattle.std.proofs.lemmas.Bool.{cases_lt}
use Rattle.hv_plan.specs.declared.tree.Child.{Child}
use Rattle.hv_plan.specs.declared.tree.Child.TheVariants as children
use Rattle.hv_order.specs.inside.Children.{child_at, IsLatestStart}

-- so far as the first i children say
pub record IsLatestSoFar (cs : List Child) (cap i latest : ℕ) : Type 0 where
  pub within : latest ≤ cap
  pub serves : (j k : ℕ) → j < i → child_at cs j ≡ children.Action k → latest ≤ k
  pub bound : (s : ℕ) → s ≤ cap → ((j k : ℕ) → j < i → child_at cs j ≡ children.Action k → s ≤ k) → s ≤ latest

pub none_looked : (cs : List Child) (cap : ℕ) → IsLatestSoFar cs cap 0 cap
none_looked cs cap = record { within = omega arith; serves = λ j k lt e. absurd (omega (arith, lt)); bound = λ s le begins. le }

-- the child at i is none of those before it
up_to : (i j : ℕ) (P : ℕ → Type 0) → (j < i) ⊎ (i ≤ j) → j < i + 1 → (j < i → P j) → P i → P j
up_to i j P (inl before) lt earlier here = earlier before
up_to i j P (inr behind) lt earlier here = let same : i ≡ j = omega (arith, behind, lt) in subst P same here

same_action : (k l : ℕ) → children.Action k ≡ children.Action l → k ≡ l
same_action k l e = cc

no_action : (v k : ℕ) → children.Node v ≡ children.Action k → ⊥
no_action v k e = cc

pub action_looked : (cs : List Child) (cap i latest latest' k : ℕ) → IsLatestSoFar cs cap i latest → child_at cs i ≡ children.Action k → latest' ≤ latest → latest' ≤ k → ((s : ℕ) → s ≤ latest → s ≤ k → s ≤ latest') → IsLatestSoFar cs cap (i + 1) latest'
action_looked cs cap i latest latest' k is child less under most = record {
  within = (let a = is.within in omega (arith, a, less));
  serves = λ j l lt e. up_to i j (λ j. child_at cs j ≡ children.Action l → latest' ≤ l) (cases_lt j i) lt (λ before e. (let a = is.serves j l before e in omega (arith, a, less))) (λ e. subst (λ l. latest' ≤ l) (same_action k l (sym child ∙ e)) under) e;
  bound = λ s le begins. most s (is.bound s le (λ j l lt e. begins j l (omega (arith, lt)) e)) (begins i k (omega arith) child);
}

pub node_looked : (cs : List Child) (cap i latest v : ℕ) → IsLatestSoFar cs cap i latest → child_at cs i ≡ children.Node v → IsLatestSoFar cs cap (i + 1) latest
node_looked cs cap i latest v is child = record {
  within = is.within;
  serves = λ j l lt e. up_to i j (λ j. child_at cs j ≡ children.Action l → latest ≤ l) (cases_lt j i) lt (λ before. is.serves j l before) (λ e. absurd (no_action v l (sym child ∙ e))) e;
  bound = λ s le begins. is.bound s le (λ j l lt e. begins j l (omega (arith, lt)) e);
}

pub all_looked : (cs : List Child) (cap i latest : ℕ) → IsLatestSoFar cs cap i latest → i ≤ length cs → length cs ≤ i → IsLatestStart cs cap latest
all_looked cs cap i latest is within all = record {
  within = is.within;
  serves = λ j k lt e. is.serves j k (omega (arith, lt, all)) e;
  bound = λ s le begins. is.bound s le (λ j k lt e. begins j k (omega (arith, lt, within)) e);
}

-- the less of two
pub min_first : (a b : ℕ) → min a b ≤ a
min_first a b = omega arith

pub min_second : (a b : ℕ) → min a b ≤ b
min_second a b = omega arith

pub under_both : (a b s : ℕ) → s ≤ a → s ≤ b → s ≤ min a b
under_both a b s le le' = omega (arith, le, le')
