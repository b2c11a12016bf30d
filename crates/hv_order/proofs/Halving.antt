-- Halving takes at most as many steps as a number has binary digits.
use Rattle.std.proofs.Common.{◌≡◌, ℕ, zero, suc, ◌+◌, ◌-◌, ◌/◌, ◌≤◌, ◌<◌, ◌⊎◌, List, length, None, subst, inl, inr, arith}
use Rattle.std.proofs.lemmas.Bool.{cases_lt}
use Rattle.hv_order.specs.LeastFinishes.{HasDigits}
use Rattle.hv_order.specs.inside.Runs.{AreBefore, Reaches, IsPlace}
use Rattle.hv_order.specs.declared.trial.Run.{Run}

pub more_digits : (k m m' : ℕ) → m ≤ m' → HasDigits m k → HasDigits m' k
more_digits zero m m' le has = tt
more_digits (suc k) m m' le has = let one = has.0 in (omega arith, more_digits k (m / 2) (m' / 2) (omega arith) has.1)

-- one step leaves at most half
pub one_step : (w w' whole looked k : ℕ) → 1 ≤ w → w' ≤ w / 2 → ((j : ℕ) → HasDigits w j → HasDigits whole (looked + j)) → HasDigits w' k → HasDigits whole (looked + 1 + k)
one_step w w' whole looked k one half far has =
    let e : looked + suc k ≡ looked + 1 + k = omega arith in
    let P : ℕ → Type 0 = λ j. HasDigits whole j in
    subst P e (far (suc k) (one, more_digits k w' (w / 2) half has))

-- so many steps are at most as many as there were numbers
pub digits_below : (k m : ℕ) → HasDigits m k → k ≤ m
digits_below zero m has = omega arith
digits_below (suc k) m has = let one = has.0 in let a = digits_below k (m / 2) has.1 in omega arith

abbrev double : ℕ → ℕ
double zero = 1
double (suc b) = double b + double b

few_digits : (b k m : ℕ) → m < double b → HasDigits m k → k ≤ b
few_digits b zero m lt has = omega arith
few_digits zero (suc k) m lt has = let one = has.0 in let none : m < 1 = lt in absurd (omega arith)
few_digits (suc b) (suc k) m lt has = let half : m < double b + double b = lt in let a = few_digits b k (m / 2) (omega arith) has.1 in omega arith

pub fits_in_bits : (k m : ℕ) → m < 18446744073709551616 → HasDigits m k → k ≤ 64
fits_in_bits k m lt has = few_digits 64 k m lt has

-- where nothing is left between the bounds, the run is found
pub found : (runs : List Run) (start low high looked : ℕ) → 0 < length runs → Reaches runs (length runs - 1) start → low ≤ high → high ≤ low → high ≤ length runs → AreBefore runs low start → (high < length runs → Reaches runs high start) → HasDigits (length runs) looked → (looked ≡ 0 → length runs ≤ high - low) → IsPlace runs start (record { at = low; looked = looked })
found runs start low high looked some end le ge within behind here digits begun =
    let lt : low < length runs = inside (cases_lt low (length runs)) in
    let e : high ≡ low = omega arith in
    let P : ℕ → Type 0 = λ i. Reaches runs i start in
    record {
      within = lt;
      behind = behind;
      here = subst P e (here (omega arith));
      few = record { one = begins (cases_lt 0 looked); few = digits };
    }
  where
    inside : (low < length runs) ⊎ (length runs ≤ low) → low < length runs
    inside (inl a) = a
    inside (inr a) =
        let d : Run = record { last = 0; finish = None } in
        let b = behind (length runs - 1) d (omega arith) in
        let e = end d in
        absurd (omega arith)

    begins : (0 < looked) ⊎ (looked ≤ 0) → 1 ≤ looked
    begins (inl a) = omega arith
    begins (inr a) = let b = begun (omega arith) in absurd (omega arith)
