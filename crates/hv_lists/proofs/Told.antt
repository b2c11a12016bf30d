-- Tables that tell of each byte whether something is so of it: 1 where it is, and else 0.
use Rattle.std.proofs.Common.{◌≡◌, ℕ, zero, suc, ◌+◌, ◌<◌, Bool, true, false, nat_eq, List, [], ◌∷◌, get_or, refl, ap, ◌∙◌, arith}

abbrev pub told : Bool → ℕ
told true = 1
told false = 0

-- what is told of n bytes, the first of them b
abbrev pub told_from : (ℕ → Bool) → ℕ → ℕ → List ℕ
told_from is b zero = []
told_from is b (suc n) = told (is b) ∷ told_from is (b + 1) n

told_at : (is : ℕ → Bool) (b n k : ℕ) → k < n → get_or (told_from is b n) k 0 ≡ told (is (b + k))
told_at is b zero k lt = absurd (omega (arith, lt))
told_at is b (suc n) zero lt = let same : b ≡ b + 0 = omega arith in ap (λ x. told (is x)) same
told_at is b (suc n) (suc k) lt =
    let same : b + 1 + k ≡ b + suc k = omega arith in
    told_at is (b + 1) n k (omega (arith, lt)) ∙ ap (λ x. told (is x)) same

one_is : (b : Bool) → nat_eq (told b) 1 ≡ b
one_is true = refl
one_is false = refl

-- a table of all bytes tells what it is made of
pub byte_told : (is : ℕ → Bool) (b : ℕ) → b < 256 → nat_eq (get_or (told_from is 0 256) b 0) 1 ≡ is b
byte_told is b lt =
    let same : 0 + b ≡ b = omega arith in
    ap (λ x. nat_eq x 1) (told_at is 0 256 b lt) ∙ one_is (is (0 + b)) ∙ ap is same
