-- Where comments are.
use Rattle.std.proofs.Common.{◌≡◌, ◌<◌, ◌≤◌, ◌⊎◌, inl, inr, ℕ, zero, suc, Bool, true, false, List, [], ◌∷◌, Some, length, refl, ap, ◌∙◌, arith, ◌==◌, if◌then◌else◌}
use Rattle.std.specs.Prelude.{slice_get}
use Rattle.std.proofs.lemmas.Option.{same_Some}
use Rattle.std.proofs.lemmas.Grind.{common_steps}
use Rattle.hv_text.specs.Words.{in_comment, uncommented}
use Rattle.hv_text.specs.Runs.{IsInComment}

-- whether the k-th of these bytes is in a comment, where `before` says it of the byte before the first
abbrev commented : Bool → List ℕ → ℕ → Bool
commented before [] k = false
commented before (b ∷ bs) zero = in_comment before b
commented before (b ∷ bs) (suc k) = commented (in_comment before b) bs k

shown_by : (b : ℕ) (c : Bool) → Some (if c then 32 else b) ≡ (if c then Some 32 else Some b)
shown_by b true = refl
shown_by b false = refl

shown : (bs : List ℕ) (before : Bool) (k : ℕ) → slice_get (uncommented before bs) k ≡ (if commented before bs k then Some 32 else slice_get bs k)
shown [] before k = refl
shown (b ∷ bs) before zero = shown_by b (in_comment before b)
shown (b ∷ bs) before (suc k) = shown bs (in_comment before b) k

-- no line ends from the first of these bytes up to the k-th
abbrev OneLine : List ℕ → ℕ → Type 0
OneLine bs k = (j : ℕ) → j ≤ k → ¬ (slice_get bs j ≡ Some 10)

one_line_more : (b : ℕ) (bs : List ℕ) (k : ℕ) → (b ≡ 10 → ⊥) → OneLine bs k → OneLine (b ∷ bs) (suc k)
one_line_more b bs k h l zero a e = h (same_Some b 10 e)
one_line_more b bs k h l (suc j) a e = l j (omega arith) e

one_line_less : (b : ℕ) (bs : List ℕ) (k : ℕ) → OneLine (b ∷ bs) (suc k) → OneLine bs k
one_line_less b bs k l j a e = l (suc j) (omega arith) e

one_line_first : (b : ℕ) (bs : List ℕ) → (b ≡ 10 → ⊥) → OneLine (b ∷ bs) zero
one_line_first b bs h zero a e = h (same_Some b 10 e)
one_line_first b bs h (suc j) a e = absurd (omega arith)

-- in a comment that begins before these bytes
abbrev GoesOn : Bool → List ℕ → ℕ → Type 0
GoesOn before bs k = (before ≡ true) × (k < length bs) × OneLine bs k

in_comment_cases : (before : Bool) (b : ℕ) → in_comment before b ≡ true → (b ≡ 10 → ⊥) × ((b ≡ 59) ⊎ (before ≡ true))
in_comment_cases true b e = ((λ h. line_end h), inr refl)
  where
    line_end : b ≡ 10 → ⊥
    line_end h = let z : in_comment true 10 ≡ true = rw h at e in cc
in_comment_cases false b e = ((λ h. line_end h), inl (grind (arith, common_steps)))
  where
    line_end : b ≡ 10 → ⊥
    line_end h = let z : in_comment false 10 ≡ true = rw h at e in cc

no_line_end : (b : ℕ) → (b ≡ 10 → ⊥) → (b == 10) ≡ false
no_line_end b h = grind (arith, common_steps)

goes_on : (b : ℕ) → (b ≡ 10 → ⊥) → in_comment true b ≡ true
goes_on b h = rw (no_line_end b h) refl

begins_comment : (before : Bool) (b : ℕ) → b ≡ 59 → in_comment before b ≡ true
begins_comment true b e = rw e refl
begins_comment false b e = rw e refl

later : (b : ℕ) (bs : List ℕ) (k : ℕ) → IsInComment bs k → IsInComment (b ∷ bs) (suc k)
later b bs k c = record {
  start = suc c.start;
  before = omega (arith, c.before);
  within = omega (arith, c.within);
  semicolon = c.semicolon;
  same_line = line;
}
  where
    line : (j : ℕ) → suc c.start ≤ j → j ≤ suc k → ¬ (slice_get (b ∷ bs) j ≡ Some 10)
    line zero p q e = absurd (omega arith)
    line (suc j) p q e = c.same_line j (omega arith) (omega arith) e

from_first : (b : ℕ) (bs : List ℕ) (k : ℕ) → b ≡ 59 → k < length (b ∷ bs) → OneLine (b ∷ bs) k → IsInComment (b ∷ bs) k
from_first b bs k e l o = record { start = 0; before = omega arith; within = l; semicolon = ap Some e; same_line = λ j p q. o j q }

is_commented : (bs : List ℕ) (before : Bool) (k : ℕ) → commented before bs k ≡ true → IsInComment bs k ⊎ GoesOn before bs k
is_commented [] before k e = cc
is_commented (b ∷ bs) before zero e =
    let w = in_comment_cases before b e in
    elim w.1 [
      | inl s ↦ inl (from_first b bs zero s (omega arith) (one_line_first b bs w.0))
      | inr g ↦ inr (g, omega arith, one_line_first b bs w.0)
    ]
is_commented (b ∷ bs) before (suc k) e = elim (is_commented bs (in_comment before b) k e) [
  | inl c ↦ inl (later b bs k c)
  | inr g ↦ let w = in_comment_cases before b g.0 in
      let o = one_line_more b bs k w.0 g.2 in
      elim w.1 [
        | inl s ↦ inl (from_first b bs (suc k) s (omega (arith, g.1)) o)
        | inr f ↦ inr (f, omega (arith, g.1), o)
      ]
]

from_open : (bs : List ℕ) (k : ℕ) → k < length bs → OneLine bs k → commented true bs k ≡ true
from_open [] k l o = absurd (omega arith)
from_open (b ∷ bs) zero l o = goes_on b (λ e. o zero (omega arith) (ap Some e))
from_open (b ∷ bs) (suc k) l o =
    rw (goes_on b (λ e. o zero (omega arith) (ap Some e))) (from_open bs k (omega arith) (one_line_less b bs k o))

from_comment : (bs : List ℕ) (before : Bool) (start k : ℕ) → start ≤ k → k < length bs → slice_get bs start ≡ Some 59
    → ((j : ℕ) → start ≤ j → j ≤ k → ¬ (slice_get bs j ≡ Some 10)) → commented before bs k ≡ true
from_comment [] before start k p l s o = absurd (omega arith)
from_comment (b ∷ bs) before zero zero p l s o = begins_comment before b (same_Some b 59 s)
from_comment (b ∷ bs) before zero (suc k) p l s o =
    rw (begins_comment before b (same_Some b 59 s)) (from_open bs k (omega arith) (λ j q e. o (suc j) (omega arith) (omega arith) e))
from_comment (b ∷ bs) before (suc i) zero p l s o = absurd (omega arith)
from_comment (b ∷ bs) before (suc i) (suc k) p l s o =
    from_comment bs (in_comment before b) i k (omega arith) (omega arith) s (λ j q r e. o (suc j) (omega arith) (omega arith) e)

-- a comment is blank in the text without comments
pub blank_there : (text : List ℕ) (k : ℕ) → IsInComment text k → slice_get (uncommented false text) k ≡ Some 32
blank_there text k c =
    shown text false k ∙ (rw (from_comment text false c.start k c.before c.within c.semicolon c.same_line) refl)

not_open : (bs : List ℕ) (k : ℕ) → GoesOn false bs k → ⊥
not_open bs k g = cc g.0

-- and elsewhere that is the text
pub same_there : (text : List ℕ) (k : ℕ) → ¬ IsInComment text k → slice_get (uncommented false text) k ≡ slice_get text k
same_there text k h = by_test (commented false text k) refl
  where
    by_test : (c : Bool) → commented false text k ≡ c → slice_get (uncommented false text) k ≡ slice_get text k
    by_test true e = elim (is_commented text false k e) [ inl c ↦ absurd (h c) | inr g ↦ absurd (not_open text k g) ]
    by_test false e = shown text false k ∙ (rw e refl)
