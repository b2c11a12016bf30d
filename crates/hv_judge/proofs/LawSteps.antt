-- Verdicts that are found step by step: each step answers, or leaves the answer to those behind it.
-- Where no step both answers and goes on, and each says one thing, all of them together say one
-- thing.
use Rattle.std.proofs.Common.{◌≡◌, ◌⊎◌, inl, inr, Option, Some, MatchOption, sym, ◌∙◌, subst}
use Rattle.hv_answer.specs.declared.answer.Verdict.{Verdict}

-- the step answers, or it passes and the rest answers
abbrev pub Turn : Type 0 → (Verdict → Type 0) → (Verdict → Type 0) → Verdict → Type 0
Turn Passed Stops Rest a = Stops a ⊎ (Passed × Rest a)

module _ (Passed : Type 0) (Stops : Verdict → Type 0) (Rest : Verdict → Type 0)
    (apart : (a : Verdict) → Stops a → Passed → ⊥)
    (alike : (a b : Verdict) → Stops a → Stops b → a ≡ b)
    (on : (a b : Verdict) → Rest a → Rest b → a ≡ b) where
  pub one_turn : (a b : Verdict) → Turn Passed Stops Rest a → Turn Passed Stops Rest b
      → a ≡ b
  one_turn a b (inl s) (inl r) = alike a b s r
  one_turn a b (inl s) (inr (passed, more)) = absurd (apart a s passed)
  one_turn a b (inr (passed, rest)) (inl s) = absurd (apart b s passed)
  one_turn a b (inr (passed, rest)) (inr (again, more)) = on a b rest more

-- the step answers, or it finds a value and the rest answers by it
abbrev pub Step : (V : Type 0) → (V → Type 0) → (Verdict → Type 0) → (V → Verdict → Type 0) → Verdict
    → Type 0
Step V Found Stops Rest a = Stops a ⊎ ((v : V) × Found v × Rest v a)

module _ (V : Type 0) (Found : V → Type 0) (Stops : Verdict → Type 0) (Rest : V → Verdict → Type 0)
    (one : (v u : V) → Found v → Found u → v ≡ u)
    (apart : (a : Verdict) (v : V) → Stops a → Found v → ⊥)
    (alike : (a b : Verdict) → Stops a → Stops b → a ≡ b)
    (on : (v : V) (a b : Verdict) → Found v → Rest v a → Rest v b → a ≡ b) where
  pub one_step : (a b : Verdict) → Step V Found Stops Rest a → Step V Found Stops Rest b
      → a ≡ b
  one_step a b (inl s) (inl r) = alike a b s r
  one_step a b (inl s) (inr (v, found, rest)) = absurd (apart a v s found)
  one_step a b (inr (v, found, rest)) (inl s) = absurd (apart b v s found)
  one_step a b (inr (v, found, rest)) (inr (u, other, more)) =
      on v a b found rest (subst (λ (x : V). Rest x b) (sym (one v u found other)) more)

-- what is there is one thing
pub one_there : {A : Type 0} (o : Option A) (x y : A) → o ≡ Some x → o ≡ Some y → x ≡ y
one_there o x y e f = let both : Some x ≡ Some y = sym e ∙ f in cc

-- what is there has what is asked of it
pub at_there : {A : Type 0} (P : A → Type 0) (o : Option A) (x : A) → o ≡ Some x → P x
    → MatchOption o ⊥ P
at_there P o x e h = subst (λ y. MatchOption y ⊥ P) (sym e) h
