-- Whether an object is of a type is decided.
use Rattle.std.proofs.Common.{◌≡◌, ◌≢◌, ℕ, ◌<◌, ◌⊎◌, inl, inr, Bool, true, false, nat_lt, List, [], ◌∷◌, Contains, ap, sym, subst, refl, arith, true≢false, ltb-true, ltb-false}
use Rattle.hv_lists.proofs.Numbers.{either}
use Rattle.hv_lists.proofs.Contained.{contains_first, in_tail, none_in_empty}
use Rattle.hv_world.specs.Orders.{written, IsPaired, one_step, more_steps, Before}
use Rattle.hv_world.specs.Types.{Typing, IsInRange, Reaches, same, up, Of}
use Rattle.hv_world.proofs.CycleLemmas.{before_is_decided}
use Rattle.hv_world.proofs.OrderLists.{contains_cases}

-- a chain of pairs from one type to another
module _ (parents : List (ℕ × ℕ)) (types : ℕ) where
  chain : {a t : ℕ} → Reaches parents a t → (a ≡ t) ⊎ Before (written types false parents) a t
  chain same = inl refl
  chain (up {a} {b} {c} first rest) = longer (chain rest) where
    longer : (b ≡ c) ⊎ Before (written types false parents) b c → (a ≡ c) ⊎ Before (written types false parents) a c
    longer (inl e) = inr (one_step (inl (subst (λ x. Contains parents (a, x)) e first)))
    longer (inr more) = inr (more_steps (inl first) more)

  paired : {a b : ℕ} → IsPaired (written types false parents) a b → Contains parents (a, b)
  paired (inl c) = c
  paired (inr q) = absurd (true≢false (sym q.0))

  reached : {a t : ℕ} → Before (written types false parents) a t → Reaches parents a t
  reached (one_step q) = up (paired q) same
  reached (more_steps q more) = up (paired q) (reached more)

module _ (w : Typing) (sound : IsInRange w) (o t : ℕ) where
  abbrev Rises : ℕ → Type 0
  Rises a = Reaches w.parents a t

  abbrev HasType : List (ℕ × ℕ) → Type 0
  HasType ps = (a : ℕ) × Contains ps (o, a) × Rises a

  rises : (a : ℕ) → Rises a ⊎ (Rises a → ⊥)
  rises a = by (either a t) (before_is_decided (written w.types false w.parents) sound.parents a t) where
    by : (a ≡ t) ⊎ (a ≢ t) → Before (written w.types false w.parents) a t ⊎ (Before (written w.types false w.parents) a t → ⊥) → Rises a ⊎ (Rises a → ⊥)
    by (inl e) d = inl (subst (λ x. Reaches w.parents a x) e same)
    by (inr n) (inl b) = inl (reached w.parents w.types b)
    by (inr n) (inr f) = inr (λ r. never (chain w.parents w.types r)) where
      never : (a ≡ t) ⊎ Before (written w.types false w.parents) a t → ⊥
      never (inl e) = n e
      never (inr b) = f b

  has_type : (ps : List (ℕ × ℕ)) → HasType ps ⊎ (HasType ps → ⊥)
  has_type [] = inr (λ h. none_in_empty (o, h.0) h.1)
  has_type ((x, a) ∷ ps) = by (either x o) (rises a) (has_type ps) where
    further : ((b : ℕ) → ◌≡◌ {A = ℕ × ℕ} (x, a) (o, b) → Rises b → ⊥) → HasType ps ⊎ (HasType ps → ⊥) → HasType ((x, a) ∷ ps) ⊎ (HasType ((x, a) ∷ ps) → ⊥)
    further never (inl h) = inl (h.0, in_tail (x, a) ps (o, h.0) h.1, h.2)
    further never (inr f) = inr (λ h. at h (contains_cases (x, a) (o, h.0) ps h.1)) where
      at : (h : HasType ((x, a) ∷ ps)) → (◌≡◌ {A = ℕ × ℕ} (x, a) (o, h.0)) ⊎ Contains ps (o, h.0) → ⊥
      at h (inl e) = never h.0 e h.2
      at h (inr c) = f (h.0, c, h.2)

    by : (x ≡ o) ⊎ (x ≢ o) → Rises a ⊎ (Rises a → ⊥) → HasType ps ⊎ (HasType ps → ⊥) → HasType ((x, a) ∷ ps) ⊎ (HasType ((x, a) ∷ ps) → ⊥)
    by (inl e) (inl r) more = inl (a, subst (λ y. Contains ((x, a) ∷ ps) (y, a)) e (contains_first (x, a) ps), r)
    by (inl e) (inr n) more = further (λ b same' r. n (subst Rises (sym (ap (λ (p : ℕ × ℕ). p.1) same')) r)) more
    by (inr n) d more = further (λ b same' r. n (ap (λ (p : ℕ × ℕ). p.0) same')) more

  below : (n m : ℕ) → (n < m) ⊎ (n < m → ⊥)
  below n m = by (nat_lt n m) refl where
    by : (b : Bool) → nat_lt n m ≡ b → (n < m) ⊎ (n < m → ⊥)
    by true e = inl (ltb-true n m e)
    by false e = let le = ltb-false n m e in inr (λ lt. omega (arith, le, lt))

  pub of_is_decided : Of w o t ⊎ (Of w o t → ⊥)
  of_is_decided = by (below o w.objects) (below t w.types) (either t 0) (has_type w.declared) where
    by : (o < w.objects) ⊎ (o < w.objects → ⊥) → (t < w.types) ⊎ (t < w.types → ⊥) → (t ≡ 0) ⊎ (t ≢ 0) → HasType w.declared ⊎ (HasType w.declared → ⊥) → Of w o t ⊎ (Of w o t → ⊥)
    by (inr n) d e f = inr (λ h. n h.0)
    by (inl a) (inr n) e f = inr (λ h. n h.1)
    by (inl a) (inl b) (inl z) f = inl (a, b, inl z)
    by (inl a) (inl b) (inr z) (inl h) = inl (a, b, inr h)
    by (inl a) (inl b) (inr z) (inr n) = inr (λ h. never h.2) where
      never : (t ≡ 0) ⊎ HasType w.declared → ⊥
      never (inl e) = z e
      never (inr h) = n h
