-- The cycles that are found are the cycles of an order.
use Rattle.std.proofs.Common.{◌≡◌, ℕ, zero, suc, ◌+◌, ◌<◌, ◌⊎◌, inl, inr, ⊎_elim, Bool, true, false, ◌&&◌, List, length, nat_eq, nat_lt, refl, sym, ap₂, ◌∙◌, subst, arith, true≢false}
use Rattle.std.specs.List.{list_any, range_with_len, Contains, All, slice_index_or}
use Rattle.std.proofs.lemmas.List.FromFn.{get_or-range_with_len, length-range_with_len}
use Rattle.std.proofs.lemmas.List.Folds.{Any-from_list_any, list_any-from_Any}
use Rattle.std.proofs.lemmas.Bool.{cases_eq, eqb-true, eq-eqb, ltb-true, lt-ltb}
use Rattle.hv_lists.proofs.Bools.{both_true, or_cases, or_left, or_right, and_both}
use Rattle.hv_world.specs.Orders.{Written, IsPaired, one_step, more_steps, Before, IsCyclic}
use Rattle.hv_world.specs.Cycles.{is_pair, is_paired, leads, is_cyclic}

plain : (i : ℕ) → 0 + i ≡ i
plain i = omega arith

last_or_less : (m k : ℕ) → m < suc k → (m ≡ k) ⊎ (m < k)
last_or_less m k lt = elim (cases_eq m k) [ inl e ↦ inl e | inr other ↦ inr (omega (arith, other, lt)) ]

same_pair : (i j : ℕ) (p : ℕ × ℕ) → is_pair i j p ≡ true → p ≡ (i, j)
same_pair i j p e = let f = both_true (nat_eq p.0 i) (nat_eq p.1 j) e in ap₂ (λ a b. (a, b)) (eqb-true p.0 i f.0) (eqb-true p.1 j f.1)

pair_found : (i j : ℕ) (ps : List (ℕ × ℕ)) → list_any (is_pair i j) ps ≡ true → Contains ps (i, j)
pair_found i j ps e =
    let a = Any-from_list_any (is_pair i j) ps e in
    (a.0, a.2, subst (λ p. slice_index_or ps a.0 p ≡ p) (same_pair i j a.1 a.4) a.3)

pair_there : (i j : ℕ) (ps : List (ℕ × ℕ)) → Contains ps (i, j) → list_any (is_pair i j) ps ≡ true
pair_there i j ps c = list_any-from_Any (is_pair i j) ps (c.0, (i, j), c.1, c.2, and_both (nat_eq i i) (nat_eq j j) (eq-eqb i i refl) (eq-eqb j j refl))

module _ (n : Written) where
  paired : (i j : ℕ) → is_paired n i j ≡ true → IsPaired n i j
  paired i j e =
      ⊎_elim
      (λ f. inl (pair_found i j n.pairs f))
      (λ f.
      let g = both_true (n.is_ordered && nat_lt i j) (nat_lt j n.len) f in
      let h = both_true n.is_ordered (nat_lt i j) g.0 in
      inr (h.0, ltb-true i j h.1, ltb-true j n.len g.1))
      (or_cases (list_any (is_pair i j) n.pairs) (n.is_ordered && nat_lt i j && nat_lt j n.len) e)

  is_there : (i j : ℕ) → IsPaired n i j → is_paired n i j ≡ true
  is_there i j p =
      ⊎_elim
      (λ c. or_left (list_any (is_pair i j) n.pairs) _ (pair_there i j n.pairs c))
      (λ o. or_right (list_any (is_pair i j) n.pairs) _ (and_both (n.is_ordered && nat_lt i j) (nat_lt j n.len) (and_both n.is_ordered (nat_lt i j) o.0 (lt-ltb i j o.1)) (lt-ltb j n.len o.2)))
      p

  joined : {i k j : ℕ} → Before n i k → Before n k j → Before n i j
  joined (one_step p) r = more_steps p r
  joined (more_steps p q) r = more_steps p (joined q r)

  -- what the test says leads on does
  sound : (k i j : ℕ) → leads n k i j ≡ true → Before n i j
  sound zero i j e = one_step (paired i j e)
  sound (suc k) i j e =
      ⊎_elim
      (λ f. sound k i j f)
      (λ f. let g = both_true (leads n k i k) (leads n k k j) f in joined (sound k i k g.0) (sound k k j g.1))
      (or_cases (leads n k i j) (leads n k i k && leads n k k j) e)

  further : (k i j : ℕ) → leads n k i j ≡ true → leads n (suc k) i j ≡ true
  further k i j e = or_left (leads n k i j) _ e

  through : (k i j : ℕ) → leads n k i k ≡ true → leads n k k j ≡ true → leads n (suc k) i j ≡ true
  through k i j e f = or_right (leads n k i j) _ (and_both (leads n k i k) (leads n k k j) e f)

  -- the k-th is not needed between where it is an end
  to_last : (k i : ℕ) → leads n (suc k) i k ≡ true → leads n k i k ≡ true
  to_last k i e = ⊎_elim (λ f. f) (λ f. (both_true (leads n k i k) (leads n k k k) f).0) (or_cases (leads n k i k) (leads n k i k && leads n k k k) e)

  from_last : (k j : ℕ) → leads n (suc k) k j ≡ true → leads n k k j ≡ true
  from_last k j e = ⊎_elim (λ f. f) (λ f. (both_true (leads n k k k) (leads n k k j) f).1) (or_cases (leads n k k j) (leads n k k k && leads n k k j) e)

  -- a stop below k is allowed
  stopped : (k i m j : ℕ) → m < k → leads n k i m ≡ true → leads n k m j ≡ true → leads n k i j ≡ true
  stopped zero i m j lt e f = absurd (omega arith)
  stopped (suc k) i m j lt e f =
      let last : m ≡ k → leads n (suc k) i j ≡ true =
      λ same. through k i j (to_last k i (subst (λ x. leads n (suc k) i x ≡ true) same e)) (from_last k j (subst (λ x. leads n (suc k) x j ≡ true) same f)) in
      let inner : m < k → leads n (suc k) i j ≡ true =
      λ less.
      ⊎_elim
      (λ a.
      ⊎_elim
      (λ b. further k i j (stopped k i m j less a b))
      (λ b. let c = both_true (leads n k m k) (leads n k k j) b in through k i j (stopped k i m k less a c.0) c.1)
      (or_cases (leads n k m j) (leads n k m k && leads n k k j) f))
      (λ a.
      let d = both_true (leads n k i k) (leads n k k m) a in
      ⊎_elim
      (λ b. through k i j d.0 (stopped k k m j less d.1 b))
      (λ b. let c = both_true (leads n k m k) (leads n k k j) b in through k i j d.0 c.1)
      (or_cases (leads n k m j) (leads n k m k && leads n k k j) f))
      (or_cases (leads n k i m) (leads n k i k && leads n k k m) e) in
      ⊎_elim last inner (last_or_less m k lt)

  at_once : (k i j : ℕ) → is_paired n i j ≡ true → leads n k i j ≡ true
  at_once zero i j e = e
  at_once (suc k) i j e = further k i j (at_once k i j e)

  module _ (within : All (λ p. (p.0 < n.len) × (p.1 < n.len)) n.pairs) where
    ends : (i j : ℕ) → IsPaired n i j → (i < n.len) × (j < n.len)
    ends i j p =
        ⊎_elim
        (λ c. let h = within c.0 (i, j) c.1 in subst (λ q. (q.0 < n.len) × (q.1 < n.len)) c.2 h)
        (λ o. let a = o.1 in let b = o.2 in (omega arith, o.2))
        p

    -- what leads on is found
    complete : {i j : ℕ} → Before n i j → leads n n.len i j ≡ true
    complete {i} {j} (one_step p) = at_once n.len i j (is_there i j p)
    complete {i} {j} (more_steps {k = k} p q) = stopped n.len i k j (ends i k p).1 (at_once n.len i k (is_there i k p)) (complete q)

    starts : {i j : ℕ} → Before n i j → i < n.len
    starts {i} {j} (one_step p) = (ends i j p).0
    starts {i} (more_steps {k = k} p q) = (ends i k p).0

  pub cycle_found : is_cyclic n ≡ true → IsCyclic n
  cycle_found e = let a = Any-from_list_any (λ i. leads n n.len i i) (range_with_len 0 n.len) e in (a.1, sound n.len a.1 a.1 a.4)

  pub cycle_there : All (λ p. (p.0 < n.len) × (p.1 < n.len)) n.pairs → IsCyclic n → is_cyclic n ≡ true
  cycle_there within c =
      let lt = starts within c.1 in
      let long : length (range_with_len 0 n.len) ≡ n.len = length-range_with_len 0 n.len in
      list_any-from_Any (λ i. leads n n.len i i) (range_with_len 0 n.len)
      (c.0, c.0, rw long lt, get_or-range_with_len 0 n.len c.0 c.0 lt ∙ plain c.0, complete within c.1)

  -- whether one subtask comes before another is decided
  pub before_is_decided : All (λ p. (p.0 < n.len) × (p.1 < n.len)) n.pairs → (i j : ℕ) → Before n i j ⊎ (Before n i j → ⊥)
  before_is_decided within i j = by (leads n n.len i j) refl where
    by : (b : Bool) → leads n n.len i j ≡ b → Before n i j ⊎ (Before n i j → ⊥)
    by true e = inl (sound n.len i j e)
    by false e = inr (λ b. true≢false (sym (complete within b) ∙ e))
