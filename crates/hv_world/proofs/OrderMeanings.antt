-- What the parts of an order say of what is written.
use Rattle.std.proofs.Common.{◌≡◌, ◌≢◌, ◌<◌, ◌≤◌, ◌+◌, ◌-◌, ◌∷◌, ◌⊎◌, ◌↔◌, inl, inr, ℕ, Bool, true, false, List, [], refl, sym, ap, ◌∙◌, subst, arith, length, take, drop, get_or, All, Contains, slice_index, true≢false}
use Rattle.std.proofs.Math.Seq.{drop-cons}
use Rattle.std.proofs.lemmas.List.{get_or_default, length-map}
use Rattle.std.proofs.Common.{Vec}
use Rattle.std.specs.declared.alloc.Global.{Global}
use Rattle.hv_lists.proofs.Numbers.{either}
use Rattle.hv_lists.proofs.Places.{stands_at, contained_at}
use Rattle.hv_lists.proofs.Contained.{contains_first, none_in_empty}
use Rattle.hv_world.specs.Orders.{Written, written, IsPaired, Leads, one_step, more_steps, Before, HasCycle, IsCyclic, IsRow, IsArrangement, IsDirect, AreDirect}
use Rattle.hv_world.specs.inside.OrderWalks.{IsListed, list_at, lists_of, AreEarlier}
use Rattle.hv_world.specs.inside.OrderViews.{IsAsWritten}
use Rattle.hv_world.proofs.OrderLists.{contains_cases}
use Rattle.hv_world.proofs.OrderWalk.{once_from}

-- the last pair of a chain
last_pair : {R : ℕ → ℕ → Type 0} {i j : ℕ} → Leads R i j → R i j ⊎ ((r : ℕ) × Leads R i r × R r j)
last_pair {R} (one_step h) = inl h
last_pair {R} (more_steps {i} {k} {j} h g) = behind (last_pair g) where
  behind : R k j ⊎ ((r : ℕ) × Leads R k r × R r j) → R i j ⊎ ((r : ℕ) × Leads R i r × R r j)
  behind (inl q) = inr (k, one_step h, q)
  behind (inr q) = inr (q.0, more_steps h q.1, q.2)

-- the one in front, cut out of the row
one_cut : (row : List ℕ) (m j : ℕ) → m + 1 ≡ j → m < length row → take (j - m) (drop m row) ≡ slice_index row m ∷ []
one_cut row m j e w =
    let n : j - m ≡ 1 = omega (arith, e) in
    rw (n, drop-cons row m 0 w) refl

only : (x y : ℕ) → Contains (x ∷ []) y → x ≡ y
only x y h = by (contains_cases x y [] h) where
  by : (x ≡ y) ⊎ Contains [] y → x ≡ y
  by (inl e) = e
  by (inr q) = absurd (none_in_empty y q)

pub row_direct : (n : Written) (row : List ℕ) (j : ℕ) → IsAsWritten n row → 0 < j → j < n.len → AreDirect n j (take (j - (j - 1)) (drop (j - 1) row))
row_direct n row j h z w = subst (AreDirect n j) (sym cut) direct where
  cut : take (j - (j - 1)) (drop (j - 1) row) ≡ (j - 1) ∷ []
  cut = one_cut row (j - 1) j (omega (arith, z)) (omega (arith, w, h.count)) ∙ ap (λ x. x ∷ []) (h.each (j - 1) (omega (arith, w)))

  first : (i : ℕ) → j - 1 ≡ i → Before n i j
  first i e = (h.before i j).1 (omega (arith, e, z), w)

  behind : (i : ℕ) → i < j → (j - 1 ≡ i) ⊎ (j - 1 ≢ i) → Contains ((j - 1) ∷ []) i ⊎ ((r : ℕ) × Contains ((j - 1) ∷ []) r × Before n i r)
  behind i o (inl e) = inl (subst (Contains ((j - 1) ∷ [])) e (contains_first (j - 1) []))
  behind i o (inr e) = inr (j - 1, contains_first (j - 1) [], (h.before i (j - 1)).1 (omega (arith, o, e), omega (arith, w)))

  in_front : (i : ℕ) → IsDirect n i j → Contains ((j - 1) ∷ []) i
  in_front i (inl q) = subst (Contains ((j - 1) ∷ [])) (omega (arith, q.1)) (contains_first (j - 1) [])
  in_front i (inr q) = absurd (true≢false (sym h.ordered ∙ q.0))

  direct : AreDirect n j ((j - 1) ∷ [])
  direct = record {
    direct = λ i. (λ c. inl (h.ordered, omega (arith, only (j - 1) i c, z), w), in_front i);
    sound = λ i c. first i (only (j - 1) i c);
    whole = λ i b. behind i ((h.before i j).0 b).0 (either (j - 1) i);
  }

-- nothing stands before the first, or before a number that none has
pub row_none_direct : (n : Written) (row : List ℕ) (j : ℕ) → IsAsWritten n row → (0 < j → j < n.len → ⊥) → AreDirect n j []
row_none_direct n row j h none = record {
  direct = λ i. (λ c. absurd (none_in_empty i c), at i);
  sound = λ i c. absurd (none_in_empty i c);
  whole = λ i b. let q = (h.before i j).0 b in absurd (none (omega (arith, q.0)) q.1);
} where
  at : (i : ℕ) → IsDirect n i j → Contains [] i
  at i (inl q) = absurd (none (omega (arith, q.1)) q.2)
  at i (inr q) = absurd (true≢false (sym h.ordered ∙ q.0))

-- where pairs alone order, those that are listed
pub listed_direct : (n : Written) (xss : List (List ℕ)) (j : ℕ) → n.is_ordered ≡ false → ((i k : ℕ) → IsListed xss i k ↔ IsPaired n i k) → AreDirect n j (list_at xss j)
listed_direct n xss j unordered h = record {
  direct = λ i. (λ c. by_pair i ((h i j).0 c), λ d. (h i j).1 (paired i d));
  sound = λ i c. one_step ((h i j).0 c);
  whole = λ i b. by i (last_pair b);
} where
  by_pair : (i : ℕ) → IsPaired n i j → IsDirect n i j
  by_pair i (inl c) = inr (unordered, c)
  by_pair i (inr q) = absurd (true≢false (sym q.0 ∙ unordered))

  paired : (i : ℕ) → IsDirect n i j → IsPaired n i j
  paired i (inl q) = absurd (true≢false (sym q.0 ∙ unordered))
  paired i (inr q) = inl q.1

  by : (i : ℕ) → IsPaired n i j ⊎ ((r : ℕ) × Before n i r × IsPaired n r j) → Contains (list_at xss j) i ⊎ ((r : ℕ) × Contains (list_at xss j) r × Before n i r)
  by i (inl q) = inl ((h i j).1 q)
  by i (inr q) = inr (q.0, (h q.0 j).1 q.2, q.1)

-- chains of pairs that say the same
pub led_as : {R S : ℕ → ℕ → Type 0} → ((i j : ℕ) → R i j → S i j) → {i j : ℕ} → Leads R i j → Leads S i j
led_as f (one_step h) = one_step (f _ _ h)
led_as f (more_steps h g) = more_steps (f _ _ h) (led_as f g)

pub row_as : {R S : ℕ → ℕ → Type 0} (n m : ℕ) (row : List ℕ) → ((i j : ℕ) → S i j → R i j) → n ≡ m → IsRow (Leads R) n row → IsRow (Leads S) m row
row_as n m row f e h = record {
  within = λ i c. omega (arith, e, h.within i c);
  whole = λ i w. h.whole i (omega (arith, e, w));
  once = h.once;
  in_order = λ p q a b l. h.in_order p q a b (led_as f l);
}

-- a row has no cycle
pub row_has_no_cycle : (Comes : ℕ → ℕ → Type 0) (n : ℕ) (row : List ℕ) → IsRow Comes n row → (i : ℕ) → i < n → Comes i i → ⊥
row_has_no_cycle Comes n row h i w c =
    let p = h.whole i w in
    let at : i ≡ slice_index row p.0 = sym (stands_at row i p) in
    let o : p.0 < p.0 = h.in_order p.0 p.0 p.1 p.1 (subst (λ t. Comes t t) at c) in
    omega (arith, o)

-- of pairs alone, what is listed is what is paired
pub listed_is_paired : (n : ℕ) (pairs : List (ℕ × ℕ)) (xss : List (List ℕ)) → AreEarlier n pairs xss → (i j : ℕ) → IsListed xss i j ↔ IsPaired (written n false pairs) i j
listed_is_paired n pairs xss h i j = (λ l. inl ((h.listed i j).0 l), from) where
  from : IsPaired (written n false pairs) i j → IsListed xss i j
  from (inl c) = (h.listed i j).1 c
  from (inr q) = absurd (true≢false (sym q.0))

-- the numbers of pairs
abbrev pub AreBelow : ℕ → List (ℕ × ℕ) → Type 0
AreBelow n pairs = All (λ p. (p.0 < n) × (p.1 < n)) pairs

pub pair_below : (n : ℕ) (pairs : List (ℕ × ℕ)) (i j : ℕ) → AreBelow n pairs → Contains pairs (i, j) → (i < n) × (j < n)
pair_below n pairs i j h c = subst (λ p. (p.0 < n) × (p.1 < n)) c.2 (h c.0 (i, j) c.1)

pub paired_below : (n : ℕ) (b : Bool) (pairs : List (ℕ × ℕ)) (i j : ℕ) → AreBelow n pairs → IsPaired (written n b pairs) i j → (i < n) × (j < n)
paired_below n b pairs i j h (inl c) = pair_below n pairs i j h c
paired_below n b pairs i j h (inr q) = (omega (arith, q.1, q.2), q.2)

pub before_below : (n : ℕ) (b : Bool) (pairs : List (ℕ × ℕ)) {i j : ℕ} → AreBelow n pairs → Before (written n b pairs) i j → i < n
before_below n b pairs h (one_step q) = (paired_below n b pairs _ _ h q).0
before_below n b pairs h (more_steps q l) = (paired_below n b pairs _ _ h q).0

-- subtasks that come as they are written
module _ (n : ℕ) (pairs : List (ℕ × ℕ)) (below : AreBelow n pairs) where
  module _ (on : All (λ p. p.0 < p.1) pairs) where
    goes_on : (i j : ℕ) → IsPaired (written n true pairs) i j → i < j
    goes_on i j (inl c) = subst (λ p. p.0 < p.1) c.2 (on c.0 (i, j) c.1)
    goes_on i j (inr q) = q.1

    lower : {i j : ℕ} → Before (written n true pairs) i j → i < j
    lower (one_step h) = goes_on _ _ h
    lower (more_steps h g) = omega (arith, goes_on _ _ h, lower g)

    within : {i j : ℕ} → Before (written n true pairs) i j → j < n
    within (one_step h) = (paired_below n true pairs _ _ below h).1
    within (more_steps h g) = within g

    pub none_cyclic : IsCyclic (written n true pairs) → ⊥
    none_cyclic c = omega (arith, lower c.1)

    pub as_written : (row : List ℕ) → length row ≡ n → ((k : ℕ) → k < n → slice_index row k ≡ k) → IsAsWritten (written n true pairs) row
    as_written row c e = record {
      ordered = refl;
      before = λ i j. (λ b. (lower b, within b), λ w. one_step (inr (refl, w.0, w.1)));
      count = c;
      each = e;
    }

    pub row_as_written : (row : List ℕ) → length row ≡ n → ((k : ℕ) → k < n → slice_index row k ≡ k) → IsArrangement (written n true pairs) row
    row_as_written row c e = record {
      within = λ i h. omega (arith, h.1, c, e h.0, stands_at row i h);
      whole = λ i w. contained_at row i i (omega (arith, c, w)) (e i w);
      once = once_from row (λ a b o w q. omega (arith, o, q, e a (omega (arith, o, w, c)), e b (omega (arith, w, c))));
      in_order = λ p q a b l. omega (arith, lower l, e p (omega (arith, a, c)), e q (omega (arith, b, c)));
    }

  back_by : (i j : ℕ) → Contains pairs (i, j) → j ≤ i → (i ≡ j) ⊎ (i ≢ j) → IsCyclic (written n true pairs)
  back_by i j c o (inl e) = (i, one_step (inl (subst (λ t. Contains pairs (i, t)) (sym e) c)))
  back_by i j c o (inr d) = (j, more_steps (inr (refl, omega (arith, o, d), (pair_below n pairs i j below c).0)) (one_step (inl c)))

  pub back_is_cyclic : (k : ℕ) → k < length pairs → (get_or pairs k (0, 0)).1 ≤ (get_or pairs k (0, 0)).0 → IsCyclic (written n true pairs)
  back_is_cyclic k w o = back_by (get_or pairs k (0, 0)).0 (get_or pairs k (0, 0)).1 (k, w, get_or_default pairs k (get_or pairs k (0, 0)) (0, 0) w) o (either _ _)

-- subtasks that pairs alone order
module _ (n : ℕ) (pairs : List (ℕ × ℕ)) (below : AreBelow n pairs) (vs : List (Vec ℕ Global)) (h : AreEarlier n pairs (lists_of vs)) where
  same : (i j : ℕ) → IsListed (lists_of vs) i j ↔ IsPaired (written n false pairs) i j
  same = listed_is_paired n pairs (lists_of vs) h

  many : length vs ≡ n
  many = sym (length-map vs (λ v. v.items)) ∙ h.count

  pub listed_known : (i j : ℕ) → IsListed (lists_of vs) i j → i < length vs
  listed_known i j l = omega (arith, many, (paired_below n false pairs i j below ((same i j).0 l)).0)

  pub listed_cyclic : HasCycle (IsListed (lists_of vs)) → IsCyclic (written n false pairs)
  listed_cyclic c = (c.0, led_as (λ i j. (same i j).0) c.1)

  pub row_by_pairs : (row : List ℕ) → IsRow (Leads (IsListed (lists_of vs))) (length vs) row → IsArrangement (written n false pairs) row
  row_by_pairs row r = row_as (length vs) n row (λ i j. (same i j).1) many r

  pub pairs_acyclic : (row : List ℕ) → IsRow (Leads (IsListed (lists_of vs))) (length vs) row → IsCyclic (written n false pairs) → ⊥
  pairs_acyclic row r c = row_has_no_cycle (Before (written n false pairs)) n row (row_by_pairs row r) c.0 (before_below n false pairs below c.1) c.1
