-- The first of lines, and the lines of ids.
use Rattle.std.proofs.Common.{◌≡◌, ◌≢◌, ◌+◌, ◌<◌, ◌≤◌, ◌⊎◌, inl, inr, ℕ, Bool, true, false, List, Option, Some, None, min, max, nat_eq, refl, sym, ap, ◌∙◌, subst, arith, slice_index, true≢false}
use Rattle.std.specs.Map.{update}
use Rattle.std.proofs.lemmas.Map.{update_here, update_apart}
use Rattle.hv_lists.proofs.Numbers.{either, either_side, below_next}
use Rattle.hv_plan.specs.inside.Shaping.{first_of, again_of, earlier, line_unless, IsFirst, IsRepeat, IsMissed}

-- the first of the lines of which one or the other holds
pub earlier_first : (P Q R : ℕ → Type 0) (a b : Option ℕ) → IsFirst P a → IsFirst Q b → ((l : ℕ) → P l → R l) → ((l : ℕ) → Q l → R l) → ((l : ℕ) → R l → P l ⊎ Q l) → IsFirst R (earlier a b)
earlier_first P Q R None None a b of_p of_q split = λ l r. by l (split l r) where
  by : (l : ℕ) → P l ⊎ Q l → ⊥
  by l (inl p) = a l p
  by l (inr q) = b l q
earlier_first P Q R None (Some n) a b of_p of_q split = (of_q n b.0, λ m r. by m (split m r)) where
  by : (m : ℕ) → P m ⊎ Q m → n ≤ m
  by m (inl p) = absurd (a m p)
  by m (inr q) = b.1 m q
earlier_first P Q R (Some l) None a b of_p of_q split = (of_p l a.0, λ m r. by m (split m r)) where
  by : (m : ℕ) → P m ⊎ Q m → l ≤ m
  by m (inl p) = a.1 m p
  by m (inr q) = absurd (b m q)
earlier_first P Q R (Some l) (Some n) a b of_p of_q split = (here (either_side l n), λ m r. by m (split m r)) where
  here : (l < n) ⊎ (n ≤ l) → R (min l n)
  here (inl lt) = let e : min l n ≡ l = omega arith in subst R (sym e) (of_p l a.0)
  here (inr le) = let e : min l n ≡ n = omega arith in subst R (sym e) (of_q n b.0)

  by : (m : ℕ) → P m ⊎ Q m → min l n ≤ m
  by m (inl p) = let le : l ≤ m = a.1 m p in omega arith
  by m (inr q) = let le : n ≤ m = b.1 m q in omega arith

pub same_first : (P R : ℕ → Type 0) (o : Option ℕ) → IsFirst P o → ((l : ℕ) → P l → R l) → ((l : ℕ) → R l → P l) → IsFirst R o
same_first P R None a of_p of_r = λ l r. a l (of_r l r)
same_first P R (Some l) a of_p of_r = (of_p l a.0, λ m r. a.1 m (of_r m r))

-- the first line of places that have not passed
module _ (passes : ℕ → Bool) (lines : List ℕ) where
  pub none_missed : IsFirst (IsMissed passes lines 0) None
  none_missed = λ l m. let w : m.place < 0 = m.within in absurd (omega arith)

  wider : (k l : ℕ) → IsMissed passes lines k l → IsMissed passes lines (k + 1) l
  wider k l m = let w : m.place < k = m.within in record { place = m.place; within = omega arith; fails = m.fails; at = m.at }

  pub missed_here : (k : ℕ) (found : Option ℕ) → passes k ≡ false → IsFirst (IsMissed passes lines k) found
      → IsFirst (IsMissed passes lines (k + 1)) (earlier found (Some (slice_index lines k)))
  missed_here k found fails so_far =
      earlier_first (IsMissed passes lines k) (λ l. slice_index lines k ≡ l) (IsMissed passes lines (k + 1)) found (Some (slice_index lines k)) so_far
      (refl, λ m e. let q : slice_index lines k ≡ m = e in omega arith) (wider k) (λ l e. record { place = k; within = omega arith; fails = fails; at = e }) (λ l m. by l m (below_next m.place k m.within))
    where
      by : (l : ℕ) (m : IsMissed passes lines (k + 1) l) → (m.place < k) ⊎ (m.place ≡ k) → IsMissed passes lines k l ⊎ (slice_index lines k ≡ l)
      by l m (inl lt) = inl (record { place = m.place; within = lt; fails = m.fails; at = m.at })
      by l m (inr e) = inr (ap (slice_index lines) (sym e) ∙ m.at)

  pub passed_here : (k : ℕ) (found : Option ℕ) → passes k ≡ true → IsFirst (IsMissed passes lines k) found → IsFirst (IsMissed passes lines (k + 1)) found
  passed_here k found passed so_far = same_first (IsMissed passes lines k) (IsMissed passes lines (k + 1)) found so_far (wider k) (λ l m. by l m (below_next m.place k m.within))
    where
      by : (l : ℕ) (m : IsMissed passes lines (k + 1) l) → (m.place < k) ⊎ (m.place ≡ k) → IsMissed passes lines k l
      by l m (inl lt) = record { place = m.place; within = lt; fails = m.fails; at = m.at }
      by l m (inr e) = absurd (true≢false (sym passed ∙ ap passes (sym e) ∙ m.fails))

  earlier_none : (o : Option ℕ) → earlier o None ≡ o
  earlier_none None = refl
  earlier_none (Some l) = refl

  pub missed_next : (k : ℕ) (found : Option ℕ) → IsFirst (IsMissed passes lines k) found → IsFirst (IsMissed passes lines (k + 1)) (earlier found (line_unless (passes k) (slice_index lines k)))
  missed_next k found so_far = by (passes k) refl
    where
      by : (b : Bool) → passes k ≡ b → IsFirst (IsMissed passes lines (k + 1)) (earlier found (line_unless b (slice_index lines k)))
      by true e = let Q : Option ℕ → Type 0 = IsFirst (IsMissed passes lines (k + 1)) in subst Q (sym (earlier_none found)) (passed_here k found e so_far)
      by false e = missed_here k found e so_far

-- an id stands on a line, among the first places
pub record IsLine (ids lines : List ℕ) (count id line : ℕ) : Type 0 where
  pub place : ℕ
  pub within : place < count
  pub is : slice_index ids place ≡ id
  pub at : slice_index lines place ≡ line

-- an id of the first places stands at this place too, and this is the later of their lines
pub record IsAgain (ids lines : List ℕ) (place line : ℕ) : Type 0 where
  pub one : ℕ
  pub before : one < place
  pub same : slice_index ids one ≡ slice_index ids place
  pub later : line ≡ max (slice_index lines one) (slice_index lines place)

module _ (ids lines : List ℕ) where
  -- a table has the first line of each id among the first places
  abbrev pub IsTable : ℕ → (ℕ → Option ℕ) → Type 0
  IsTable k first = (id : ℕ) → IsFirst (IsLine ids lines k id) (first id)

  pub no_lines : (first : ℕ → Option ℕ) → ((id : ℕ) → first id ≡ None) → IsTable 0 first
  no_lines first none id = subst (IsFirst (IsLine ids lines 0 id)) (sym (none id)) (λ l m. let w : m.place < 0 = m.within in absurd (omega arith))

  more_lines : (k id l : ℕ) → IsLine ids lines k id l → IsLine ids lines (k + 1) id l
  more_lines k id l m = let w : m.place < k = m.within in record { place = m.place; within = omega arith; is = m.is; at = m.at }

  first_is : (o : Option ℕ) (line : ℕ) → earlier o (Some line) ≡ Some (first_of line o)
  first_is None line = refl
  first_is (Some f) line = let e : min f line ≡ min line f = omega arith in ap Some (swapped f line)
    where
      swapped : (f line : ℕ) → min f line ≡ first_of line (Some f)
      swapped f line = refl

  next_line : (k : ℕ) (o : Option ℕ) → IsFirst (IsLine ids lines k (slice_index ids k)) o
      → IsFirst (IsLine ids lines (k + 1) (slice_index ids k)) (Some (first_of (slice_index lines k) o))
  next_line k o so_far =
      let R : ℕ → Type 0 = IsLine ids lines (k + 1) (slice_index ids k) in
      subst (IsFirst R) (first_is o (slice_index lines k))
      (earlier_first (IsLine ids lines k (slice_index ids k)) (λ l. slice_index lines k ≡ l) R o (Some (slice_index lines k)) so_far
      (refl, λ m e. let q : slice_index lines k ≡ m = e in omega arith) (more_lines k (slice_index ids k)) (λ l e. record { place = k; within = omega arith; is = refl; at = e }) (λ l m. by l m (below_next m.place k m.within)))
    where
      by : (l : ℕ) (m : IsLine ids lines (k + 1) (slice_index ids k) l) → (m.place < k) ⊎ (m.place ≡ k) → IsLine ids lines k (slice_index ids k) l ⊎ (slice_index lines k ≡ l)
      by l m (inl lt) = inl (record { place = m.place; within = lt; is = m.is; at = m.at })
      by l m (inr e) = inr (ap (slice_index lines) (sym e) ∙ m.at)

  other_line : (k id : ℕ) (o : Option ℕ) → id ≢ slice_index ids k → IsFirst (IsLine ids lines k id) o → IsFirst (IsLine ids lines (k + 1) id) o
  other_line k id o apart so_far = same_first (IsLine ids lines k id) (IsLine ids lines (k + 1) id) o so_far (more_lines k id) (λ l m. by l m (below_next m.place k m.within))
    where
      by : (l : ℕ) (m : IsLine ids lines (k + 1) id l) → (m.place < k) ⊎ (m.place ≡ k) → IsLine ids lines k id l
      by l m (inl lt) = record { place = m.place; within = lt; is = m.is; at = m.at }
      by l m (inr e) = absurd (apart (sym m.is ∙ ap (slice_index ids) e))

  pub table_next : (k : ℕ) (old new : ℕ → Option ℕ) → IsTable k old
      → ((q : ℕ) → new q ≡ update nat_eq old (slice_index ids k) (Some (first_of (slice_index lines k) (old (slice_index ids k)))) q) → IsTable (k + 1) new
  table_next k old new so_far updates id = by (either id (slice_index ids k))
    where
      by : (id ≡ slice_index ids k) ⊎ (id ≢ slice_index ids k) → IsFirst (IsLine ids lines (k + 1) id) (new id)
      by (inl e) =
          let P : ℕ → Type 0 = λ i. IsFirst (IsLine ids lines (k + 1) i) (new i) in
          let w : Option ℕ = Some (first_of (slice_index lines k) (old (slice_index ids k))) in
          let is : new (slice_index ids k) ≡ w = updates (slice_index ids k) ∙ update_here old (slice_index ids k) w in
          subst P (sym e) (subst (IsFirst (IsLine ids lines (k + 1) (slice_index ids k))) (sym is) (next_line k (old (slice_index ids k)) (so_far (slice_index ids k))))
      by (inr n) =
          let w : Option ℕ = Some (first_of (slice_index lines k) (old (slice_index ids k))) in
          let is : new id ≡ old id = updates id ∙ update_apart old (slice_index ids k) w id n in
          subst (IsFirst (IsLine ids lines (k + 1) id)) (sym is) (other_line k id (old id) n (so_far id))

  again_first : (k : ℕ) (o : Option ℕ) → IsFirst (IsLine ids lines k (slice_index ids k)) o → IsFirst (IsAgain ids lines k) (again_of (slice_index lines k) o)
  again_first k None first = λ l m. first (slice_index lines m.one) (record { place = m.one; within = m.before; is = m.same; at = refl })
  again_first k (Some f) first =
      let at : IsLine ids lines k (slice_index ids k) f = first.0 in (
        record { one = at.place; before = at.within; same = at.is; later = ap (λ x. max x (slice_index lines k)) (sym at.at) },
        λ l m. let le : f ≤ slice_index lines m.one = first.1 (slice_index lines m.one) (record { place = m.one; within = m.before; is = m.same; at = refl }) in
            let e : l ≡ max (slice_index lines m.one) (slice_index lines k) = m.later in omega arith,
      )

  pub none_repeated : IsFirst (IsRepeat ids lines 0) None
  none_repeated = λ l r. let w : r.other < 0 = r.within in absurd (omega arith)

  pub repeat_next : (k : ℕ) (first : ℕ → Option ℕ) (found : Option ℕ) → IsTable k first → IsFirst (IsRepeat ids lines k) found
      → IsFirst (IsRepeat ids lines (k + 1)) (earlier found (again_of (slice_index lines k) (first (slice_index ids k))))
  repeat_next k first found table so_far =
      earlier_first (IsRepeat ids lines k) (IsAgain ids lines k) (IsRepeat ids lines (k + 1)) found (again_of (slice_index lines k) (first (slice_index ids k))) so_far
      (again_first k (first (slice_index ids k)) (table (slice_index ids k)))
      (λ l r. let w : r.other < k = r.within in record { one = r.one; other = r.other; before = r.before; within = omega arith; same = r.same; later = r.later })
      (λ l r. record { one = r.one; other = k; before = r.before; within = omega arith; same = r.same; later = r.later })
      (λ l r. by l r (below_next r.other k r.within))
    where
      by : (l : ℕ) (r : IsRepeat ids lines (k + 1) l) → (r.other < k) ⊎ (r.other ≡ k) → IsRepeat ids lines k l ⊎ IsAgain ids lines k l
      by l r (inl lt) = inl (record { one = r.one; other = r.other; before = r.before; within = lt; same = r.same; later = r.later })
      by l r (inr e) =
          let b : r.one < r.other = r.before in
          inr (record { one = r.one; before = omega (arith, e); same = r.same ∙ ap (slice_index ids) e; later = r.later ∙ ap (λ j. max (slice_index lines r.one) (slice_index lines j)) e })
