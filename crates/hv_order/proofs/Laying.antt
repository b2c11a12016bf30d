-- Items laid out one after another, each as early as it can be, finish as early as they can.
use Rattle.std.proofs.Common.{◌≡◌, ℕ, ◌≤◌, Bool, true, false, List, [], ◌∷◌, refl, sym, ap, ◌∙◌, subst, inl, inr, arith, ◌⊎◌, Option, Some, None, Contains, zero, suc}
use Rattle.std.specs.Prelude.{if◌then◌else◌, max}
use Rattle.hv_lists.specs.Lists.{Once}
use Rattle.hv_lists.proofs.Contained.{at_head, in_tail, none_in_empty}
use Rattle.hv_lists.proofs.EachOnce.{once_head, once_tail}
use Rattle.hv_plan.specs.Trees.{Item}
use Rattle.hv_order.specs.Meanings.{IsOrder}
use Rattle.hv_order.specs.Finishes.{FitTogether}
use Rattle.hv_order.specs.Tables.{IsLeastAt, IsLeast, and_then, earliest_start, last_finish, layout_finish, Respects, IsSort}
use Rattle.hv_order.proofs.Members.{same_item, first_same, second_same, pair_same}

-- a function with another value at x
pick : {P Q : Type 0} → P ⊎ Q → ℕ → ℕ → ℕ
pick (inl a) u w = u
pick (inr c) u w = w

changed : Item → ℕ → (Item → ℕ) → Item → ℕ
changed x f g z = pick (same_item z x) f (g z)

changed_here : (x : Item) (f : ℕ) (g : Item → ℕ) (z : Item) → z ≡ x → changed x f g z ≡ f
unfolding changed pick
changed_here x f g z e = by_member (same_item z x)
  where
    by_member : (c : (z ≡ x) ⊎ (z ≡ x → ⊥)) → pick c f (g z) ≡ f
    by_member (inl k) = refl
    by_member (inr k) = absurd (k e)

changed_else : (x : Item) (f : ℕ) (g : Item → ℕ) (z : Item) → (z ≡ x → ⊥) → changed x f g z ≡ g z
unfolding changed pick
changed_else x f g z e = by_member (same_item z x)
  where
    by_member : (c : (z ≡ x) ⊎ (z ≡ x → ⊥)) → pick c f (g z) ≡ g z
    by_member (inl k) = absurd (e k)
    by_member (inr k) = refl

-- items with their finishes
pub record IsLaid (x : Item) (laid : List (Item × ℕ)) : Type 0 where
  pub finish : ℕ
  pub member : Contains {X = Item × ℕ} laid (x, finish)

-- x is not one that was laid out before, and need not come before that one
record IsBehind (before : Item → Item → Bool) (x z : Item) : Type 0 where
  unforced : before x z ≡ true → ⊥
  other : z ≡ x → ⊥

item_same : (z : Item) (f : ℕ) (p : Item × ℕ) → ◌≡◌ {A = Item × ℕ} (z, f) p → z ≡ p.0
item_same z f p e = ap (λ (q : Item × ℕ). q.0) e

last_same : (z : Item) (f : ℕ) (p : Item × ℕ) → ◌≡◌ {A = Item × ℕ} (z, f) p → f ≡ p.1
last_same z f p e = ap (λ (q : Item × ℕ). q.1) e

module _ (all : List Item) (b : Item → Item → Bool) (order : IsOrder all b) (Fit : Item → ℕ → ℕ → Type 0) (earlier : (x : Item) (s s' f : ℕ) → s' ≤ s → Fit x s f → Fit x s' f) (n : ℕ) (row : Item → ℕ → Option ℕ) (rows : (x : Item) → Contains all x → (s : ℕ) → IsLeast (Fit x s) n (row x s)) (at : ℕ) (early : at ≤ n) where
  -- what is done so far
  pub record Part (done : List (Item × ℕ)) : Type 0 where
    start : Item → ℕ
    finish : Item → ℕ
    known : (z : Item) (f : ℕ) → Contains done (z, f) → finish z ≡ f
    fits : (z : Item) (f : ℕ) → Contains done (z, f) → Fit z (start z) f
    from : (z : Item) (f : ℕ) → Contains done (z, f) → at ≤ start z
    until : (z : Item) (f : ℕ) → Contains done (z, f) → f ≤ n
    kept : (z w : Item) (f g : ℕ) → Contains done (z, f) → Contains done (w, g) → b z w ≡ true → f ≤ start w

  -- z is one of all the items, and a way to fit them together finishes it no earlier than f
  pub record IsAhead (at' f' : ℕ) (w : FitTogether all b Fit at' f') (z : Item) (f : ℕ) : Type 0 where
    pub member : Contains all z
    pub no_later : f ≤ w.finish z

  pub record Best (done : List (Item × ℕ)) (e : ℕ) : Type 0 where
    pub together : FitTogether all b Fit at e
    pub at_least : at ≤ e
    pub within : e ≤ n
    pub least : (at' f' : ℕ) (w : FitTogether all b Fit at' f') → at ≤ at' → at' ≤ f' → ((z : Item) (f : ℕ) → Contains {X = Item × ℕ} done (z, f) → IsAhead at' f' w z f) → e ≤ f'

  pub record NoWay (done : List (Item × ℕ)) : Type 0 where
    pub no : (at' f' : ℕ) (w : FitTogether all b Fit at' f') → at ≤ at' → f' ≤ n → ((z : Item) (f : ℕ) → Contains {X = Item × ℕ} done (z, f) → IsAhead at' f' w z f) → ⊥

  pub data Outcome (done : List (Item × ℕ)) : Option ℕ → Type 0 where
    none : NoWay done → Outcome done None
    some : (e : ℕ) → Best done e → Outcome done (Some e)

  end_above : (done : List (Item × ℕ)) (z : Item) (f : ℕ) → Contains {X = Item × ℕ} done (z, f) → f ≤ last_finish at done
  end_above [] z f m = absurd (none_in_empty {X = Item × ℕ} (z, f) m)
  end_above (p ∷ done) z f (zero, lt, same) = let h = last_same z f p (sym same) in omega arith
  end_above (p ∷ done) z f (suc k, lt, same) = let h = end_above done z f (k, omega (arith, lt), same) in omega arith

  end_at : (done : List (Item × ℕ)) → at ≤ last_finish at done
  end_at [] = omega arith
  end_at (p ∷ done) = let h = end_at done in omega arith

  end_below : (done : List (Item × ℕ)) (g : ℕ) → at ≤ g → ((z : Item) (f : ℕ) → Contains {X = Item × ℕ} done (z, f) → f ≤ g) → last_finish at done ≤ g
  end_below [] g a h = a
  end_below (p ∷ done) g a h = let c = h p.0 p.1 (at_head p done (p.0, p.1) refl) in let d = end_below done g a (λ z f m. h z f (in_tail p done (z, f) m)) in omega arith

  start_above : (x : Item) (done : List (Item × ℕ)) (z : Item) (f : ℕ) → Contains {X = Item × ℕ} done (z, f) → b z x ≡ true → f ≤ earliest_start b at x done
  start_above x [] z f m h = absurd (none_in_empty {X = Item × ℕ} (z, f) m)
  start_above x (p ∷ done) z f (zero, lt, same) h =
      let e : ◌≡◌ {A = Item × ℕ} (z, f) p = sym same in
      let i = last_same z f p e in
      let j : b p.0 x ≡ true = ap (λ w. b w x) (sym (item_same z f p e)) ∙ h in
      rw (j, i) (omega arith)
  start_above x (p ∷ done) z f (suc k, lt, same) h = by_test (b p.0 x) (start_above x done z f (k, omega (arith, lt), same) h)
    where
      by_test : (v : Bool) → f ≤ earliest_start b at x done → f ≤ (if v then max p.1 (earliest_start b at x done) else earliest_start b at x done)
      by_test true k = omega arith
      by_test false k = k

  start_at : (x : Item) (done : List (Item × ℕ)) → at ≤ earliest_start b at x done
  start_at x [] = omega arith
  start_at x (p ∷ done) = by_test (b p.0 x) (start_at x done)
    where
      by_test : (v : Bool) → at ≤ earliest_start b at x done → at ≤ (if v then max p.1 (earliest_start b at x done) else earliest_start b at x done)
      by_test true k = omega arith
      by_test false k = k

  start_below : (x : Item) (done : List (Item × ℕ)) (g : ℕ) → at ≤ g → ((z : Item) (f : ℕ) → Contains {X = Item × ℕ} done (z, f) → b z x ≡ true → f ≤ g) → earliest_start b at x done ≤ g
  start_below x [] g a h = a
  start_below x (p ∷ done) g a h = by_test (b p.0 x) refl (start_below x done g a (λ z f m. h z f (in_tail p done (z, f) m)))
    where
      by_test : (v : Bool) → b p.0 x ≡ v → earliest_start b at x done ≤ g → (if v then max p.1 (earliest_start b at x done) else earliest_start b at x done) ≤ g
      by_test true i k = let c = h p.0 p.1 (at_head p done (p.0, p.1) refl) i in omega arith
      by_test false i k = k

  module _ (x : Item) (in_all : Contains all x) (done : List (Item × ℕ)) (part : Part done) (new : (z : Item) (f : ℕ) → Contains {X = Item × ℕ} done (z, f) → IsBehind b x z) (f : ℕ) (least : IsLeastAt (Fit x (earliest_start b at x done)) n f) where
    begin : Item → ℕ
    begin = changed x (earliest_start b at x done) part.start

    final : Item → ℕ
    final = changed x f part.finish

    begin_new : (z : Item) → z ≡ x → begin z ≡ earliest_start b at x done
    unfolding begin
    begin_new z e = changed_here x (earliest_start b at x done) part.start z e

    begin_old : (z : Item) (g : ℕ) → Contains {X = Item × ℕ} done (z, g) → begin z ≡ part.start z
    unfolding begin
    begin_old z g m = changed_else x (earliest_start b at x done) part.start z (new z g m).other

    more_known : (z : Item) (g : ℕ) → Contains {X = Item × ℕ} ((x, f) ∷ done) (z, g) → final z ≡ g
    unfolding final
    more_known z g (zero, lt, e) = changed_here x f part.finish z (first_same z x g f (sym e)) ∙ sym (second_same z x g f (sym e))
    more_known z g (suc k, lt, e) = let m : Contains {X = Item × ℕ} done (z, g) = (k, omega (arith, lt), e) in changed_else x f part.finish z (new z g m).other ∙ part.known z g m

    more_fits : (z : Item) (g : ℕ) → Contains {X = Item × ℕ} ((x, f) ∷ done) (z, g) → Fit z (begin z) g
    more_fits z g (zero, lt, e) = rw (begin_new z (first_same z x g f (sym e)), first_same z x g f (sym e), second_same z x g f (sym e)) least.reached
    more_fits z g (suc k, lt, e) = let m : Contains {X = Item × ℕ} done (z, g) = (k, omega (arith, lt), e) in rw (begin_old z g m) (part.fits z g m)

    more_from : (z : Item) (g : ℕ) → Contains {X = Item × ℕ} ((x, f) ∷ done) (z, g) → at ≤ begin z
    more_from z g (zero, lt, e) = rw (begin_new z (first_same z x g f (sym e))) (start_at x done)
    more_from z g (suc k, lt, e) = let m : Contains {X = Item × ℕ} done (z, g) = (k, omega (arith, lt), e) in rw (begin_old z g m) (part.from z g m)

    more_until : (z : Item) (g : ℕ) → Contains {X = Item × ℕ} ((x, f) ∷ done) (z, g) → g ≤ n
    more_until z g (zero, lt, e) = rw (second_same z x g f (sym e)) least.within
    more_until z g (suc k, lt, e) = part.until z g (k, omega (arith, lt), e)

    more_kept : (z w : Item) (g h : ℕ) → Contains {X = Item × ℕ} ((x, f) ∷ done) (z, g) → Contains {X = Item × ℕ} ((x, f) ∷ done) (w, h) → b z w ≡ true → g ≤ begin w
    more_kept z w g h (zero, lt, e) (zero, less, d) i =
        let P : Item → Type 0 = λ u. b u w ≡ true in
        let Q : Item → Type 0 = λ u. b x u ≡ true in
        absurd (order.strict x in_all (subst Q (first_same w x h f (sym d)) (subst P (first_same z x g f (sym e)) i)))
    more_kept z w g h (zero, lt, e) (suc place, less, d) i =
        let k : Contains {X = Item × ℕ} done (w, h) = (place, omega (arith, less), d) in
        let P : Item → Type 0 = λ u. b u w ≡ true in
        absurd ((new w h k).unforced (subst P (first_same z x g f (sym e)) i))
    more_kept z w g h (suc place, lt, e) (zero, less, d) i =
        let m : Contains {X = Item × ℕ} done (z, g) = (place, omega (arith, lt), e) in
        let Q : Item → Type 0 = λ u. b z u ≡ true in
        rw (begin_new w (first_same w x h f (sym d))) (start_above x done z g m (subst Q (first_same w x h f (sym d)) i))
    more_kept z w g h (suc place, lt, e) (suc next, less, d) i =
        let m : Contains {X = Item × ℕ} done (z, g) = (place, omega (arith, lt), e) in
        let k : Contains {X = Item × ℕ} done (w, h) = (next, omega (arith, less), d) in
        rw (begin_old w h k) (part.kept z w g h m k i)

    more : Part ((x, f) ∷ done)
    more = record { start = begin; finish = final; known = more_known; fits = more_fits; from = more_from; until = more_until; kept = more_kept }

  -- x cannot start earlier in any other way
  start_ahead : (x : Item) → Contains all x → (done : List (Item × ℕ)) (at' f' : ℕ) (w : FitTogether all b Fit at' f') → at ≤ at' → ((z : Item) (f : ℕ) → Contains {X = Item × ℕ} done (z, f) → IsAhead at' f' w z f) → earliest_start b at x done ≤ w.start x
  start_ahead x m done at' f' w a ahead =
      let h = w.from x m in
      start_below x done (w.start x) (omega arith) (λ z f k i. let r = ahead z f k in let over = w.order z x r.member m i in let no_later = r.no_later in omega arith)

  more_ahead : (x : Item) → Contains all x → (done : List (Item × ℕ)) (f : ℕ) → ((g : ℕ) → Fit x (earliest_start b at x done) g → f ≤ g) → (at' f' : ℕ) (w : FitTogether all b Fit at' f') → at ≤ at' → ((z : Item) (f : ℕ) → Contains {X = Item × ℕ} done (z, f) → IsAhead at' f' w z f) → (z : Item) (g : ℕ) → Contains {X = Item × ℕ} ((x, f) ∷ done) (z, g) → IsAhead at' f' w z g
  more_ahead x m done f low at' f' w a ahead z g (zero, lt, same) =
      let e : ◌≡◌ {A = Item × ℕ} (z, g) (x, f) = sym same in
      let i : z ≡ x = first_same z x g f e in
      let h = low (w.finish x) (earlier x (w.start x) (earliest_start b at x done) (w.finish x) (start_ahead x m done at' f' w a ahead) (w.fits x m)) in
      record { member = subst (λ u. Contains all u) (sym i) m; no_later = rw (second_same z x g f e, i) h }
  more_ahead x m done f low at' f' w a ahead z g (suc k, lt, same) = ahead z g (k, omega (arith, lt), same)

  outcome_less : (x : Item) → Contains all x → (done : List (Item × ℕ)) (f : ℕ) → ((g : ℕ) → Fit x (earliest_start b at x done) g → f ≤ g) → (o : Option ℕ) → Outcome ((x, f) ∷ done) o → Outcome done o
  outcome_less x m done f low None (none k) = none (record { no = λ at' f' w a c ahead. k.no at' f' w a c (more_ahead x m done f low at' f' w a ahead) })
  outcome_less x m done f low (Some e') (some e k) = some e (record {
    together = k.together;
    at_least = k.at_least;
    within = k.within;
    least = λ at' f' w a c ahead. k.least at' f' w a c (more_ahead x m done f low at' f' w a ahead);
  })

  finished : (done : List (Item × ℕ)) → Part done → ((x : Item) → Contains all x → IsLaid x done) → Best done (last_finish at done)
  finished done part covers = record {
    together = record {
      start = part.start;
      finish = part.finish;
      fits = λ x m. let c = covers x m in rw (part.known x c.finish c.member) (part.fits x c.finish c.member);
      from = λ x m. let c = covers x m in part.from x c.finish c.member;
      until = λ x m. let c = covers x m in rw (part.known x c.finish c.member) (end_above done x c.finish c.member);
      order = λ x y m k h. let c = covers x m in let d = covers y k in rw (part.known x c.finish c.member) (part.kept x y c.finish d.finish c.member d.member h);
    };
    at_least = end_at done;
    within = end_below done n early part.until;
    least = λ at' f' w a c ahead. end_below done f' (omega arith) (λ z f m. let r = ahead z f m in let no_later = r.no_later in let bound = w.until z r.member in omega arith);
  }

  no_finish : (x : Item) → Contains all x → (done : List (Item × ℕ)) → ((g : ℕ) → g ≤ n → Fit x (earliest_start b at x done) g → ⊥) → NoWay done
  no_finish x m done h = record {
    no = λ at' f' w a c ahead.
        let bound = w.until x m in
        h (w.finish x) (omega arith) (earlier x (w.start x) (earliest_start b at x done) (w.finish x) (start_ahead x m done at' f' w a ahead) (w.fits x m));
  }

  laid_is : (xs : List Item) (done : List (Item × ℕ)) → Part done → Respects b xs → Once xs → ((x : Item) → Contains xs x → Contains all x) → ((x : Item) → Contains all x → Contains xs x ⊎ IsLaid x done) → ((x z : Item) (f : ℕ) → Contains xs x → Contains {X = Item × ℕ} done (z, f) → IsBehind b x z) → Outcome done (layout_finish row b at done xs)
  laid_is [] done part respects distinct sub covers new = some (last_finish at done) (finished done part (λ x m. laid x (covers x m)))
    where
      laid : (x : Item) → Contains [] x ⊎ IsLaid x done → IsLaid x done
      laid x (inl m) = absurd (none_in_empty x m)
      laid x (inr h) = h
  laid_is (x ∷ xs) done part respects distinct sub covers new =
      let (none_before, rest_respects) = respects in
      by_finish (row x (earliest_start b at x done)) (rows x (sub x (at_head x xs x refl)) (earliest_start b at x done))
      (λ f p c d. laid_is xs ((x, f) ∷ done) p rest_respects (once_tail x xs distinct) (λ z m. sub z (in_tail x xs z m)) c d)
    where
      covers_more : (f : ℕ) (z : Item) → Contains (x ∷ xs) z ⊎ IsLaid z done → Contains xs z ⊎ IsLaid z ((x, f) ∷ done)
      covers_more f z (inl (zero, lt, e)) = inr (record { finish = f; member = at_head {X = Item × ℕ} (x, f) done (z, f) (pair_same z x f f (sym e) refl) })
      covers_more f z (inl (suc k, lt, e)) = inl (k, omega (arith, lt), e)
      covers_more f z (inr h) = inr (record { finish = h.finish; member = in_tail {X = Item × ℕ} (x, f) done (z, h.finish) h.member })

      new_more : (f : ℕ) (y z : Item) (g : ℕ) → Contains xs y → Contains {X = Item × ℕ} ((x, f) ∷ done) (z, g) → IsBehind b y z
      new_more f y z g m (zero, lt, e) =
          let (none_before, rest_respects) = respects in
          let is_x : z ≡ x = first_same z x g f (sym e) in
          record {
            unforced = λ h. none_before y m (let P : Item → Type 0 = λ u. b y u ≡ true in subst P is_x h);
            other = λ h. once_head x xs distinct (subst (λ u. Contains xs u) (sym h ∙ is_x) m);
          }
      new_more f y z g m (suc k, lt, e) = new y z g (in_tail x xs y m) (k, omega (arith, lt), e)

      by_finish : (o : Option ℕ) → IsLeast (Fit x (earliest_start b at x done)) n o → ((f : ℕ) → Part ((x, f) ∷ done) → ((z : Item) → Contains all z → Contains xs z ⊎ IsLaid z ((x, f) ∷ done)) → ((y z : Item) (g : ℕ) → Contains xs y → Contains {X = Item × ℕ} ((x, f) ∷ done) (z, g) → IsBehind b y z) → Outcome ((x, f) ∷ done) (layout_finish row b at ((x, f) ∷ done) xs)) → Outcome done (and_then o (λ f. layout_finish row b at ((x, f) ∷ done) xs))
      by_finish None h ih = none (no_finish x (sub x (at_head x xs x refl)) done h)
      by_finish (Some f) h ih =
          outcome_less x (sub x (at_head x xs x refl)) done f h.least _ (ih f (more x (sub x (at_head x xs x refl)) done part (λ z g m. new x z g (at_head x xs x refl) m) f h) (λ z m. covers_more f z (covers z m)) (new_more f))

  start_part : Part []
  start_part = record {
    start = λ z. 0;
    finish = λ z. 0;
    known = λ z f m. absurd (none_in_empty {X = Item × ℕ} (z, f) m);
    fits = λ z f m. absurd (none_in_empty {X = Item × ℕ} (z, f) m);
    from = λ z f m. absurd (none_in_empty {X = Item × ℕ} (z, f) m);
    until = λ z f m. absurd (none_in_empty {X = Item × ℕ} (z, f) m);
    kept = λ z w f g m k h. absurd (none_in_empty {X = Item × ℕ} (z, f) m);
  }

  pub laid_all : (xs : List Item) → IsSort all b xs → Outcome [] (layout_finish row b at [] xs)
  laid_all xs sort = laid_is xs [] start_part sort.respects sort.distinct sort.only (λ x m. inl (sort.has x m)) (λ x z f m k. absurd (none_in_empty {X = Item × ℕ} (z, f) k))
