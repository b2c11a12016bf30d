-- What a walk keeps.
use Rattle.std.proofs.Common.{◌≡◌, ◌≢◌, ◌+◌, ◌<◌, ◌≤◌, ◌⊎◌, inl, inr, ℕ, suc, map, take, append_assoc, Bool, true, false, List, [], ◌∷◌, ◌++◌, refl, sym, ap, ◌∙◌, subst, arith, length, set, get_or, Contains, slice_index, get_or-set_same, get_or-set_other, nat_eq, eqb-true, true≢false}
use Rattle.std.proofs.Math.ListN.{get_or-eq_default}
use Rattle.std.proofs.lemmas.Grind.{get_or_default_zero}
use Rattle.std.specs.List.{list_any, flat_map}
use Rattle.std.proofs.lemmas.Grind.{flat_map-append}
use Rattle.std.proofs.lemmas.List.{append-nil, length-map, get_or-map, take_more, take-append-le, get_or-take, length-take-le}
use Rattle.std.proofs.lemmas.Map.Keys.{IsDistinct-from_apart}
use Rattle.std.proofs.lemmas.Map.Steps.{length-le_from_distinct_below}
use Rattle.std.proofs.lemmas.Map.Views.{Contains-from_any}
use Rattle.std.proofs.lemmas.List.Elements.{Contains-append_left, Contains-append_right, Contains-append_cases, Contains-push}
use Rattle.hv_lists.specs.Lists.{Once}
use Rattle.hv_lists.proofs.Places.{push_front, push_last, length_pushed, below_pushed, stands_at, contained_at}
use Rattle.hv_lists.proofs.EachOnce.{once_at, once_apart, once_right, once_left}
use Rattle.hv_lists.proofs.Numbers.{either, either_side, below_next}
use Rattle.hv_plan.specs.inside.Shaping.{is_marked, IsMeeting, Grows, AreApart, Comes, of_root, of_one, IsWalking}

-- what a list contains stands at a place
pub once_from : (xs : List ℕ) → ((a b : ℕ) → a < b → b < length xs → slice_index xs a ≢ slice_index xs b) → Once xs
once_from xs h = λ a b d o w e. h a b o w (sym (get_or_default_zero xs a d (omega (arith, o, w))) ∙ e ∙ get_or_default_zero xs b d w)

pub once_pushed : (xs : List ℕ) (y : ℕ) → Once xs → (Contains xs y → ⊥) → Once (xs ++ y ∷ [])
once_pushed xs y h n = once_from (xs ++ y ∷ []) (λ a b o w. by a b o (below_pushed xs y b w))
  where
    by : (a b : ℕ) → a < b → (b < length xs) ⊎ (b ≡ length xs) → slice_index (xs ++ y ∷ []) a ≢ slice_index (xs ++ y ∷ []) b
    by a b o (inl w) = λ e. once_at xs h a b o w (sym (push_front xs y a (omega (arith, o, w))) ∙ e ∙ push_front xs y b w)
    by a b o (inr q) = λ e.
        let w : a < length xs = omega (arith, o, q) in
        n (contained_at xs a y w (sym (push_front xs y a w) ∙ e ∙ ap (slice_index (xs ++ y ∷ [])) q ∙ push_last xs y))

-- lists in which each stands once
pub once_none : Once {X = ℕ} []
once_none = λ a b d o w e. absurd (no_place b w)
  where
    no_place : (k : ℕ) → k < 0 → ⊥
    no_place k w = omega arith

pub once_map : (f : ℕ → ℕ) (xs : List ℕ) → ((x y : ℕ) → Contains xs x → Contains xs y → f x ≡ f y → x ≡ y) → Once xs → Once (map f xs)
once_map f xs one once = λ a b d o w e.
    let l : length (map f xs) ≡ length xs = length-map xs f in
    let v : b < length xs = omega (arith, w, l) in
    let u : a < length xs = omega (arith, o, v) in
    let same : f (slice_index xs a) ≡ f (slice_index xs b) = sym (get_or-map f xs a 0 d u) ∙ e ∙ get_or-map f xs b 0 d v in
    once a b 0 o v (one (slice_index xs a) (slice_index xs b) (contained_at xs a (slice_index xs a) u refl) (contained_at xs b (slice_index xs b) v refl) same)

-- what joined lists contain is in one of them
in_one : (f : ℕ → List ℕ) (xs : List ℕ) (y : ℕ) → Contains (flat_map f xs) y → (k : ℕ) × (k < length xs) × Contains (f (slice_index xs k)) y
in_one f [] y h = let w : h.0 < 0 = h.1 in absurd (omega (arith, w))
in_one f (x ∷ xs) y h = by (λ g. in_one f xs y g) (Contains-append_cases (f x) (flat_map f xs) y h)
  where
    by : (Contains (flat_map f xs) y → (k : ℕ) × (k < length xs) × Contains (f (slice_index xs k)) y) → Contains (f x) y ⊎ Contains (flat_map f xs) y → (k : ℕ) × (k < length (x ∷ xs)) × Contains (f (slice_index (x ∷ xs) k)) y
    by others (inl g) = (0, omega arith, g)
    by others (inr g) = let r = others g in (suc r.0, omega (arith, r.1), r.2)

-- lists that grow
pub grows_none : (old : List ℕ) → Grows old [] old
grows_none old = record {
  longer = omega arith;
  kept = λ b w. refl;
  comes = λ b le w. absurd (omega (arith, le, w));
  has = λ c h. let w : h.0 < length {A = ℕ} [] = h.1 in absurd (no_place h.0 w);
  fresh = λ n o. sym (append-nil old);
}
  where
    no_place : (k : ℕ) → k < 0 → ⊥
    no_place k w = omega arith

pub grows_more : (old xs mid ys new : List ℕ) → Grows old xs mid → Grows mid ys new → Grows old (xs ++ ys) new
grows_more old xs mid ys new g h =
    let l1 : length old ≤ length mid = g.longer in
    let l2 : length mid ≤ length new = h.longer in
    record {
      longer = omega arith;
      kept = λ b w. h.kept b (omega (arith, w, l1)) ∙ g.kept b w;
      comes = λ b le w. by b le w (either_side b (length mid));
      has = λ c k. has c (Contains-append_cases xs ys c k);
      fresh = fresh;
    }
  where
    by : (b : ℕ) → length old ≤ b → b < length new → (b < length mid) ⊎ (length mid ≤ b) → Contains (xs ++ ys) (slice_index new b)
    by b le w (inl lt) = let P : ℕ → Type 0 = Contains (xs ++ ys) in subst P (sym (h.kept b lt)) (Contains-append_left xs ys (slice_index mid b) (g.comes b le lt))
    by b le w (inr ge) = Contains-append_right xs ys (slice_index new b) (h.comes b ge w)

    has : (c : ℕ) → Contains xs c ⊎ Contains ys c → Contains new c
    has c (inl k) =
        let m = g.has c k in
        let l2 : length mid ≤ length new = h.longer in
        let w : m.0 < length mid = m.1 in
        contained_at new m.0 c (omega (arith, w, l2)) (h.kept m.0 m.1 ∙ stands_at mid c m)
    has c (inr k) = h.has c k

    fresh : ((c : ℕ) → Contains (xs ++ ys) c → Contains old c → ⊥) → Once (xs ++ ys) → new ≡ old ++ (xs ++ ys)
    fresh apart once =
        let first : mid ≡ old ++ xs = g.fresh (λ c k o. apart c (Contains-append_left xs ys c k) o) (once_left xs ys once) in
        let second : new ≡ mid ++ ys = h.fresh (λ c k o. other c k (Contains-append_cases old xs c (subst (λ zs. Contains zs c) first o))) (once_right xs ys once) in
        second ∙ ap (λ zs. zs ++ ys) first ∙ append_assoc old xs ys
      where
        other : (c : ℕ) → Contains ys c → Contains old c ⊎ Contains xs c → ⊥
        other c k (inl o) = apart c (Contains-append_right xs ys c k) o
        other c k (inr o) = once_apart xs ys c once o k

pub grows_by_one : (old : List ℕ) (y : ℕ) → Grows old (y ∷ []) (old ++ y ∷ [])
grows_by_one old y =
    let e : length (old ++ y ∷ []) ≡ length old + 1 = length_pushed old y in
    record {
      longer = omega (arith, e);
      kept = λ b w. push_front old y b w;
      comes = λ b le w. (0, omega arith, sym (push_last old y) ∙ ap (slice_index (old ++ y ∷ [])) (here b le w));
      has = λ c h. contained_at (old ++ y ∷ []) (length old) c (omega (arith, e)) (push_last old y ∙ only c h);
      fresh = λ n o. refl;
    }
  where
    here : (b : ℕ) → length old ≤ b → b < length (old ++ y ∷ []) → length old ≡ b
    here b le w = let e : length (old ++ y ∷ []) ≡ length old + 1 = length_pushed old y in omega (arith, e, le, w)

    only : (c : ℕ) → Contains (y ∷ []) c → y ≡ c
    only c h = first h.0 h.1 h.2
      where
        first : (k : ℕ) → k < 1 → get_or (y ∷ []) k c ≡ c → y ≡ c
        first k w is = let z : k ≡ 0 = omega arith in sym (ap (λ j. get_or (y ∷ []) j c) z) ∙ is

pub grows_by_none : (old : List ℕ) (y : ℕ) → Contains old y → Grows old (y ∷ []) old
grows_by_none old y is = record {
  longer = omega arith;
  kept = λ b w. refl;
  comes = λ b le w. absurd (omega (arith, le, w));
  has = λ c h. let P : ℕ → Type 0 = Contains old in subst P (only c h) is;
  fresh = λ n o. absurd (n y (0, omega arith, refl) is);
}
  where
    only : (c : ℕ) → Contains (y ∷ []) c → y ≡ c
    only c h = first h.0 h.1 h.2
      where
        first : (k : ℕ) → k < 1 → get_or (y ∷ []) k c ≡ c → y ≡ c
        first k w is = let z : k ≡ 0 = omega arith in sym (ap (λ j. get_or (y ∷ []) j c) z) ∙ is

-- marks
mark_here : (ms : List Bool) (k : ℕ) → k < length ms → is_marked (set ms k true) k ≡ true
mark_here ms k w = get_or-set_same ms k true false w

mark_there : (ms : List Bool) (k j : ℕ) → j ≢ k → is_marked (set ms k true) j ≡ is_marked ms j
mark_there ms k j n = get_or-set_other ms k j true false n

mark_stays : (ms : List Bool) (k j : ℕ) → k < length ms → is_marked ms j ≡ true → is_marked (set ms k true) j ≡ true
mark_stays ms k j w e = by (either j k) where
  by : (j ≡ k) ⊎ (j ≢ k) → is_marked (set ms k true) j ≡ true
  by (inl q) = ap (is_marked (set ms k true)) q ∙ mark_here ms k w
  by (inr n) = mark_there ms k j n ∙ e

pub meets : (met : List ℕ) (marks : List Bool) (k : ℕ) → k < length marks → is_marked marks k ≡ false → IsMeeting met marks → IsMeeting (met ++ k ∷ []) (set marks k true)
meets met marks k w new so_far = record {
  marked = λ j e. by j e (either j k);
  marks_met = λ b v. at b (below_pushed met k b v);
  once = once_pushed met k so_far.once (λ h. true≢false (sym (marked h) ∙ new));
}
  where
    by : (j : ℕ) → is_marked (set marks k true) j ≡ true → (j ≡ k) ⊎ (j ≢ k) → Contains (met ++ k ∷ []) j
    by j e (inl q) = let P : ℕ → Type 0 = Contains (met ++ k ∷ []) in subst P (sym q) (Contains-push met k)
    by j e (inr n) = Contains-append_left met (k ∷ []) j (so_far.marked j (sym (mark_there marks k j n) ∙ e))

    at : (b : ℕ) → (b < length met) ⊎ (b ≡ length met) → is_marked (set marks k true) (slice_index (met ++ k ∷ []) b) ≡ true
    at b (inl v) = ap (is_marked (set marks k true)) (push_front met k b v) ∙ mark_stays marks k (slice_index met b) w (so_far.marks_met b v)
    at b (inr q) = ap (λ j. is_marked (set marks k true) (slice_index (met ++ k ∷ []) j)) q ∙ ap (is_marked (set marks k true)) (push_last met k) ∙ mark_here marks k w

    marked : Contains met k → is_marked marks k ≡ true
    marked h = sym (ap (is_marked marks) (stands_at met k h)) ∙ so_far.marks_met h.0 h.1

pub met_within : (met : List ℕ) (marks : List Bool) → IsMeeting met marks → (b : ℕ) → b < length met → slice_index met b < length marks
met_within met marks m b w = by (either_side (slice_index met b) (length marks)) where
  by : (slice_index met b < length marks) ⊎ (length marks ≤ slice_index met b) → slice_index met b < length marks
  by (inl lt) = lt
  by (inr ge) = absurd (true≢false (sym (m.marks_met b w) ∙ get_or-eq_default marks false ge))

-- at most so many are met as there are marks
pub met_fits : (met : List ℕ) (marks : List Bool) → IsMeeting met marks → length met ≤ length marks
met_fits met marks m = length-le_from_distinct_below met (length marks) (IsDistinct-from_apart nat_eq met apart) below
  where
    apart : (i j d : ℕ) → i < j → j < length met → nat_eq (get_or met i d) (get_or met j d) ≡ false
    apart i j d o w = by (nat_eq (get_or met i d) (get_or met j d)) refl where
      by : (b : Bool) → nat_eq (get_or met i d) (get_or met j d) ≡ b → nat_eq (get_or met i d) (get_or met j d) ≡ false
      by true e = absurd (m.once i j d o w (eqb-true (get_or met i d) (get_or met j d) e))
      by false e = e

    below : (q : ℕ) → list_any (nat_eq q) met ≡ true → q < length marks
    below q e =
        let h : Contains met q = Contains-from_any {eq = nat_eq} (λ x y t. eqb-true x y t) q met e in
        let w : slice_index met h.0 < length marks = met_within met marks m h.0 h.1 in
        let s : slice_index met h.0 ≡ q = stands_at met q h in
        omega (arith, w, s)

pub no_marks : (marks : List Bool) → ((k : ℕ) → is_marked marks k ≡ false) → IsMeeting [] marks
no_marks marks none = record {
  marked = λ k e. absurd (true≢false (sym e ∙ none k));
  marks_met = λ b w. absurd (no_place b w);
  once = λ a b d o w. absurd (no_place b w);
}
  where
    no_place : (k : ℕ) → k < 0 → ⊥
    no_place k w = omega arith

-- the walk
module _ (root : List ℕ) (kids : ℕ → List ℕ) where
  pub walk_starts : (met : List ℕ) (marks : List Bool) → Grows [] root met → IsMeeting met marks → IsWalking root kids 0 met marks
  walk_starts met marks g m = record {
    meeting = m;
    has_root = g.has;
    closed = λ a c lt. absurd (no_place a lt);
    comes = λ b w. of_root (g.comes b (omega arith) w);
    in_order = λ a. g.fresh (λ c h o. no_place o.0 o.1) a.roots ∙ sym (append-nil root);
  }
    where
      no_place : (k : ℕ) → k < 0 → ⊥
      no_place k w = omega arith

  pub walk_goes : (at : ℕ) (old new : List ℕ) (marks after : List Bool) → at < length old → IsWalking root kids at old marks → Grows old (kids (slice_index old at)) new → IsMeeting new after
      → IsWalking root kids (at + 1) new after
  walk_goes at old new marks after lt so_far g m = record {
    meeting = m;
    has_root = λ c h. stays c (so_far.has_root c h);
    closed = λ a c o h. close a c h (below_next a at o);
    comes = λ b w. come b w (either_side b (length old));
    in_order = goes_on;
  }
    where
      below : List ℕ
      below = kids (slice_index old at)

      new_there : AreApart root kids → (c : ℕ) → Contains below c → Contains old c → ⊥
      new_there apart c h o = by (Contains-append_cases root (flat_map kids (take at old)) c (subst (λ zs. Contains zs c) (so_far.in_order apart) o))
        where
          by : Contains root c ⊎ Contains (flat_map kids (take at old)) c → ⊥
          by (inl r) = apart.below_root (slice_index old at) c r h
          by (inr r) =
              let q = in_one kids (take at old) c r in
              let less : q.0 < length (take at old) = q.1 in
              let long : length (take at old) ≡ at = length-take-le at old (omega (arith, lt)) in
              let before : q.0 < at = omega (arith, less, long) in
              let same : slice_index (take at old) q.0 ≡ slice_index old at = apart.below_one (slice_index (take at old) q.0) (slice_index old at) c q.2 h in
              once_at old so_far.meeting.once q.0 at before lt (sym (get_or-take at old q.0 0 before) ∙ same)

      goes_on : AreApart root kids → new ≡ root ++ flat_map kids (take (at + 1) new)
      goes_on apart =
          let grown : new ≡ old ++ below = g.fresh (new_there apart) (apart.lists (slice_index old at)) in
          let front : take (at + 1) new ≡ take at old ++ slice_index old at ∷ [] = ap (take (at + 1)) grown ∙ take-append-le (at + 1) old below (omega (arith, lt)) ∙ take_more old at 0 lt in
          let joined : flat_map kids (take at old ++ slice_index old at ∷ []) ≡ flat_map kids (take at old) ++ below = flat_map-append kids (take at old) (slice_index old at ∷ []) ∙ ap (λ zs. flat_map kids (take at old) ++ zs) (append-nil below) in
          grown ∙ ap (λ zs. zs ++ below) (so_far.in_order apart) ∙ append_assoc root (flat_map kids (take at old)) below ∙ ap (λ zs. root ++ zs) (sym (ap (flat_map kids) front ∙ joined))

      longer : length old ≤ length new
      longer = g.longer

      stays : (c : ℕ) → Contains old c → Contains new c
      stays c h = let w : h.0 < length old = h.1 in let l = longer in contained_at new h.0 c (omega (arith, w, l)) (g.kept h.0 h.1 ∙ stands_at old c h)

      close : (a c : ℕ) → Contains (kids (slice_index new a)) c → (a < at) ⊎ (a ≡ at) → Contains new c
      close a c h (inl o) =
          let w : a < length old = omega (arith, o, lt) in
          let P : ℕ → Type 0 = λ v. Contains (kids v) c in
          stays c (so_far.closed a c o (subst P (g.kept a w) h))
      close a c h (inr e) =
          let P : ℕ → Type 0 = λ v. Contains (kids v) c in
          g.has c (subst P (ap (slice_index new) e ∙ g.kept at lt) h)

      came : (b : ℕ) → b < length old → Comes root kids old b → Comes root kids new b
      came b w (of_root h) = let P : ℕ → Type 0 = Contains root in of_root (subst P (sym (g.kept b w)) h)
      came b w (of_one a o h) =
          let v : a < length old = omega (arith, o, w) in
          let P : ℕ → Type 0 = λ x. Contains (kids (slice_index new a)) x in
          let Q : ℕ → Type 0 = λ x. Contains (kids x) (slice_index old b) in
          of_one a o (subst P (sym (g.kept b w)) (subst Q (sym (g.kept a v)) h))

      come : (b : ℕ) → b < length new → (b < length old) ⊎ (length old ≤ b) → Comes root kids new b
      come b w (inl v) = came b v (so_far.comes b v)
      come b w (inr ge) =
          let Q : ℕ → Type 0 = λ x. Contains (kids x) (slice_index new b) in
          of_one at (omega (arith, lt, ge)) (subst Q (sym (g.kept at lt)) (g.comes b ge w))

  pub walk_ends : (at : ℕ) (met : List ℕ) (marks : List Bool) → at ≡ length met → IsWalking root kids at met marks → IsWalking root kids (length met) met marks
  walk_ends at met marks same so_far = record {
    meeting = so_far.meeting;
    has_root = so_far.has_root;
    closed = λ a c o h. so_far.closed a c (omega (arith, same, o)) h;
    comes = so_far.comes;
    in_order = λ a. so_far.in_order a ∙ ap (λ n. root ++ flat_map kids (take n met)) same;
  }
