-- The places of ids: a table of them, and the places of children.
use Rattle.std.proofs.Common.{◌≡◌, ◌≢◌, ◌+◌, ◌<◌, ◌≤◌, ◌⊎◌, inl, inr, ℕ, zero, suc, Bool, true, false, List, ◌++◌, Option, Some, None, cond, max, map, nat_eq, nat_lt, option_map, refl, sym, ap, ◌∙◌, subst, arith, length, take, drop, replicate, get_or, slice_get, slice_index, Contains, length-append}
use Rattle.std.specs.Option.{unwrap_or}
use Rattle.std.specs.Map.{update}
use Rattle.std.proofs.lemmas.List.{length-map, map-append, get_or-map}
use Rattle.std.proofs.lemmas.Map.{update_here, update_apart}
use Rattle.std.proofs.lemmas.Option.{same_Some}
use Rattle.std.proofs.Math.Seq.{take-append_seam, drop-append_seam}
use Rattle.hv_lists.specs.Lists.{Once}
use Rattle.hv_lists.proofs.Places.{stands_at, contained_at}
use Rattle.hv_lists.proofs.Numbers.{either}
use Rattle.hv_plan.specs.Ids.{place_of}
use Rattle.hv_plan.specs.inside.Shaping.{is_known, IsFirst, IsRepeat, IsMissed}
use Rattle.hv_plan.specs.inside.Tables.{small_or, is_within}
use Rattle.hv_plan.proofs.FirstLines.{same_first, IsLine, IsTable}
use Rattle.hv_plan.proofs.ShapePlaces.{absent_place, id_at_place, place_is, place_within, within_known}
use Rattle.hv_plan.proofs.ShapeWalks.{once_from}

-- no id has a place at first
none_in : (n i : ℕ) (other : Option ℕ) → other ≡ None → small_or (slice_get (replicate n None) i) other ≡ None
none_in zero i other e = e
none_in (suc n) zero other e = refl
none_in (suc n) (suc i) other e = none_in n i other e

pub none_yet : (slots : List (Option ℕ)) (n i : ℕ) (other : Option ℕ) → slots ≡ replicate n None → other ≡ None → small_or (slice_get slots i) other ≡ None
none_yet slots n i other e none = ap (λ xs. small_or (slice_get xs i) other) e ∙ none_in n i other none

filled_at : {A : Type 0} (x : A) (n i : ℕ) → get_or (replicate n x) i x ≡ x
filled_at x zero i = refl
filled_at x (suc n) zero = refl
filled_at x (suc n) (suc i) = filled_at x n i

-- what stands in a list that is filled with one thing, and behind it
pub filled_with : {A : Type 0} (x : A) (xs : List A) (n i : ℕ) → xs ≡ replicate n x → get_or xs i x ≡ x
filled_with x xs n i e = ap (λ ys. get_or ys i x) e ∙ filled_at x n i

-- lists without a repeated id
pub no_repeat : (xs lines : List ℕ) → IsFirst (IsRepeat xs lines (length xs)) None → Once xs
no_repeat xs lines none = once_from xs (λ a b o w e. none (max (slice_index lines a) (slice_index lines b)) (record { one = a; other = b; before = o; within = w; same = e; later = refl }))

-- the places in a table are among the first places, and their ids stand there
abbrev pub AreAmong : (ℕ → Option ℕ) → List ℕ → ℕ → Type 0
AreAmong places ids count = (i k : ℕ) → places i ≡ Some k → (k < count) × (slice_index ids k ≡ i)

module _ (old new : ℕ → Option ℕ) (id place : ℕ) (put : (i : ℕ) → new i ≡ update nat_eq old id (Some place) i) where
  -- the lines of places, where an id was given a place
  pub lines_put : (lines : List ℕ) (line : ℕ) → slice_index lines place ≡ line
      → (q : ℕ) → option_map (slice_index lines) (new q) ≡ update nat_eq (λ i. option_map (slice_index lines) (old i)) id (Some line) q
  lines_put lines line e q =
      ap (option_map (slice_index lines)) (put q) ∙ through (nat_eq id q) (old q) ∙ ap (λ l. update nat_eq (λ i. option_map (slice_index lines) (old i)) id (Some l) q) e
    where
      through : (b : Bool) (o : Option ℕ) → option_map (slice_index lines) (cond b (Some place) o) ≡ cond b (Some (slice_index lines place)) (option_map (slice_index lines) o)
      through true o = refl
      through false o = refl

  pub among_put : (ids : List ℕ) (count : ℕ) → place < count + 1 → slice_index ids place ≡ id → AreAmong old ids count → AreAmong new ids (count + 1)
  among_put ids count within is so_far i k e = by (either i id)
    where
      by : (i ≡ id) ⊎ (i ≢ id) → (k < count + 1) × (slice_index ids k ≡ i)
      by (inl q) =
          let same : place ≡ k = same_Some place k (sym (put i ∙ ap (update nat_eq old id (Some place)) q ∙ update_here old id (Some place)) ∙ e) in
          (omega (arith, same, within), ap (slice_index ids) (sym same) ∙ is ∙ sym q)
      by (inr n) =
          let (lt, at) = so_far i k (sym (put i ∙ update_apart old id (Some place) i n) ∙ e) in
          (omega (arith, lt), at)

-- an id that is given a place twice has the later one
pub put_again : (old mid new : ℕ → Option ℕ) (id one other : ℕ) → ((i : ℕ) → mid i ≡ update nat_eq old id (Some one) i) → ((i : ℕ) → new i ≡ update nat_eq mid id (Some other) i)
    → (i : ℕ) → new i ≡ update nat_eq old id (Some other) i
put_again old mid new id one other first second i = second i ∙ ap (λ o. cond (nat_eq id i) (Some other) o) (first i) ∙ twice (nat_eq id i)
  where
    twice : (b : Bool) → cond b (Some other) (cond b (Some one) (old i)) ≡ cond b (Some other) (old i)
    twice true = refl
    twice false = refl

-- a table of ids that stand once has the place of each
pub has_places : (ids lines : List ℕ) (places : ℕ → Option ℕ) → AreAmong places ids (length ids) → IsTable ids lines (length ids) (λ i. option_map (slice_index lines) (places i))
    → Once ids → (i : ℕ) → unwrap_or (places i) (length ids) ≡ place_of ids i
has_places ids lines places among table once i = by (places i) refl
  where
    by : (o : Option ℕ) → places i ≡ o → unwrap_or (places i) (length ids) ≡ place_of ids i
    by (Some k) e = let (lt, at) = among i k e in ap (λ o. unwrap_or o (length ids)) e ∙ sym (place_is ids k i once lt at)
    by None e =
        let none : IsFirst (IsLine ids lines (length ids) i) None = subst (λ o. IsFirst (IsLine ids lines (length ids) i) (option_map (slice_index lines) o)) e (table i) in
        ap (λ o. unwrap_or o (length ids)) e
        ∙ sym (absent_place ids i (λ h. none (slice_index lines h.0) (record { place = h.0; within = h.1; is = stands_at ids i h; at = refl })))

-- the places of children
module _ (is children places : List ℕ) (are : places ≡ map (place_of is) children) where
  pub as_many_places : length places ≡ length children
  as_many_places = ap length are ∙ length-map children (place_of is)

  pub place_at : (k : ℕ) → k < length children → slice_index places k ≡ place_of is (slice_index children k)
  place_at k w = ap (λ xs. slice_index xs k) are ∙ get_or-map (place_of is) children k 0 0 w

  -- a child that begins no line has no place
  pub unknown_by_place : (lines : List ℕ) (o : Option ℕ) → IsFirst (IsMissed (is_within (length is) places) lines (length places)) o
      → IsFirst (IsMissed (is_known is children) lines (length children)) o
  unknown_by_place lines o first = same_first (IsMissed (is_within (length is) places) lines (length places)) (IsMissed (is_known is children) lines (length children)) o first to from
    where
      same : (k : ℕ) → k < length children → is_within (length is) places k ≡ is_known is children k
      same k w = ap (λ n. nat_lt n (length is)) (place_at k w) ∙ within_known is (slice_index children k)

      to : (l : ℕ) → IsMissed (is_within (length is) places) lines (length places) l → IsMissed (is_known is children) lines (length children) l
      to l m =
          let w : m.place < length children = omega (arith, m.within, as_many_places) in
          record { place = m.place; within = w; fails = sym (same m.place w) ∙ m.fails; at = m.at }

      from : (l : ℕ) → IsMissed (is_known is children) lines (length children) l → IsMissed (is_within (length is) places) lines (length places) l
      from l m = record { place = m.place; within = omega (arith, m.within, as_many_places); fails = same m.place m.within ∙ m.fails; at = m.at }

  module _ (known : (i : ℕ) → Contains children i → Contains is i) where
    known_at : (k : ℕ) → k < length children → Contains is (slice_index children k)
    known_at k w = known (slice_index children k) (contained_at children k (slice_index children k) w refl)

    pub places_within : (k : ℕ) → k < length places → slice_index places k < length is
    places_within k v =
        let w : k < length children = omega (arith, v, as_many_places) in
        let lt : place_of is (slice_index children k) < length is = place_within is (slice_index children k) (known_at k w) in
        omega (arith, lt, place_at k w)

    -- children with one place are one child
    pub repeats_by_place : (lines : List ℕ) (o : Option ℕ) → IsFirst (IsRepeat places lines (length places)) o → IsFirst (IsRepeat children lines (length children)) o
    repeats_by_place lines o first = same_first (IsRepeat places lines (length places)) (IsRepeat children lines (length children)) o first to from
      where
        back : (k : ℕ) → k < length children → slice_index is (slice_index places k) ≡ slice_index children k
        back k w = ap (slice_index is) (place_at k w) ∙ id_at_place is (slice_index children k) (known_at k w)

        to : (l : ℕ) → IsRepeat places lines (length places) l → IsRepeat children lines (length children) l
        to l r =
            let w : r.other < length children = omega (arith, r.within, as_many_places) in
            let v : r.one < length children = omega (arith, r.before, w) in
            record { one = r.one; other = r.other; before = r.before; within = w; same = sym (back r.one v) ∙ ap (slice_index is) r.same ∙ back r.other w; later = r.later }

        from : (l : ℕ) → IsRepeat children lines (length children) l → IsRepeat places lines (length places) l
        from l r =
            let v : r.one < length children = omega (arith, r.before, r.within) in
            record {
              one = r.one;
              other = r.other;
              before = r.before;
              within = omega (arith, r.within, as_many_places);
              same = place_at r.one v ∙ ap (place_of is) r.same ∙ sym (place_at r.other r.within);
              later = r.later;
            }

-- what stands for the front of a list, and what for the rest
module _ (f : ℕ → ℕ) (all front rest : List ℕ) (are : all ≡ map f (front ++ rest)) where
  apart : all ≡ map f front ++ map f rest
  apart = are ∙ map-append f front rest

  pub front_within : length front ≤ length all
  front_within =
      let a : length all ≡ length (map f front) + length (map f rest) = ap length apart ∙ length-append (map f front) (map f rest) in
      let b : length (map f front) ≡ length front = length-map front f in
      omega (arith, a, b)

  pub front_of : take (length front) all ≡ map f front
  front_of = ap (λ n. take n all) (sym (length-map front f)) ∙ ap (take (length (map f front))) apart ∙ take-append_seam (map f front) (map f rest)

  pub rest_of : drop (length front) all ≡ map f rest
  rest_of = ap (λ n. drop n all) (sym (length-map front f)) ∙ ap (drop (length (map f front))) apart ∙ drop-append_seam (map f front) (map f rest)
