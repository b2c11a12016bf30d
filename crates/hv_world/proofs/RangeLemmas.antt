-- The objects of a type: which part of them is below an object, and whether an object is one of them.
use Rattle.std.proofs.Common.{◌≡◌, ℕ, zero, suc, ◌+◌, ◌-◌, nat_eq, eqb-true, set, ◌<◌, ◌≤◌, ◌⊎◌, inl, inr, ◌↔◌, nat_lt, ltb-true, length-drop, length-take, get_or-drop, get_or-take, take_all, true, List, [], ◌∷◌, ◌++◌, length, take, drop, get_or, slice_get, slice_index, refl, sym, ap, subst, ◌∙◌, arith, Option, Some, None}
use Rattle.std.specs.List.{Contains}
use Rattle.std.specs.List.Sorted.{IsStrictlyIncreasing, IsNonDecreasingBy}
use Rattle.std.proofs.lemmas.Bool.{cases_eq}
use Rattle.std.proofs.lemmas.Bool.Decides.{nat_tests}
use Rattle.std.proofs.lemmas.List.{get_or-map, length-map, get_or_default, take-map, drop-map}
use Rattle.std.proofs.lemmas.List.Kept.{AllPairs-from_increasing}
use Rattle.hv_lists.specs.Lists.{Once}
use Rattle.hv_lists.proofs.Options.{same_some, not_some}
use Rattle.hv_lists.proofs.Numbers.{below_next}
use Rattle.hv_lists.proofs.Places.{stands_at, map_end, push_front, push_last, below_pushed}
use Rattle.hv_world.specs.Types.{AreBelow, object_numbers}
use Rattle.hv_world.specs.Ranges.{range_view}
use Rattle.hv_world.specs.declared.id.ObjectId.{ObjectId}
use Rattle.hv_world.specs.declared.range.Part.{Part}
use Rattle.hv_world.specs.declared.range.Range.{Range}
use Rattle.hv_world.specs.inside.ListParts.{ArePlaced, HasPlaces, IsNew}
use Rattle.hv_world.proofs.TypeLemmas.{once_from}

-- ascending objects, from a number on
module _ (range : List ObjectId) (number : ℕ) (ascend : IsStrictlyIncreasing (object_numbers range)) where
  far : (i j : ℕ) (d : ObjectId) → i < j → j < length range → (get_or range i d).0 < (get_or range j d).0
  far i j d lt within =
      let pairs : get_or (object_numbers range) i 0 < get_or (object_numbers range) j 0 = AllPairs-from_increasing (object_numbers range) ascend i j 0 lt (omega (arith, within, length-map range (λ (x : ObjectId). x.0))) in
      let a = get_or-map (λ (x : ObjectId). x.0) range i d 0 (omega (arith, lt, within)) in
      let b = get_or-map (λ (x : ObjectId). x.0) range j d 0 within in
      omega (arith, pairs, a, b)

  rises : IsNonDecreasingBy (λ (o : ObjectId). o.0) (drop number range)
  rises i j d le lt = by (cases_eq i j)
    where
      within : number + j < length range
      within = let long = length-drop number range in omega (arith, lt, long)

      by : (i ≡ j) ⊎ (i ≡ j → ⊥) → (get_or (drop number range) i d).0 ≤ (get_or (drop number range) j d).0
      by (inl same) = let e : (get_or (drop number range) i d).0 ≡ (get_or (drop number range) j d).0 = ap (λ k. (get_or (drop number range) k d).0) same in omega (arith, e)
      by (inr differ) =
          let h : (get_or range (number + i) d).0 < (get_or range (number + j) d).0 = far (number + i) (number + j) d (omega (arith, le, differ)) within in
          let a : (get_or (drop number range) i d).0 ≡ (get_or range (number + i) d).0 = ap (λ (o : ObjectId). o.0) (get_or-drop number range i d) in
          let b : (get_or (drop number range) j d).0 ≡ (get_or range (number + j) d).0 = ap (λ (o : ObjectId). o.0) (get_or-drop number range j d) in
          omega (arith, h, a, b)

  window : take (length range - number) (drop number range) ≡ drop number range
  window = take_all (length range - number) (drop number range) (let long = length-drop number range in omega (arith, long))

  pub window_rises : IsNonDecreasingBy (λ (o : ObjectId). o.0) (take (length range - number) (drop number range))
  window_rises = subst (λ (os : List ObjectId). IsNonDecreasingBy (λ (o : ObjectId). o.0) os) (sym window) rises

  pub are_below : (until found : ℕ) → number < length range → found ≤ length (take (length range - number) (drop number range))
      → ((k : ℕ) (d : ObjectId) → 0 ≤ k → k < found → nat_lt (get_or (take (length range - number) (drop number range)) k d).0 until ≡ true) → AreBelow (object_numbers range) number until (number + found)
  are_below until found in_range high low = (omega arith, each)
    where
      d : ObjectId
      d = record { 0 = 0 }

      each : (i : ℕ) → number ≤ i → i < number + found → (i < length (object_numbers range)) × (slice_index (object_numbers range) number ≤ slice_index (object_numbers range) i) × (slice_index (object_numbers range) i < until)
      each i le lt = (omega (arith, within, many), omega (arith, here, there, order (cases_eq number i)), omega (arith, there, under))
        where
          many : length (object_numbers range) ≡ length range
          many = length-map range (λ (x : ObjectId). x.0)

          within : i < length range
          within = let long = length-drop number range in let whole = ap length window in omega (arith, high, lt, le, long, whole)

          here : get_or (object_numbers range) number 0 ≡ (get_or range number d).0
          here = get_or-map (λ (x : ObjectId). x.0) range number d 0 in_range

          there : get_or (object_numbers range) i 0 ≡ (get_or range i d).0
          there = get_or-map (λ (x : ObjectId). x.0) range i d 0 within

          order : (number ≡ i) ⊎ (number ≡ i → ⊥) → (get_or range number d).0 ≤ (get_or range i d).0
          order (inl same) = let e : (get_or range number d).0 ≡ (get_or range i d).0 = ap (λ k. (get_or range k d).0) same in omega (arith, e)
          order (inr differ) = let h = far number i d (omega (arith, le, differ)) within in omega (arith, h)

          under : (get_or range i d).0 < until
          under =
              let k_lt : i - number < found = omega (arith, le, lt) in
              let t = ltb-true _ _ (low (i - number) d (omega arith) k_lt) in
              let e : (get_or (take (length range - number) (drop number range)) (i - number) d).0 ≡ (get_or range (number + (i - number)) d).0 = ap (λ (os : List ObjectId). (get_or os (i - number) d).0) window ∙ ap (λ (o : ObjectId). o.0) (get_or-drop number range (i - number) d) in
              let back : number + (i - number) ≡ i = omega (arith, le) in
              let f : (get_or range (number + (i - number)) d).0 ≡ (get_or range i d).0 = ap (λ k. (get_or range k d).0) back in
              omega (arith, t, e, f)

-- objects with a place each
pub placed_once : (os places : List ℕ) (start : ℕ) → ((i : ℕ) → i < length os → slice_get places (slice_index os i) ≡ Some (start + i)) → Once os
placed_once os places start placed i j d lt within e =
    let here = placed i (omega (arith, lt, within)) in
    let there = placed j within in
    let values : slice_index os i ≡ slice_index os j = get_or_default os i 0 d (omega (arith, lt, within)) ∙ e ∙ sym (get_or_default os j 0 d within) in
    let same : start + i ≡ start + j = same_some (start + i) (start + j) (sym here ∙ ap (slice_get places) values ∙ there) in
    omega (arith, same, lt)

pub got_within : {X : Type 0} (xs : List X) (i : ℕ) (x : X) → slice_get xs i ≡ Some x → i < length xs
got_within [] i x e = absurd (not_some x e)
got_within (y ∷ xs) zero x e = omega arith
got_within (y ∷ xs) (suc i) x e = let lt = got_within xs i x e in omega (arith, lt)

pub range_once : (r : Range) → Once (range_view r)
range_once r = by r.part refl
  where
    by : (p : Option Part) → r.part ≡ p → Once (range_view r)
    by None e = once_from (range_view r) (AllPairs-from_increasing (range_view r) (r.told.0 e))
    by (Some p) e = placed_once (range_view r) p.places.now p.start (r.told.1 p e)

-- an object that stands at a place is in the list
pub at_place : (objects : List ObjectId) (object place : ℕ) (other : ObjectId) → place < length objects → other ≡ get_or objects place other → nat_eq other.0 object ≡ true
    → Contains (object_numbers objects) object
at_place objects object place other lt is same =
    let long : length (object_numbers objects) ≡ length objects = length-map objects (λ (x : ObjectId). x.0) in
    (place, omega (arith, lt, long), get_or-map (λ (x : ObjectId). x.0) objects place other object lt ∙ ap (λ (x : ObjectId). x.0) (sym is) ∙ eqb-true other.0 object same)

-- an object that is looked for by its place
pub in_part : (objects : List ObjectId) (part : Part) (object place index : ℕ) (other : ObjectId) → HasPlaces (object_numbers objects) part → slice_get part.places.now object ≡ Some place → place ≡ part.start + index
    → index < length objects → other ≡ get_or objects index other → (nat_eq other.0 object ≡ true) ↔ Contains (object_numbers objects) object
in_part objects part object place index other has at split lt is = (to, from)
  where
    os : List ℕ
    os = object_numbers objects

    long : length os ≡ length objects
    long = length-map objects (λ (x : ObjectId). x.0)

    here : slice_index os index ≡ other.0
    here = get_or-map (λ (x : ObjectId). x.0) objects index other 0 lt ∙ ap (λ (x : ObjectId). x.0) (sym is)

    to : nat_eq other.0 object ≡ true → Contains os object
    to e = at_place objects object index other lt is e

    from : Contains os object → nat_eq other.0 object ≡ true
    from m =
        let told = has m.0 m.1 in
        let same : part.start + m.0 ≡ place = same_some (part.start + m.0) place (sym told ∙ ap (slice_get part.places.now) (stands_at os object m) ∙ at) in
        let number : m.0 ≡ index = omega (arith, same, split) in
        let value : other.0 ≡ object = sym here ∙ ap (slice_index os) (sym number) ∙ stands_at os object m in
        grind (arith, nat_tests, value)

-- one more of those that are below another
pub below_more : (objects : List ObjectId) (number until end : ℕ) (d : ObjectId) → number < length objects → end < length objects → (get_or objects number d).0 ≤ (get_or objects end d).0 → (get_or objects end d).0 < until
    → AreBelow (object_numbers objects) number until end → AreBelow (object_numbers objects) number until (end + 1)
below_more objects number until end d first_in end_in low high are = (omega (arith, are.0), λ i le lt. by i le (below_next i end lt))
  where
    os : List ℕ
    os = object_numbers objects

    long : length os ≡ length objects
    long = length-map objects (λ (x : ObjectId). x.0)

    first : slice_index os number ≡ (get_or objects number d).0
    first = get_or-map (λ (x : ObjectId). x.0) objects number d 0 first_in

    last : slice_index os end ≡ (get_or objects end d).0
    last = get_or-map (λ (x : ObjectId). x.0) objects end d 0 end_in

    here : (end < length os) × (slice_index os number ≤ slice_index os end) × (slice_index os end < until)
    here = (omega (arith, end_in, long), omega (arith, low, first, last), omega (arith, high, last))

    by : (i : ℕ) → number ≤ i → (i < end) ⊎ (i ≡ end) → (i < length os) × (slice_index os number ≤ slice_index os i) × (slice_index os i < until)
    by i le (inl before) = are.1 i le before
    by i le (inr e) = subst (λ k. (k < length os) × (slice_index os number ≤ slice_index os k) × (slice_index os k < until)) (sym e) here

-- an object more in a line
get_same : (xs : List ℕ) (i y : ℕ) → i < length xs → slice_get (set xs i y) i ≡ Some y
get_same [] i y lt = absurd (omega (arith, lt))
get_same (x ∷ xs) zero y lt = refl
get_same (x ∷ xs) (suc i) y lt = get_same xs i y (omega (arith, lt))

get_other : (xs : List ℕ) (i j y : ℕ) → (i ≡ j → ⊥) → slice_get (set xs i y) j ≡ slice_get xs j
get_other [] i j y out = refl
get_other (x ∷ xs) zero zero y out = absurd (out refl)
get_other (x ∷ xs) zero (suc j) y out = refl
get_other (x ∷ xs) (suc i) zero y out = refl
get_other (x ∷ xs) (suc i) (suc j) y out = get_other xs i j y (λ e. out (ap suc e))

pub placed_more : (objects : List ObjectId) (places : List ℕ) (o : ObjectId) → ArePlaced (object_numbers objects) places → IsNew (object_numbers objects) places o.0 → ArePlaced (object_numbers (objects ++ o ∷ [])) (set places o.0 (length objects))
placed_more objects places o are new i lt = by (below_pushed os o.0 i (subst (λ xs. i < length xs) more lt))
  where
    os : List ℕ
    os = object_numbers objects

    more : object_numbers (objects ++ o ∷ []) ≡ os ++ o.0 ∷ []
    more = map_end (λ (x : ObjectId). x.0) objects o

    long : length os ≡ length objects
    long = length-map objects (λ (x : ObjectId). x.0)

    by : (i < length os) ⊎ (i ≡ length os) → slice_get (set places o.0 (length objects)) (slice_index (object_numbers (objects ++ o ∷ [])) i) ≡ Some i
    by (inl before) =
        let value : slice_index (object_numbers (objects ++ o ∷ [])) i ≡ slice_index os i = ap (λ xs. slice_index xs i) more ∙ push_front os o.0 i before in
        ap (slice_get (set places o.0 (length objects))) value ∙ get_other places o.0 (slice_index os i) (length objects) (λ e. new.1 i before (sym e)) ∙ are i before
    by (inr e) =
        let value : slice_index (object_numbers (objects ++ o ∷ [])) i ≡ o.0 = ap (λ xs. slice_index xs i) more ∙ ap (slice_index (os ++ o.0 ∷ [])) e ∙ push_last os o.0 in
        let count : Some (length objects) ≡ Some i = ap Some (sym long ∙ sym e) in
        ap (slice_get (set places o.0 (length objects))) value ∙ get_same places o.0 (length objects) new.0 ∙ count

-- places in a part of a line
pub part_places : (all objects : List ObjectId) (places : List ℕ) (start end : ℕ) → ArePlaced (object_numbers all) places → start ≤ end → end ≤ length all → objects ≡ take (end - start) (drop start all)
    → (i : ℕ) → i < length (object_numbers objects) → slice_get places (slice_index (object_numbers objects) i) ≡ Some (start + i)
part_places all objects places start end are rises within is i lt =
    let z : ObjectId = record { 0 = 0 } in
    let long : length (object_numbers objects) ≡ length objects = length-map objects (λ (x : ObjectId). x.0) in
    let size : length objects ≡ length (take (end - start) (drop start all)) = ap length is in
    let dropped = length-drop start all in
    let taken = length-take (end - start) (drop start all) in
    let short : i < end - start = omega (arith, lt, long, size, taken) in
    let inside : start + i < length all = omega (arith, short, within, rises) in
    let everything : length (object_numbers all) ≡ length all = length-map all (λ (x : ObjectId). x.0) in
    let value : slice_index (object_numbers objects) i ≡ slice_index (object_numbers all) (start + i) =
    get_or-map (λ (x : ObjectId). x.0) objects i z 0 (omega (arith, lt, long)) ∙ ap (λ (xs : List ObjectId). (get_or xs i z).0) is ∙ ap (λ (x : ObjectId). x.0) (get_or-take (end - start) (drop start all) i z short ∙ get_or-drop start all i z)
    ∙ sym (get_or-map (λ (x : ObjectId). x.0) all (start + i) z 0 inside) in
    ap (slice_get places) value ∙ are (start + i) (omega (arith, inside, everything))

pub part_numbers : (all objects : List ObjectId) (start end : ℕ) → objects ≡ take (end - start) (drop start all) → object_numbers objects ≡ take (end - start) (drop start (object_numbers all))
part_numbers all objects start end is =
    ap object_numbers is ∙ sym (take-map (λ (x : ObjectId). x.0) (end - start) (drop start all)) ∙ ap (take (end - start)) (sym (drop-map (λ (x : ObjectId). x.0) start all))
