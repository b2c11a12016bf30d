-- Objects in a line: types that are entered and left, and their parts.
use Rattle.std.proofs.Common.{◌≡◌, ◌<◌, ◌≤◌, ◌+◌, ◌-◌, ◌⊎◌, inl, inr, ◌↔◌, ℕ, zero, suc, List, [], ◌∷◌, ◌++◌, length, map, take, drop, slice_get, get_or, Option, Some, None, refl, sym, ap, ◌∙◌, subst, arith, IfSome, true, false, is_some, replicate, length-append, length-drop, take_all}
use Rattle.std.specs.List.{Contains}
use Rattle.std.specs.Global.{Vec}
use Rattle.std.proofs.lemmas.List.Elements.{Contains-append_left, Contains-append_right, Contains-append_cases, All-contains}
use Rattle.hv_lists.proofs.Numbers.{below_next}
use Rattle.hv_lists.proofs.Options.{same_some, not_some}
use Rattle.hv_lists.proofs.Places.{map_end}
use Rattle.hv_lists.proofs.Contained.{at_head, in_tail, contains_cases, none_in_empty, mem_map, map_mem}
use Rattle.hv_world.specs.Types.{Typing, Reaches, same, up, Of}
use Rattle.hv_world.specs.declared.bases.Graph.{Graph}
use Rattle.hv_world.specs.declared.id.ObjectId.{ObjectId}
use Rattle.hv_world.specs.declared.id.TypeId.{TypeId}
use Rattle.hv_world.specs.Ranges.{IsRange, range_view}
use Rattle.hv_world.specs.declared.nested.Nested.{Nested}
use Rattle.hv_world.specs.declared.nested.Span.{Span}
use Rattle.hv_world.specs.declared.range.Range.{Range}
use Rattle.hv_world.specs.declared.nested.Step.{Step}
use Rattle.hv_world.specs.declared.nested.Step.TheVariants as steps
use Rattle.hv_world.specs.inside.Bases.{IsGraph, turned}
use Rattle.hv_world.specs.inside.TypeLists.{list_of, object_lists, type_lists, type_numbers, AreSeconds}
use Rattle.hv_world.specs.inside.Lines.{Below, Comes, IsOpen, AreOpen, none, enter, leave, IsPart, AreParts, AreListed, IsLeft, AreAll, AreEntered, AreNested, IsPartOf, part_of, steps_of}
use Rattle.hv_world.proofs.BaseLemmas.{reaches_further}
use Rattle.hv_world.proofs.RangeLemmas.{range_once, got_within}

-- lists that are longer
pub drop_append : {X : Type 0} (n : ℕ) (xs ys : List X) → n ≤ length xs → drop n (xs ++ ys) ≡ drop n xs ++ ys
drop_append zero xs ys le = refl
drop_append (suc n) [] ys le = absurd (omega (arith, le))
drop_append (suc n) (x ∷ xs) ys le = drop_append n xs ys (omega (arith, le))

pub take_append : {X : Type 0} (n : ℕ) (xs ys : List X) → n ≤ length xs → take n (xs ++ ys) ≡ take n xs
take_append zero xs ys le = refl
take_append (suc n) [] ys le = absurd (omega (arith, le))
take_append (suc n) (x ∷ xs) ys le = ap (λ zs. x ∷ zs) (take_append n xs ys (omega (arith, le)))

pub drop_whole : {X : Type 0} (xs ys : List X) → drop (length xs) (xs ++ ys) ≡ ys
drop_whole [] ys = refl
drop_whole (x ∷ xs) ys = drop_whole xs ys

-- what stands below a type
reaches_last : (parents : List (ℕ × ℕ)) {a t : ℕ} → Reaches parents a t → (a ≡ t) ⊎ ((c : ℕ) × Reaches parents a c × Contains parents (c, t))
reaches_last parents same = inl refl
reaches_last parents {t} (up {a} {b} m r) = by (reaches_last parents r)
  where
    by : (b ≡ t) ⊎ ((c : ℕ) × Reaches parents b c × Contains parents (c, t)) → (a ≡ t) ⊎ ((c : ℕ) × Reaches parents a c × Contains parents (c, t))
    by (inl e) = inr (a, same, subst (λ x. Contains parents (a, x)) e m)
    by (inr (c, s, k)) = inr (c, up m s, k)

below_up : (w : Typing) (o c t : ℕ) → Below w o c → Contains w.parents (c, t) → Below w o t
below_up w o c t (a, m, r) k = (a, m, reaches_further w.parents r k)

below_cases : (w : Typing) (o t : ℕ) → Below w o t → Contains w.declared (o, t) ⊎ ((c : ℕ) × Contains w.parents (c, t) × Below w o c)
below_cases w o t (a, m, r) = by (reaches_last w.parents r)
  where
    by : (a ≡ t) ⊎ ((c : ℕ) × Reaches w.parents a c × Contains w.parents (c, t)) → Contains w.declared (o, t) ⊎ ((c : ℕ) × Contains w.parents (c, t) × Below w o c)
    by (inl e) = inl (subst (λ x. Contains w.declared (o, x)) e m)
    by (inr (c, s, k)) = inr (c, k, (a, m, s))

-- what comes with steps
comes_left : (w : Typing) (xs ys : List Step) (o : ℕ) → Comes w xs o → Comes w (xs ++ ys) o
comes_left w [] ys o c = absurd c
comes_left w (steps.Enter t ∷ xs) ys o (inl b) = inl b
comes_left w (steps.Enter t ∷ xs) ys o (inr c) = inr (comes_left w xs ys o c)
comes_left w (steps.Leave t start ∷ xs) ys o c = comes_left w xs ys o c

comes_right : (w : Typing) (xs ys : List Step) (o : ℕ) → Comes w ys o → Comes w (xs ++ ys) o
comes_right w [] ys o c = c
comes_right w (steps.Enter t ∷ xs) ys o c = inr (comes_right w xs ys o c)
comes_right w (steps.Leave t start ∷ xs) ys o c = comes_right w xs ys o c

comes_cases : (w : Typing) (xs ys : List Step) (o : ℕ) → Comes w (xs ++ ys) o → Comes w xs o ⊎ Comes w ys o
comes_cases w [] ys o c = inr c
comes_cases w (steps.Enter t ∷ xs) ys o (inl b) = inl (inl b)
comes_cases w (steps.Enter t ∷ xs) ys o (inr c) = by (comes_cases w xs ys o c)
  where
    by : Comes w xs o ⊎ Comes w ys o → (Below w o t.0 ⊎ Comes w xs o) ⊎ Comes w ys o
    by (inl d) = inl (inr d)
    by (inr d) = inr d
comes_cases w (steps.Leave t start ∷ xs) ys o c = comes_cases w xs ys o c

comes_one : (w : Typing) (ts : List TypeId) (o : ℕ) → Comes w (map steps.Enter ts) o → (c : ℕ) × Contains (type_numbers ts) c × Below w o c
comes_one w [] o c = absurd c
comes_one w (t ∷ ts) o (inl b) = (t.0, at_head t.0 (type_numbers ts) t.0 refl, b)
comes_one w (t ∷ ts) o (inr c) = let (x, m, b) = comes_one w ts o c in (x, in_tail t.0 (type_numbers ts) x m, b)

one_comes : (w : Typing) (ts : List TypeId) (o c : ℕ) → Contains (type_numbers ts) c → Below w o c → Comes w (map steps.Enter ts) o
one_comes w [] o c m b = absurd (none_in_empty c m)
one_comes w (t ∷ ts) o c m b = by (λ k. one_comes w ts o c k b) (contains_cases t.0 (type_numbers ts) c m)
  where
    by : (Contains (type_numbers ts) c → Comes w (map steps.Enter ts) o) → (c ≡ t.0) ⊎ Contains (type_numbers ts) c → Below w o t.0 ⊎ Comes w (map steps.Enter ts) o
    by more (inl e) = inl (subst (λ x. Below w o x) e b)
    by more (inr k) = inr (more k)

-- steps that enter
pub all_entered : (w : Typing) (os : List ℕ) (ts : List TypeId) → AreOpen w os (map steps.Enter ts)
all_entered w os [] = none
all_entered w os (t ∷ ts) = enter (all_entered w os ts)

pub entered_more : (xs : List Step) (t : TypeId) → AreEntered xs → AreEntered (xs ++ steps.Enter t ∷ [])
entered_more xs t (ts, e) = (ts ++ t ∷ [], ap (λ ys. ys ++ steps.Enter t ∷ []) e ∙ sym (map_end steps.Enter ts t))

pub entered_open : (w : Typing) (os : List ℕ) (xs : List Step) → AreEntered xs → AreOpen w os xs
entered_open w os xs (ts, e) = subst (AreOpen w os) (sym e) (all_entered w os ts)

-- a type's objects are its own, and those of the types directly below it
module _ (w : Typing) (g : Graph) (lists : List (Vec ObjectId)) (are : AreListed w g lists) (t : TypeId) (own : List ℕ) (below : List TypeId)
    (own_is : own ≡ list_of (object_lists lists) t.0) (below_is : type_numbers below ≡ list_of (type_lists g.below.items) t.0) where
  declared_own : (o : ℕ) → Contains own o → Contains w.declared (o, t.0)
  declared_own o m = (are.own t.0 o).0 (subst (λ xs. Contains xs o) own_is m)

  own_declared : (o : ℕ) → Contains w.declared (o, t.0) → Contains own o
  own_declared o m = subst (λ xs. Contains xs o) (sym own_is) ((are.own t.0 o).1 m)

  turned_back : (c : ℕ) → Contains (turned w.parents) (t.0, c) → Contains w.parents (c, t.0)
  turned_back c m =
      let (p, k, e) = map_mem (λ (q : ℕ × ℕ). (q.1, q.0)) w.parents (t.0, c) m in
      subst (λ (q : ℕ × ℕ). Contains w.parents q) (λ i. ((e i).1, (e i).0)) k

  child : (c : ℕ) → Contains (type_numbers below) c → Contains w.parents (c, t.0)
  child c m = turned_back c ((are.graph.below t.0 c).0 (subst (λ xs. Contains xs c) below_is m))

  is_child : (c : ℕ) → Contains w.parents (c, t.0) → Contains (type_numbers below) c
  is_child c m = subst (λ xs. Contains xs c) (sym below_is) ((are.graph.below t.0 c).1 (mem_map (λ (q : ℕ × ℕ). (q.1, q.0)) w.parents (c, t.0) m))

  comes_to : (o : ℕ) → Contains own o ⊎ Comes w (map steps.Enter below) o → Below w o t.0
  comes_to o (inl m) = (t.0, declared_own o m, same)
  comes_to o (inr c) = let (x, m, b) = comes_one w below o c in below_up w o x t.0 b (child x m)

  comes_from : (o : ℕ) → Below w o t.0 → Contains own o ⊎ Comes w (map steps.Enter below) o
  comes_from o b = by (below_cases w o t.0 b)
    where
      by : Contains w.declared (o, t.0) ⊎ ((c : ℕ) × Contains w.parents (c, t.0) × Below w o c) → Contains own o ⊎ Comes w (map steps.Enter below) o
      by (inl m) = inl (own_declared o m)
      by (inr (c, m, d)) = inr (one_comes w below o c (is_child c m) d)

  -- the type itself is open, its own objects at the end of the line
  opened : (os : List ℕ) → IsOpen w (os ++ own) t.0 (length os) (map steps.Enter below)
  opened os = (omega (arith, length-append os own), λ o. (to o, from o))
    where
      to : (o : ℕ) → Contains (drop (length os) (os ++ own)) o ⊎ Comes w (map steps.Enter below) o → Below w o t.0
      to o (inl m) = comes_to o (inl (subst (λ xs. Contains xs o) (drop_whole os own) m))
      to o (inr c) = comes_to o (inr c)

      from : (o : ℕ) → Below w o t.0 → Contains (drop (length os) (os ++ own)) o ⊎ Comes w (map steps.Enter below) o
      from o b = by (comes_from o b)
        where
          by : Contains own o ⊎ Comes w (map steps.Enter below) o → Contains (drop (length os) (os ++ own)) o ⊎ Comes w (map steps.Enter below) o
          by (inl m) = inl (subst (λ xs. Contains xs o) (sym (drop_whole os own)) m)
          by (inr c) = inr c

  -- those that wait for it stay open
  module _ (os : List ℕ) where
    still : (u start : ℕ) (xs : List Step) → IsOpen w os u start (xs ++ steps.Enter t ∷ []) → IsOpen w (os ++ own) u start (xs ++ steps_of t (length os) below)
    still u start xs is = (omega (arith, is.0, length-append os own), λ o. (to o, from o))
      where
        longer : drop start (os ++ own) ≡ drop start os ++ own
        longer = drop_append start os own is.0

        to : (o : ℕ) → Contains (drop start (os ++ own)) o ⊎ Comes w (xs ++ steps_of t (length os) below) o → Below w o u
        to o (inl m) = by (Contains-append_cases (drop start os) own o (subst (λ ys. Contains ys o) longer m))
          where
            by : Contains (drop start os) o ⊎ Contains own o → Below w o u
            by (inl k) = (is.1 o).0 (inl k)
            by (inr k) = (is.1 o).0 (inr (comes_right w xs (steps.Enter t ∷ []) o (inl (comes_to o (inl k)))))
        to o (inr c) = by (comes_cases w xs (steps_of t (length os) below) o c)
          where
            by : Comes w xs o ⊎ Comes w (steps_of t (length os) below) o → Below w o u
            by (inl k) = (is.1 o).0 (inr (comes_left w xs (steps.Enter t ∷ []) o k))
            by (inr k) = (is.1 o).0 (inr (comes_right w xs (steps.Enter t ∷ []) o (inl (comes_to o (inr k)))))

        from : (o : ℕ) → Below w o u → Contains (drop start (os ++ own)) o ⊎ Comes w (xs ++ steps_of t (length os) below) o
        from o b = by ((is.1 o).1 b)
          where
            mine : Contains own o ⊎ Comes w (map steps.Enter below) o → Contains (drop start (os ++ own)) o ⊎ Comes w (xs ++ steps_of t (length os) below) o
            mine (inl m) = inl (subst (λ ys. Contains ys o) (sym longer) (Contains-append_right (drop start os) own o m))
            mine (inr c) = inr (comes_right w xs (steps_of t (length os) below) o c)

            last : Comes w (steps.Enter t ∷ []) o → Contains (drop start (os ++ own)) o ⊎ Comes w (xs ++ steps_of t (length os) below) o
            last (inl k) = mine (comes_from o k)
            last (inr k) = absurd k

            others : Comes w xs o ⊎ Comes w (steps.Enter t ∷ []) o → Contains (drop start (os ++ own)) o ⊎ Comes w (xs ++ steps_of t (length os) below) o
            others (inl k) = inr (comes_left w xs (steps_of t (length os) below) o k)
            others (inr k) = last k

            by : Contains (drop start os) o ⊎ Comes w (xs ++ steps.Enter t ∷ []) o → Contains (drop start (os ++ own)) o ⊎ Comes w (xs ++ steps_of t (length os) below) o
            by (inl m) = inl (subst (λ ys. Contains ys o) (sym longer) (Contains-append_left (drop start os) own o m))
            by (inr c) = others (comes_cases w xs (steps.Enter t ∷ []) o c)

    pub enters : (xs : List Step) → AreOpen w os (xs ++ steps.Enter t ∷ []) → AreOpen w (os ++ own) (xs ++ steps_of t (length os) below)
    enters [] h = leave (opened os) (all_entered w (os ++ own) below)
    enters (steps.Enter u ∷ xs) (enter h) = enter (enters xs h)
    enters (steps.Leave u start ∷ xs) (leave is h) = leave (still u.0 start xs is) (enters xs h)

-- a type that is left has its part
same_open : (w : Typing) (os : List ℕ) (u start : ℕ) (xs : List Step) (t : TypeId) (n : ℕ) → IsOpen w os u start (xs ++ steps.Leave t n ∷ []) → IsOpen w os u start xs
same_open w os u start xs t n is = (is.0, λ o. (to o, from o))
  where
    to : (o : ℕ) → Contains (drop start os) o ⊎ Comes w xs o → Below w o u
    to o (inl m) = (is.1 o).0 (inl m)
    to o (inr c) = (is.1 o).0 (inr (comes_left w xs (steps.Leave t n ∷ []) o c))

    from : (o : ℕ) → Below w o u → Contains (drop start os) o ⊎ Comes w xs o
    from o b = by ((is.1 o).1 b)
      where
        others : Comes w xs o ⊎ ⊥ → Contains (drop start os) o ⊎ Comes w xs o
        others (inl c) = inr c
        others (inr c) = absurd c

        by : Contains (drop start os) o ⊎ Comes w (xs ++ steps.Leave t n ∷ []) o → Contains (drop start os) o ⊎ Comes w xs o
        by (inl m) = inl m
        by (inr c) = others (comes_cases w xs (steps.Leave t n ∷ []) o c)

pub leaves : (w : Typing) (os : List ℕ) (t : TypeId) (n : ℕ) (xs : List Step) → AreOpen w os (xs ++ steps.Leave t n ∷ []) → IsOpen w os t.0 n [] × AreOpen w os xs
leaves w os t n [] (leave is h) = (is, h)
leaves w os t n (steps.Enter u ∷ xs) (enter h) = let (is, rest) = leaves w os t n xs h in (is, enter rest)
leaves w os t n (steps.Leave u start ∷ xs) (leave waits h) = let (is, rest) = leaves w os t n xs h in (is, leave (same_open w os u.0 start xs t n waits) rest)

-- parts stay where the line grows
pub part_grown : (w : Typing) (os more : List ℕ) (t : ℕ) (s : Span) → IsPart w os t s → IsPart w (os ++ more) t s
part_grown w os more t s is = record {
  rises = is.rises;
  within = omega (arith, is.within, length-append os more);
  exact = λ o. subst (λ xs. Contains xs o ↔ Below w o t) (sym whole) (is.exact o);
}
  where
    whole : part_of (os ++ more) s ≡ part_of os s
    whole =
        let long = length-drop s.start os in
        ap (take (s.end - s.start)) (drop_append s.start os more (omega (arith, is.rises, is.within))) ∙ take_append (s.end - s.start) (drop s.start os) more (omega (arith, long, is.rises, is.within))

pub parts_grown : (w : Typing) (os more : List ℕ) (spans : List (Option Span)) → AreParts w os spans → AreParts w (os ++ more) spans
parts_grown w os more spans are t s e = part_grown w os more t s (are t s e)

pub part_left : (w : Typing) (os : List ℕ) (t start : ℕ) (s : Span) → IsOpen w os t start [] → s.start ≡ start → s.end ≡ length os → IsPart w os t s
part_left w os t start s is starts ends = record {
  rises = omega (arith, is.0, starts, ends);
  within = omega (arith, ends);
  exact = λ o. (λ m. (is.1 o).0 (inl (subst (λ xs. Contains xs o) whole m)), λ b. by o ((is.1 o).1 b));
}
  where
    whole : part_of os s ≡ drop start os
    whole =
        let long = length-drop s.start os in
        take_all (s.end - s.start) (drop s.start os) (omega (arith, long, ends)) ∙ ap (λ n. drop n os) starts

    by : (o : ℕ) → Contains (drop start os) o ⊎ ⊥ → Contains (part_of os s) o
    by o (inl m) = subst (λ xs. Contains xs o) (sym whole) m
    by o (inr c) = absurd c

pub parts_left : (w : Typing) (os : List ℕ) (t start : ℕ) (old new : List (Option Span)) → IsOpen w os t start [] → AreParts w os old → IsLeft old t start (length os) new → AreParts w os new
parts_left w os t start old new is are left u s e = by (left u s e)
  where
    by : ((u ≡ t) × (s.start ≡ start) × (s.end ≡ length os)) ⊎ (slice_get old u ≡ Some (Some s)) → IsPart w os u s
    by (inl (same_type, starts, ends)) = subst (λ x. IsPart w os x s) (sym same_type) (part_left w os t start s is starts ends)
    by (inr f) = are u s f

-- the objects of a type, by its part
pub nested_range : (w : Typing) (n : Nested) → AreNested w n → (t : ℕ) (found : Option Span) (r : Range) → slice_get n.spans.items t ≡ Some found → (t ≡ 0 → ⊥) → IfSome found (IsPartOf n.line (range_view r)) → IsRange w (range_view r) t
nested_range w n are t found r at other told = by (are.have t (omega (arith, other)) within)
  where
    within : t < length n.spans.items
    within = got_within n.spans.items t found at

    by : (s : Span) × (slice_get n.spans.items t ≡ Some (Some s)) → IsRange w (range_view r) t
    by (s, e) = record { exact = λ o. (to o, from o); once = range_once r }
      where
        is : IsPart w n.line t s
        is = are.parts t s e

        found_is : found ≡ Some s
        found_is = same_some found (Some s) (sym at ∙ e)

        whole : range_view r ≡ part_of n.line s
        whole = (subst (λ f. IfSome f (IsPartOf n.line (range_view r))) found_is told) is.rises is.within

        to : (o : ℕ) → Contains (range_view r) o → Of w o t
        to o m =
            let (a, d, c) = (is.exact o).0 (subst (λ xs. Contains xs o) whole m) in
            ((All-contains (λ p. (p.0 < w.objects) × (p.1 < w.types)) w.declared (o, a) are.range.declared d).0, omega (arith, within, are.size), inr (a, d, c))

        from : (o : ℕ) → Of w o t → Contains (range_view r) o
        from o (o_in, t_in, inl zero_is) = absurd (other zero_is)
        from o (o_in, t_in, inr b) = subst (λ xs. Contains xs o) (sym whole) ((is.exact o).1 b)

pub nested_object : (w : Typing) (n : Nested) → AreNested w n → (r : Range) → range_view r ≡ n.all → IsRange w (range_view r) 0
nested_object w n are r is = record { exact = λ o. (to o, from o); once = range_once r }
  where
    to : (o : ℕ) → Contains (range_view r) o → Of w o 0
    to o m = ((are.all o).0 (subst (λ xs. Contains xs o) is m), are.range.object, inl refl)

    from : (o : ℕ) → Of w o 0 → Contains (range_view r) o
    from o of = subst (λ xs. Contains xs o) (sym is) ((are.all o).1 of.0)

-- no type has a number that is too great
pub nothing_of : (w : Typing) (r : Range) (t : ℕ) → range_view r ≡ [] → (t < w.types → ⊥) → IsRange w (range_view r) t
nothing_of w r t empty out = record { exact = λ o. (λ m. absurd (none_in_empty o (subst (λ xs. Contains xs o) empty m)), λ of. absurd (out of.1)); once = range_once r }

-- one step of a walk
pub walks_out : (w : Typing) (os : List ℕ) (xs left : List Step) (t : TypeId) (start : ℕ) (old new : List (Option Span)) → xs ≡ left ++ steps.Leave t start ∷ [] → IsLeft old t.0 start (length os) new
    → AreOpen w os xs × AreParts w os old → AreOpen w os left × AreParts w os new
walks_out w os xs left t start old new split put (waits, parts) =
    let (is, rest) = leaves w os t start left (subst (AreOpen w os) split waits) in
    (rest, parts_left w os t.0 start old new is parts put)

pub walks_in : (w : Typing) (g : Graph) (lists : List (Vec ObjectId)) → AreListed w g lists → (os os' : List ℕ) (xs left xs' : List Step) (t : TypeId) (own : List ℕ) (below : List TypeId) (spans : List (Option Span))
    → own ≡ list_of (object_lists lists) t.0 → type_numbers below ≡ list_of (type_lists g.below.items) t.0 → xs ≡ left ++ steps.Enter t ∷ [] → os' ≡ os ++ own → xs' ≡ left ++ steps_of t (length os) below
    → AreOpen w os xs × AreParts w os spans → AreOpen w os' xs' × AreParts w os' spans
walks_in w g lists are os os' xs left xs' t own below spans own_is below_is split grown more (waits, parts) =
    rw (grown, more) (enters w g lists are t own below own_is below_is os left (subst (AreOpen w os) split waits), parts_grown w os own spans parts)

-- parts that are there
pub some_there : (spans : List (Option Span)) (k : ℕ) → k < length spans → is_some (get_or spans k None) ≡ true → (s : Span) × (slice_get spans k ≡ Some (Some s))
some_there [] k lt e = absurd (omega (arith, lt))
some_there (None ∷ xs) zero lt e = absurd (let clash : false ≡ true = e in cc)
some_there (Some s ∷ xs) zero lt e = (s, refl)
some_there (x ∷ xs) (suc k) lt e = some_there xs k (omega (arith, lt)) e

pub part_more : (spans : List (Option Span)) (n : ℕ) → ((t : ℕ) → 0 < t → t < n → (s : Span) × (slice_get spans t ≡ Some (Some s))) → (s : Span) × (slice_get spans n ≡ Some (Some s))
    → (t : ℕ) → 0 < t → t < n + 1 → (s : Span) × (slice_get spans t ≡ Some (Some s))
part_more spans n before (s, e) t some lt = by (below_next t n lt)
  where
    by : (t < n) ⊎ (t ≡ n) → (r : Span) × (slice_get spans t ≡ Some (Some r))
    by (inl less) = before t some less
    by (inr is) = (s, ap (slice_get spans) is ∙ e)

pub no_parts : (w : Typing) (os : List ℕ) (n : ℕ) → AreParts w os (replicate n None)
no_parts w os n t s e = absurd (none_there n t s e)
  where
    none_there : (m k : ℕ) (r : Span) → slice_get (replicate m None) k ≡ Some (Some r) → ⊥
    none_there zero k r f = not_some (Some r) f
    none_there (suc m) zero r f = not_some r (same_some None (Some r) f)
    none_there (suc m) (suc k) r f = none_there m k r f

-- one object more of all
pub all_more : (n : ℕ) (os more : List ℕ) → AreAll n os → more ≡ os ++ n ∷ [] → AreAll (n + 1) more
all_more n os more all grown = subst (AreAll (n + 1)) (sym grown) (λ o. (to o, from o))
  where
    to : (o : ℕ) → Contains (os ++ n ∷ []) o → o < n + 1
    to o m = by (Contains-append_cases os (n ∷ []) o m)
      where
        by : Contains os o ⊎ Contains (n ∷ []) o → o < n + 1
        by (inl k) = let lt = (all o).0 k in omega (arith, lt)
        by (inr k) = last (contains_cases n [] o k)
          where
            last : (o ≡ n) ⊎ Contains [] o → o < n + 1
            last (inl e) = omega (arith, e)
            last (inr e) = absurd (none_in_empty o e)

    from : (o : ℕ) → o < n + 1 → Contains (os ++ n ∷ []) o
    from o lt = by (below_next o n lt)
      where
        by : (o < n) ⊎ (o ≡ n) → Contains (os ++ n ∷ []) o
        by (inl less) = Contains-append_left os (n ∷ []) o ((all o).1 less)
        by (inr e) = Contains-append_right os (n ∷ []) o (at_head n [] o e)

-- the lists of objects are those of a typing
pub are_listed : (w : Typing) (g : Graph) (lists : List (Vec ObjectId)) {P : Type 0} (pairs : List P) (object of : P → ℕ) → IsGraph w g → w.declared ≡ map (λ p. (object p, of p)) pairs
    → AreSeconds (map (λ p. (of p, object p)) pairs) (object_lists lists) → AreListed w g lists
are_listed w g lists {P} pairs object of graph is are = record { graph = graph; own = λ t o. (to t o, from t o) }
  where
    to : (t o : ℕ) → Contains (list_of (object_lists lists) t) o → Contains w.declared (o, t)
    to t o m =
        let (p, k, e) = map_mem (λ (q : P). (of q, object q)) pairs (t, o) ((are t o).0 m) in
        subst (λ ps. Contains ps (o, t)) (sym is) (subst (λ (q : ℕ × ℕ). Contains (map (λ p. (object p, of p)) pairs) q) (λ i. ((e i).1, (e i).0)) (mem_map (λ (q : P). (object q, of q)) pairs p k))

    from : (t o : ℕ) → Contains w.declared (o, t) → Contains (list_of (object_lists lists) t) o
    from t o m =
        let (p, k, e) = map_mem (λ (q : P). (object q, of q)) pairs (o, t) (subst (λ ps. Contains ps (o, t)) is m) in
        (are t o).1 (subst (λ (q : ℕ × ℕ). Contains (map (λ p. (of p, object p)) pairs) q) (λ i. ((e i).1, (e i).0)) (mem_map (λ (q : P). (of q, object q)) pairs p k))
