-- An object is of the type that several names make where it is of one of the types that they name.
use Rattle.std.proofs.Common.{◌≡◌, ◌≢◌, ℕ, zero, suc, ◌+◌, ◌<◌, ◌≤◌, ◌⊎◌, inl, inr, ◌↔◌, Bool, true, false, not, cond, ◌||◌, List, [], ◌∷◌, ◌++◌, map, filter, length, get_or, position, Option, Some, None, option_map, bytes_eq, codes, if◌then◌else◌, All, Contains, refl, ap, sym, subst, ◌∙◌, arith}
use Rattle.std.specs.List.{list_any, position_or_len, flat_map}
use Rattle.std.specs.Cmp.Lexicographic.{bytes_decides}
use Rattle.std.proofs.lemmas.Bool.Decides.{nat_tests}
use Rattle.std.proofs.lemmas.List.Elements.{All-nil, All-contains, filter_passes, Contains-append_left, Contains-append_right, Contains-append_cases}
use Rattle.std.proofs.lemmas.List.Quantifiers.{position-Some}
use Rattle.hv_lists.proofs.Contained.{map_mem, mem_map, contains_first, in_tail, none_in_empty}
use Rattle.hv_syntax.specs.Values.{WordAt, Variable, Domain, Problem}
use Rattle.hv_world.specs.Names.{names, is_among, place_in, with_names, number_or, number_in}
use Rattle.hv_world.specs.Known.{Known, known_in, both_types}
use Rattle.hv_world.specs.Eithers.{all_variables, is_either, are_same, is_listed, with_lists, either_lists, either_place}
use Rattle.hv_world.specs.StaticRules.{IsStatic}
use Rattle.hv_world.specs.Types.{Typing, IsInRange, Reaches, same, up, Of, IsOfOne}
use Rattle.hv_world.specs.Worlds.{type_pair, either_pairs, eithers_pairs, either_number, variable_type, number_of_type, typing_by}
use Rattle.hv_world.proofs.OrderLists.{contains_cases}
use Rattle.hv_world.proofs.GatherLemmas.{same_decides, with_list, listed_itself}
use Rattle.hv_world.proofs.EitherLemmas.{seen_all}
use Rattle.hv_world.proofs.StaticLemmas.{parents_within, objects_within, typing_in_range}

-- chains
module _ (ps : List (ℕ × ℕ)) where
  last_step : {a t : ℕ} → Reaches ps a t → (a ≡ t) ⊎ ((b : ℕ) × Reaches ps a b × Contains ps (b, t))
  last_step same = inl refl
  last_step (up {a} {b} {c} first rest) = by (last_step rest) where
    by : (b ≡ c) ⊎ ((x : ℕ) × Reaches ps b x × Contains ps (x, c)) → (a ≡ c) ⊎ ((x : ℕ) × Reaches ps a x × Contains ps (x, c))
    by (inl e) = inr (a, same, subst (λ x. Contains ps (a, x)) e first)
    by (inr (x, r, m)) = inr (x, up first r, m)

  one_more : {a b t : ℕ} → Reaches ps a b → Contains ps (b, t) → Reaches ps a t
  one_more same m = up m same
  one_more (up first rest) m = up first (one_more rest m)

-- a type whose only children are these, and of which no object is declared
module _ (w : Typing) (t : ℕ) (bs : List ℕ) (range : IsInRange w) (below : t < w.types) (other : t ≢ 0) (children : (b : ℕ) → Contains w.parents (b, t) ↔ Contains bs b) (own : (o : ℕ) → Contains w.declared (o, t) → ⊥) (plain : Contains bs 0 → ⊥) where
  of_one : (o : ℕ) → Of w o t → IsOfOne w o bs
  of_one o (lt, _, inl e) = absurd (other e)
  of_one o (lt, _, inr (a, m, r)) = by (last_step w.parents r) where
    by : (a ≡ t) ⊎ ((b : ℕ) × Reaches w.parents a b × Contains w.parents (b, t)) → IsOfOne w o bs
    by (inl e) = absurd (own o (subst (λ x. Contains w.declared (o, x)) e m))
    by (inr (b, s, q)) = (b, (children b).0 q, (lt, (All-contains (λ x. (x.0 < w.types) × (x.1 < w.types)) w.parents (b, t) range.parents q).0, inr (a, m, s)))

  of_all : (o : ℕ) → IsOfOne w o bs → Of w o t
  of_all o (b, m, (lt, _, inl e)) = absurd (plain (subst (Contains bs) e m))
  of_all o (b, m, (lt, _, inr (a, d, r))) = (lt, below, inr (a, d, one_more w.parents r ((children b).1 m)))

  union : (o : ℕ) → Of w o t ↔ IsOfOne w o bs
  union o = (of_one o, of_all o)

-- the pairs of the or_right types
module _ (k : Known) where
  abbrev number : List ℕ → ℕ
  number n = number_in k.types n

  seconds : (t : ℕ) (nss : List (List (List ℕ))) (q : ℕ × ℕ) → Contains (eithers_pairs k t nss) q → t ≤ q.1
  seconds t [] q m = absurd (none_in_empty q m)
  seconds t (ns ∷ nss) q m = by (Contains-append_cases (either_pairs k t ns) (eithers_pairs k (suc t) nss) q m) (seconds (suc t) nss q) where
    by : Contains (either_pairs k t ns) q ⊎ Contains (eithers_pairs k (suc t) nss) q → (Contains (eithers_pairs k (suc t) nss) q → suc t ≤ q.1) → t ≤ q.1
    by (inl n) later = let e : t ≡ q.1 = ap (λ (x : ℕ × ℕ). x.1) (map_mem (λ n. (number n, t)) ns q n).2 in omega (arith, e)
    by (inr n) later = let le = later n in omega (arith, le)

  first_pair : (t : ℕ) (ns : List (List ℕ)) (b : ℕ) → Contains (either_pairs k t ns) (b, t) → Contains (map number ns) b
  first_pair t ns b m = let r = map_mem (λ n. (number n, t)) ns (b, t) m in subst (Contains (map number ns)) (ap (λ (x : ℕ × ℕ). x.0) r.2) (mem_map number ns r.0 r.1)

  pairs_at : (t : ℕ) (nss : List (List (List ℕ))) (b i : ℕ) → i < length nss → Contains (eithers_pairs k t nss) (b, t + i) → Contains (map number (get_or nss i [])) b
  pairs_at t [] b i lt m = absurd (none_in_empty (b, t + i) m)
  pairs_at t (ns ∷ nss) b zero lt m = by (Contains-append_cases (either_pairs k t ns) (eithers_pairs k (suc t) nss) (b, t + 0) m) where
    here : t + 0 ≡ t
    here = omega arith

    by : Contains (either_pairs k t ns) (b, t + 0) ⊎ Contains (eithers_pairs k (suc t) nss) (b, t + 0) → Contains (map number ns) b
    by (inl n) = first_pair t ns b (subst (λ x. Contains (either_pairs k t ns) (b, x)) here n)
    by (inr n) = let le = seconds (suc t) nss (b, t + 0) n in absurd (omega (arith, le))
  pairs_at t (ns ∷ nss) b (suc i) lt m = by (Contains-append_cases (either_pairs k t ns) (eithers_pairs k (suc t) nss) (b, t + suc i) m) (pairs_at (suc t) nss b i (omega arith)) where
    next : t + suc i ≡ suc t + i
    next = omega arith

    by : Contains (either_pairs k t ns) (b, t + suc i) ⊎ Contains (eithers_pairs k (suc t) nss) (b, t + suc i) → (Contains (eithers_pairs k (suc t) nss) (b, suc t + i) → Contains (map number (get_or nss i [])) b)
        → Contains (map number (get_or nss i [])) b
    by (inl n) later = let e : t ≡ t + suc i = ap (λ (x : ℕ × ℕ). x.1) (map_mem (λ n. (number n, t)) ns (b, t + suc i) n).2 in absurd (omega (arith, e))
    by (inr n) later = later (subst (λ x. Contains (eithers_pairs k (suc t) nss) (b, x)) next n)

  at_pairs : (t : ℕ) (nss : List (List (List ℕ))) (b i : ℕ) → i < length nss → Contains (map number (get_or nss i [])) b → Contains (eithers_pairs k t nss) (b, t + i)
  at_pairs t [] b i lt m = absurd (omega arith)
  at_pairs t (ns ∷ nss) b zero lt m =
      let here : t ≡ t + 0 = omega arith in
      let r = map_mem number ns b m in
      let pair : Contains (either_pairs k t ns) (b, t) = subst (λ x. Contains (either_pairs k t ns) (x, t)) r.2 (mem_map (λ n. (number n, t)) ns r.0 r.1) in
      subst (λ x. Contains (eithers_pairs k t (ns ∷ nss)) (b, x)) here (Contains-append_left (either_pairs k t ns) (eithers_pairs k (suc t) nss) (b, t) pair)
  at_pairs t (ns ∷ nss) b (suc i) lt m =
      let next : suc t + i ≡ t + suc i = omega arith in
      subst (λ x. Contains (eithers_pairs k t (ns ∷ nss)) (b, x)) next
      (Contains-append_right (either_pairs k t ns) (eithers_pairs k (suc t) nss) (b, suc t + i) (at_pairs (suc t) nss b i (omega arith) m))

-- names by sight begin with the first of them
begins : (m : List ℕ) (seen ns : List (List ℕ)) → (rest : List (List ℕ)) × (with_names (m ∷ seen) ns ≡ m ∷ rest)
begins m seen [] = (seen, refl)
begins m seen (n ∷ ns) = by (is_among (m ∷ seen) n) (begins m seen ns) (begins m (seen ++ n ∷ []) ns) where
  by : (b : Bool) → (rest : List (List ℕ)) × (with_names (m ∷ seen) ns ≡ m ∷ rest) → (rest : List (List ℕ)) × (with_names (m ∷ (seen ++ n ∷ [])) ns ≡ m ∷ rest)
      → (rest : List (List ℕ)) × (with_names (if b then m ∷ seen else m ∷ (seen ++ n ∷ [])) ns ≡ m ∷ rest)
  by true kept grown = kept
  by false kept grown = grown

-- of such a list the first name alone has number 0
zero_first : (m : List ℕ) (rest : List (List ℕ)) (n : List ℕ) → number_in (m ∷ rest) n ≡ 0 → n ≡ m
zero_first m rest n e = by (bytes_eq n m) refl e where
  further : (o : Option ℕ) → number_or (suc (length rest)) (option_map suc o) ≡ 0 → ⊥
  further None h = absurd (omega (arith, h))
  further (Some i) h = absurd (omega (arith, h))

  by : (b : Bool) → bytes_eq n m ≡ b → number_or (suc (length rest)) (if b then Some 0 else option_map suc (place_in rest n)) ≡ 0 → n ≡ m
  by true t h = (bytes_decides n m).0 t
  by false t h = absurd (further (place_in rest n) h)

first_zero : (m : List ℕ) (rest : List (List ℕ)) → number_in (m ∷ rest) m ≡ 0
first_zero m rest = ap (λ b. number_or (suc (length rest)) (if b then Some 0 else option_map suc (place_in rest m))) ((bytes_decides m m).1 refl)

-- among names are just those that are members
among_member : (ns : List (List ℕ)) (n : List ℕ) → is_among ns n ≡ true → Contains ns n
among_member [] n e = absurd (cc)
among_member (m ∷ ns) n e = by (bytes_eq n m) refl e (among_member ns n) where
  by : (b : Bool) → bytes_eq n m ≡ b → (b || is_among ns n) ≡ true → (is_among ns n ≡ true → Contains ns n) → Contains (m ∷ ns) n
  by true t h later = subst (Contains (m ∷ ns)) (sym ((bytes_decides n m).0 t)) (contains_first m ns)
  by false t h later = in_tail m ns n (later h)

member_among : (ns : List (List ℕ)) (n : List ℕ) → Contains ns n → is_among ns n ≡ true
member_among [] n m = absurd (none_in_empty n m)
member_among (x ∷ ns) n m = by (contains_cases x n ns m) (member_among ns n) where
  or_right : (b c : Bool) → c ≡ true → (b || c) ≡ true
  or_right true c e = refl
  or_right false c e = e

  by : (x ≡ n) ⊎ Contains ns n → (Contains ns n → is_among ns n ≡ true) → is_among (x ∷ ns) n ≡ true
  by (inl e) later = ap (λ b. b || is_among ns n) ((bytes_decides n x).1 (sym e))
  by (inr r) later = or_right (bytes_eq n x) (is_among ns n) (later r)

-- lists by sight have each of those that were to be seen
listed_front : (ys : List (List (List ℕ))) (x ns : List (List ℕ)) → is_listed ys ns ≡ true → is_listed (ys ++ x ∷ []) ns ≡ true
listed_front [] x ns h = absurd (cc)
listed_front (y ∷ ys) x ns h = by (are_same ns y) h (listed_front ys x ns) where
  by : (b : Bool) → (b || is_listed ys ns) ≡ true → (is_listed ys ns ≡ true → is_listed (ys ++ x ∷ []) ns ≡ true) → (b || is_listed (ys ++ x ∷ []) ns) ≡ true
  by true g later = refl
  by false g later = later g

listed_stays : (seen xs : List (List (List ℕ))) (ns : List (List ℕ)) → is_listed seen ns ≡ true → is_listed (with_lists seen xs) ns ≡ true
listed_stays seen [] ns e = e
listed_stays seen (x ∷ xs) ns e = listed_stays (with_list seen x) xs ns (noted (is_listed seen x)) where
  noted : (b : Bool) → is_listed (if b then seen else seen ++ x ∷ []) ns ≡ true
  noted true = e
  noted false = listed_front seen x ns e

listed_of : (seen xs : List (List (List ℕ))) (ns : List (List ℕ)) → Contains xs ns → is_listed (with_lists seen xs) ns ≡ true
listed_of seen [] ns m = absurd (none_in_empty ns m)
listed_of seen (x ∷ xs) ns m = by (contains_cases x ns xs m) (listed_of (with_list seen x) xs ns) where
  by : (x ≡ ns) ⊎ Contains xs ns → (Contains xs ns → is_listed (with_lists (with_list seen x) xs) ns ≡ true) → is_listed (with_lists seen (x ∷ xs)) ns ≡ true
  by (inl e) later = listed_stays (with_list seen x) xs ns (subst (λ z. is_listed (with_list seen z) ns ≡ true) (sym e) (listed_itself seen ns))
  by (inr r) later = later r

kept : {X : Type 0} (p : X → Bool) (xs : List X) (x : X) → p x ≡ true → Contains xs x → Contains (filter p xs) x
kept p [] x e m = absurd (none_in_empty x m)
kept p (y ∷ xs) x e m = by (p y) refl (contains_cases y x xs m) (kept p xs x e) where
  by : (b : Bool) → p y ≡ b → (y ≡ x) ⊎ Contains xs x → (Contains xs x → Contains (filter p xs) x) → Contains (cond b (y ∷ filter p xs) (filter p xs)) x
  by true t (inl s) later = subst (Contains (y ∷ filter p xs)) s (contains_first y (filter p xs))
  by true t (inr r) later = in_tail y (filter p xs) x (later r)
  by false t (inl s) later = let clash : p y ≡ true = ap p s ∙ e in absurd (cc)
  by false t (inr r) later = later r

within_of : {X : Type 0} (p : X → Bool) (xs : List X) → list_any p xs ≡ true → position_or_len p xs < length xs
within_of p [] e = absurd (cc)
within_of p (x ∷ xs) e = by (p x) e (within_of p xs) where
  by : (b : Bool) → (b || list_any p xs) ≡ true → (list_any p xs ≡ true → position_or_len p xs < length xs) → cond (not b) (1 + position_or_len p xs) 0 < suc (length xs)
  by true h later = omega arith
  by false h later = let lt = later h in omega (arith, lt)

placed : {X : Type 0} (p : X → Bool) (xs : List X) → list_any p xs ≡ true → position p xs ≡ Some (position_or_len p xs)
placed p xs e = let lt = within_of p xs e in grind (arith, nat_tests, lt)

module _ (d : Domain) (p : Problem) (static : IsStatic d p) where
  abbrev k : Known
  k = known_in d p

  abbrev w : Typing
  w = typing_by k d p

  abbrev range : IsInRange w
  range = typing_in_range d p static

  abbrev object : List ℕ
  object = codes "object"

  types_begin : (rest : List (List ℕ)) × (k.types ≡ object ∷ rest)
  types_begin = begins object [] (flat_map both_types d.types)

  object_zero : number_in k.types object ≡ 0
  object_zero = let b = types_begin in subst (λ ts. number_in ts object ≡ 0) (sym b.1) (first_zero object b.0)

  zero_object : (n : List ℕ) → number_in k.types n ≡ 0 → n ≡ object
  zero_object n e = let b = types_begin in zero_first object b.0 n (subst (λ ts. number_in ts n ≡ 0) b.1 e)

  -- one name
  one_type : (t o : ℕ) → Of w o t ↔ IsOfOne w o (t ∷ [])
  one_type t o = ((λ h. (t, contains_first t [], h)), back) where
    back : IsOfOne w o (t ∷ []) → Of w o t
    back (u, m, h) = by (contains_cases t u [] m) where
      by : (t ≡ u) ⊎ Contains [] u → Of w o t
      by (inl e) = subst (Of w o) (sym e) h
      by (inr n) = absurd (none_in_empty u n)

  -- several names with `object` among them
  objects_all : (ns : List (List ℕ)) → is_among ns object ≡ true → (o : ℕ) → Of w o 0 ↔ IsOfOne w o (map (number_in k.types) ns)
  objects_all ns e o = (to, from) where
    to : Of w o 0 → IsOfOne w o (map (number_in k.types) ns)
    to h = (0, subst (Contains (map (number_in k.types) ns)) object_zero (mem_map (number_in k.types) ns object (among_member ns object e)), h)

    from : IsOfOne w o (map (number_in k.types) ns) → Of w o 0
    from (t, m, h) = (h.0, range.object, inl refl)

  all_either : All (λ ns. is_either ns ≡ true) k.eithers
  all_either =
      let lists = map (λ v. names v.of) (all_variables d p) in
      seen_all (λ ns. is_either ns ≡ true) [] (filter is_either lists) (All-nil (λ ns. is_either ns ≡ true)) (filter_passes is_either lists)

  -- what has a place is that list
  at_place : (ns : List (List ℕ)) (i : ℕ) → either_place k.eithers ns ≡ Some i → (i < length k.eithers) × (ns ≡ get_or k.eithers i [])
  at_place ns i e = let r = position-Some (are_same ns) k.eithers i [] e in (r.0, (same_decides ns (get_or k.eithers i [])).0 r.1)

  no_either : (ns : List (List ℕ)) → is_either ns ≡ false → either_place k.eithers ns ≡ None
  no_either ns e = by (either_place k.eithers ns) refl where
    by : (o : Option ℕ) → either_place k.eithers ns ≡ o → o ≡ None
    by None h = refl
    by (Some i) h =
        let r = at_place ns i h in
        let is : is_either ns ≡ true = ap is_either r.1 ∙ all_either i [] r.0 in
        absurd (cc)

  -- several names, none of which is `object`
  module _ (ns : List (List ℕ)) (i : ℕ) (lt : i < length k.eithers) (is : ns ≡ get_or k.eithers i []) (plain : is_among ns object ≡ false) where
    abbrev t : ℕ
    t = length k.types + i

    abbrev bs : List ℕ
    bs = map (number_in k.types) ns

    behind : (q : ℕ × ℕ) → q.1 < length k.types → q.1 ≢ t
    behind q lt' e = absurd (omega (arith, e))

    child : (b : ℕ) → Contains w.parents (b, t) → Contains bs b
    child b m = by (Contains-append_cases (map (type_pair k) d.types) (eithers_pairs k (length k.types) k.eithers) (b, t) m) where
      by : Contains (map (type_pair k) d.types) (b, t) ⊎ Contains (eithers_pairs k (length k.types) k.eithers) (b, t) → Contains bs b
      by (inl n) = absurd (behind (b, t) (All-contains (λ q. (q.0 < length k.types) × (q.1 < length k.types)) (map (type_pair k) d.types) (b, t) (parents_within d p) n).1 refl)
      by (inr n) = subst (λ xs. Contains (map (number_in k.types) xs) b) (sym is) (pairs_at k (length k.types) k.eithers b i lt n)

    parent : (b : ℕ) → Contains bs b → Contains w.parents (b, t)
    parent b m =
        Contains-append_right (map (type_pair k) d.types) (eithers_pairs k (length k.types) k.eithers) (b, t)
        (at_pairs k (length k.types) k.eithers b i lt (subst (λ xs. Contains (map (number_in k.types) xs) b) is m))

    none_own : (o : ℕ) → Contains w.declared (o, t) → ⊥
    none_own o m = behind (o, t) (All-contains (λ q. (q.0 < length k.objects) × (q.1 < length k.types)) w.declared (o, t) (objects_within d p static) m).1 refl

    none_zero : Contains bs 0 → ⊥
    none_zero m =
        let r = map_mem (number_in k.types) ns 0 m in
        let there_is : is_among ns object ≡ true = member_among ns object (subst (Contains ns) (zero_object r.0 r.2) r.1) in
        absurd (cc)

    one_of_several : (o : ℕ) → Of w o t ↔ IsOfOne w o bs
    one_of_several o =
        let first : 0 < length k.types = below_types in
        union w t bs range (omega arith) (λ e. absurd (omega (arith, e, first))) (λ b. (child b, parent b)) none_own none_zero o
      where
        below_types : 0 < length k.types
        below_types = let b = types_begin in subst (λ ts. 0 < length ts) (sym b.1) (omega arith)

  several : (x y : WordAt) (ws : List WordAt) → Contains (map (λ v. names v.of) (all_variables d p)) (names (x ∷ y ∷ ws)) → (o : ℕ)
      → Of w o (number_of_type k (x ∷ y ∷ ws)) ↔ IsOfOne w o (map (number_in k.types) (names (x ∷ y ∷ ws)))
  several x y ws m o = by (is_among (names (x ∷ y ∷ ws)) object) refl where
    by : (b : Bool) → is_among (names (x ∷ y ∷ ws)) object ≡ b → Of w o (number_of_type k (x ∷ y ∷ ws)) ↔ IsOfOne w o (map (number_in k.types) (names (x ∷ y ∷ ws)))
    by true e =
        let none : either_place k.eithers (names (x ∷ y ∷ ws)) ≡ None = no_either (names (x ∷ y ∷ ws)) (ap not e) in
        subst (λ q. Of w o (either_number k q) ↔ IsOfOne w o (map (number_in k.types) (names (x ∷ y ∷ ws)))) (sym none) (objects_all (names (x ∷ y ∷ ws)) e o)
    by false e =
        let listed : is_listed k.eithers (names (x ∷ y ∷ ws)) ≡ true = listed_of [] (either_lists (all_variables d p)) (names (x ∷ y ∷ ws)) (kept is_either (map (λ v. names v.of) (all_variables d p)) (names (x ∷ y ∷ ws)) (ap not e) m) in
        let i = position_or_len (are_same (names (x ∷ y ∷ ws))) k.eithers in
        let some : either_place k.eithers (names (x ∷ y ∷ ws)) ≡ Some i = placed (are_same (names (x ∷ y ∷ ws))) k.eithers listed in
        let r = at_place (names (x ∷ y ∷ ws)) i some in
        subst (λ q. Of w o (either_number k q) ↔ IsOfOne w o (map (number_in k.types) (names (x ∷ y ∷ ws)))) (sym some) (one_of_several (names (x ∷ y ∷ ws)) i r.0 r.1 e o)

  pub either_is_union : (v : Variable) → Contains (all_variables d p) v → (v.of ≡ [] → ⊥) → (o : ℕ) → Of w o (variable_type k v) ↔ IsOfOne w o (map (λ x. number_in k.types x.text) v.of)
  either_is_union v m some o = by v.of refl where
    by : (ws : List WordAt) → v.of ≡ ws → Of w o (number_of_type k v.of) ↔ IsOfOne w o (map (λ x. number_in k.types x.text) v.of)
    by [] e = absurd (some e)
    by (x ∷ []) e = subst (λ ws. Of w o (number_of_type k ws) ↔ IsOfOne w o (map (λ x. number_in k.types x.text) ws)) (sym e) (one_type (number_in k.types x.text) o)
    by (x ∷ y ∷ ws) e =
        let place : Contains (map (λ u. names u.of) (all_variables d p)) (names (x ∷ y ∷ ws)) =
        subst (λ us. Contains (map (λ u. names u.of) (all_variables d p)) (names us)) e (mem_map (λ u. names u.of) (all_variables d p) v m) in
        let same_numbers : map (number_in k.types) (names (x ∷ y ∷ ws)) ≡ map (λ x. number_in k.types x.text) (x ∷ y ∷ ws) = numbers (x ∷ y ∷ ws) in
        subst (λ us. Of w o (number_of_type k us) ↔ IsOfOne w o (map (λ x. number_in k.types x.text) us)) (sym e)
        (subst (λ ts. Of w o (number_of_type k (x ∷ y ∷ ws)) ↔ IsOfOne w o ts) same_numbers (several x y ws place o))
      where
        numbers : (us : List WordAt) → map (number_in k.types) (names us) ≡ map (λ x. number_in k.types x.text) us
        numbers [] = refl
        numbers (u ∷ us) = ap (λ ts. number_in k.types u.text ∷ ts) (numbers us)
