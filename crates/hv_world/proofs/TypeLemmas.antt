-- Facts on the lists that the types of a world keep.
use Rattle.std.proofs.Common.{◌≡◌, ◌≢◌, ◌<◌, ◌≤◌, ◌+◌, ◌-◌, ◌++◌, ◌↔◌, ◌⊎◌, inl, inr, ℕ, zero, suc, Bool, true, false, List, [], ◌∷◌, length, map, set, take, get_or, slice_index, if◌then◌else◌, ◌==◌, Result, Ok, Err, is_ok, refl, sym, ap, ◌∙◌, subst, arith}
use Rattle.std.specs.Prelude.{◌||◌}
use Rattle.std.specs.Global.{Vec}
use Rattle.std.specs.List.{All, AllPairs, Contains}
use Rattle.std.specs.List.Sorted.{IsStrictlyIncreasing, IsNonDecreasingBy, IsSearchInRange, IsBinarySearchResult}
use Rattle.std.specs.Ordering.{nat_cmp, ordering_index}
use Rattle.std.proofs.lemmas.Cmp.{ranked}
use Rattle.std.proofs.lemmas.List.Kept.{AllPairs-from_increasing}
use Rattle.std.proofs.lemmas.Bool.{cases_eq, cases_lt}
use Rattle.std.proofs.lemmas.Bool.Decides.{nat_tests}
use Rattle.std.proofs.lemmas.List.{length-set, get_or-set_same, get_or-set_other, get_or-map, map-set, map_push, map_more, map-append, length-map, set-get_or}
use Rattle.std.proofs.lemmas.List.Elements.{All-head, All-tail, All-push, All-map, All-contains, All-weaker, Contains-get_or, Contains-append_left, Contains-append_right, Contains-push, Contains-push_cases, Contains-append_cases}
use Rattle.std.proofs.lemmas.List.Quantifiers.{all_pairs_push}
use Rattle.hv_lists.proofs.Contained.{contains_first, none_in_empty, in_tail}
use Rattle.hv_world.specs.declared.id.TypeId.{TypeId}
use Rattle.hv_world.specs.declared.id.ObjectId.{ObjectId}
use Rattle.hv_world.specs.declared.lists.direct.DirectTypes.{DirectTypes}
use Rattle.hv_world.specs.Types.{Typing, Reaches, same, up, Of, object_numbers}
use Rattle.hv_lists.specs.Lists.{Once}
use Rattle.hv_world.specs.inside.Bases.{AreShared}
use Rattle.hv_world.specs.inside.TypeLists.{list_of, type_numbers, direct_lists, object_lists, AreSeconds, AreInOrder, Climbs, stays, steps, ClimbsFrom, AscendsBelow, IsPut, IsPutAbove, AreMembersBelow}

-- a number whose list has a member has a list
pub has_list : (lists : List (List ℕ)) (t x : ℕ) → Contains (list_of lists t) x → t < length lists
has_list [] t x m = absurd (none_in_empty x m)
has_list (l ∷ ls) zero x m = omega arith
has_list (l ∷ ls) (suc t) x m = let h : t < length ls = has_list ls t x m in omega arith

-- lists with nothing in them
pub all_empty_by : {V X : Type 0} (of : V → List X) (f : X → ℕ) (lists : List V) → All (λ v. of v ≡ []) lists → (i : ℕ) → list_of (map (λ v. map f (of v)) lists) i ≡ []
all_empty_by of f [] h i = refl
all_empty_by of f (v ∷ vs) h zero = ap (map f) (All-head (λ v. of v ≡ []) v vs h)
all_empty_by of f (v ∷ vs) h (suc i) = all_empty_by of f vs (All-tail (λ v. of v ≡ []) v vs h) i

pub all_empty : {X : Type 0} (f : X → ℕ) (lists : List (Vec X)) → All (λ v. v.items ≡ []) lists → (i : ℕ) → list_of (map (λ v. map f v.items) lists) i ≡ []
all_empty f lists h i = all_empty_by (λ v. v.items) f lists h i

-- one list changed
pub list_set_same : (lists : List (List ℕ)) (a : ℕ) (xs : List ℕ) → a < length lists → list_of (set lists a xs) a ≡ xs
list_set_same lists a xs lt = get_or-set_same lists a xs [] lt

pub list_set_other : (lists : List (List ℕ)) (a t : ℕ) (xs : List ℕ) → t ≢ a → list_of (set lists a xs) t ≡ list_of lists t
list_set_other lists a t xs ne = get_or-set_other lists a t xs [] ne

pub group_none : (lists : List (List ℕ)) → ((i : ℕ) → list_of lists i ≡ []) → AreSeconds [] lists
group_none lists h a b = (λ m. absurd (none_in_empty b (subst (λ xs. Contains xs b) (h a) m)), λ m. absurd (none_in_empty (a, b) m))

-- what a changed list has
in_changed : (lists : List (List ℕ)) (a t x : ℕ) (xs : List ℕ) → a < length lists → t ≡ a → Contains xs x → Contains (list_of (set lists a xs) t) x
in_changed lists a t x xs lt e m = subst (λ ys. Contains ys x) (sym (ap (list_of (set lists a xs)) e ∙ list_set_same lists a xs lt)) m

from_changed : (lists : List (List ℕ)) (a t x : ℕ) (xs : List ℕ) → a < length lists → t ≡ a → Contains (list_of (set lists a xs) t) x → Contains xs x
from_changed lists a t x xs lt e m = subst (λ ys. Contains ys x) (ap (list_of (set lists a xs)) e ∙ list_set_same lists a xs lt) m

in_other : (lists : List (List ℕ)) (a t x : ℕ) (xs : List ℕ) → t ≢ a → Contains (list_of lists t) x → Contains (list_of (set lists a xs) t) x
in_other lists a t x xs ne m = subst (λ ys. Contains ys x) (sym (list_set_other lists a t xs ne)) m

from_other : (lists : List (List ℕ)) (a t x : ℕ) (xs : List ℕ) → t ≢ a → Contains (list_of (set lists a xs) t) x → Contains (list_of lists t) x
from_other lists a t x xs ne m = subst (λ ys. Contains ys x) (list_set_other lists a t xs ne) m

first_same : (a c b d : ℕ) → ◌≡◌ {A = ℕ × ℕ} (a, b) (c, d) → a ≡ c
first_same a c b d e = ap (λ (p : ℕ × ℕ). p.0) e

second_same : (a c b d : ℕ) → ◌≡◌ {A = ℕ × ℕ} (a, b) (c, d) → b ≡ d
second_same a c b d e = ap (λ (p : ℕ × ℕ). p.1) e

pair_same : (a c b d : ℕ) → a ≡ c → b ≡ d → ◌≡◌ {A = ℕ × ℕ} (a, b) (c, d)
pair_same a c b d e f = λ i. (e i, f i)

-- a pair more, and its second in the list of its first
pub pair_more : (pairs : List (ℕ × ℕ)) (lists : List (List ℕ)) (a b : ℕ) → a < length lists → AreSeconds pairs lists → AreSeconds (pairs ++ (a, b) ∷ []) (set lists a (list_of lists a ++ b ∷ []))
pair_more pairs lists a b lt h x y = (to (cases_eq x a), λ m. from (cases_eq x a) (Contains-push_cases pairs (a, b) (x, y) m))
  where
    at_push : Contains (list_of lists a) y ⊎ (b ≡ y) → x ≡ a → Contains (pairs ++ (a, b) ∷ []) (x, y)
    at_push (inl m) e = Contains-append_left pairs ((a, b) ∷ []) (x, y) ((h x y).0 (subst (λ n. Contains (list_of lists n) y) (sym e) m))
    at_push (inr f) e = subst (λ p. Contains (pairs ++ (a, b) ∷ []) p) (pair_same a x b y (sym e) f) (Contains-push pairs (a, b))

    to : (x ≡ a) ⊎ (x ≡ a → ⊥) → Contains (list_of (set lists a (list_of lists a ++ b ∷ [])) x) y → Contains (pairs ++ (a, b) ∷ []) (x, y)
    to (inl e) m = at_push (Contains-push_cases (list_of lists a) b y (from_changed lists a x y _ lt e m)) e
    to (inr ne) m = Contains-append_left pairs ((a, b) ∷ []) (x, y) ((h x y).0 (from_other lists a x y _ ne m))

    old : (x ≡ a) ⊎ (x ≡ a → ⊥) → Contains (list_of lists x) y → Contains (list_of (set lists a (list_of lists a ++ b ∷ [])) x) y
    old (inl e) m = in_changed lists a x y _ lt e (Contains-append_left (list_of lists a) (b ∷ []) y (subst (λ n. Contains (list_of lists n) y) e m))
    old (inr ne) m = in_other lists a x y _ ne m

    from : (x ≡ a) ⊎ (x ≡ a → ⊥) → Contains pairs (x, y) ⊎ ◌≡◌ {A = ℕ × ℕ} (a, b) (x, y) → Contains (list_of (set lists a (list_of lists a ++ b ∷ [])) x) y
    from cases (inl m) = old cases ((h x y).1 m)
    from cases (inr e) = in_changed lists a x y _ lt (sym (first_same a x b y e)) (subst (λ n. Contains (list_of lists a ++ b ∷ []) n) (second_same a x b y e) (Contains-push (list_of lists a) b))

-- ascending lists
pub at_most : (n : ℕ) (xs : List ℕ) → AscendsBelow (n + 1) xs → (Contains xs n → ⊥) → AscendsBelow n xs
at_most n xs h out = (
  h.0,
  λ k d lt.
      let le : get_or xs k d < n + 1 = h.1 k d lt in
      let ne : get_or xs k d ≢ n = λ e. out (subst (λ x. Contains xs x) e (Contains-get_or xs k d lt)) in
      omega arith,
)

pub widened : (n : ℕ) (xs : List ℕ) → AscendsBelow n xs → AscendsBelow (n + 1) xs
widened n xs h = (h.0, All-weaker (λ x. x < n) (λ x. x < n + 1) (λ x lt. omega arith) xs h.1)

pub ascends_push : (n : ℕ) (xs : List ℕ) → AscendsBelow n xs → AscendsBelow (n + 1) (xs ++ n ∷ [])
ascends_push n xs h =
    (all_pairs_push (λ x y. x < y) xs n h.0 h.1, All-push (λ x. x < n + 1) xs n (widened n xs h).1 (omega arith))

pub ascends_put : (n : ℕ) (xs : List ℕ) (b : Bool) (ys : List ℕ) → AscendsBelow (n + 1) xs → IsPut n xs b ys → AscendsBelow (n + 1) ys
ascends_put n xs true ys h put = rw (put.1) (ascends_push n xs (at_most n xs h put.0))
ascends_put n xs false ys h put = rw (put.1) h

pub put_keeps : (n : ℕ) (xs : List ℕ) (b : Bool) (ys : List ℕ) → IsPut n xs b ys → (x : ℕ) → Contains xs x → Contains ys x
put_keeps n xs true ys put x m = rw (put.1) (Contains-append_left xs (n ∷ []) x m)
put_keeps n xs false ys put x m = rw (put.1) m

pub put_has : (n : ℕ) (xs : List ℕ) (b : Bool) (ys : List ℕ) → IsPut n xs b ys → Contains ys n
put_has n xs true ys put = rw (put.1) (Contains-push xs n)
put_has n xs false ys put = rw (put.1) put.0

pub put_cases : (n : ℕ) (xs : List ℕ) (b : Bool) (ys : List ℕ) → IsPut n xs b ys → (x : ℕ) → Contains ys x → Contains xs x ⊎ (x ≡ n)
put_cases n xs true ys put x m = turned (Contains-push_cases xs n x (subst (λ zs. Contains zs x) (put.1) m))
  where
    turned : Contains xs x ⊎ (n ≡ x) → Contains xs x ⊎ (x ≡ n)
    turned (inl k) = inl k
    turned (inr e) = inr (sym e)
put_cases n xs false ys put x m = inl (subst (λ zs. Contains zs x) (put.1) m)

-- an ascending list has each number once
pub once_from : (xs : List ℕ) → AllPairs (λ x y. x < y) xs → Once xs
once_from xs h = λ i j d lt k e. let less : get_or xs i d < get_or xs j d = h i j d lt k in let same_one : get_or xs i d ≡ get_or xs j d = e in absurd (omega (arith, less, same_one))

pub increasing_from : (xs : List ℕ) → AllPairs (λ x y. x < y) xs → IsStrictlyIncreasing xs
increasing_from xs h k lt = h k (k + 1) 0 (omega arith) lt

-- chains of declared pairs, and steps through the lists of parents
pub reaches : (pairs : List (ℕ × ℕ)) (lists : List (List ℕ)) → AreSeconds pairs lists → {a t : ℕ} → Climbs lists a t → Reaches pairs a t
reaches pairs lists h stays = same
reaches pairs lists h (steps {a} {b} {c} m rest) = up ((h a b).0 m) (reaches pairs lists h rest)

pub climbs : (pairs : List (ℕ × ℕ)) (lists : List (List ℕ)) → AreSeconds pairs lists → {a t : ℕ} → Reaches pairs a t → Climbs lists a t
climbs pairs lists h same = stays
climbs pairs lists h (up {a} {b} {c} m rest) = steps ((h a b).1 m) (climbs pairs lists h rest)

climbs_on : (lists : List (List ℕ)) {a b c : ℕ} → Climbs lists a b → Contains (list_of lists b) c → Climbs lists a c
climbs_on lists stays m = steps m stays
climbs_on lists (steps n rest) m = steps n (climbs_on lists rest m)

-- what has been done of putting a number above: the lists so far, and the types that wait
pub record IsClimbing (parents : List (List ℕ)) (starts : List ℕ) (n : ℕ) (old : List (List ℕ)) (waiting : List ℕ) (lists : List (List ℕ)) : Type 0 where
  pub size : length lists ≡ length old
  pub ascend : (t : ℕ) → AscendsBelow (n + 1) (list_of lists t)
  pub kept : (t x : ℕ) → Contains (list_of old t) x → Contains (list_of lists t) x
  pub sound : (t x : ℕ) → Contains (list_of lists t) x → Contains (list_of old t) x ⊎ ((x ≡ n) × ClimbsFrom parents starts t)
  pub waiting_within : (t : ℕ) → Contains waiting t → t < length old
  pub waiting_sound : (t : ℕ) → Contains waiting t → ClimbsFrom parents starts t
  pub begun : (t : ℕ) → Contains starts t → Contains (list_of lists t) n ⊎ Contains waiting t
  pub closed : (a b : ℕ) → Contains (list_of lists a) n → Contains (list_of parents a) b → Contains (list_of lists b) n ⊎ Contains waiting b

module _ (parents : List (List ℕ)) (starts : List ℕ) (n : ℕ) (old : List (List ℕ)) where
  pub climbing_begins : ((t : ℕ) → Contains starts t → t < length old) → ((t : ℕ) → AscendsBelow n (list_of old t)) → IsClimbing parents starts n old starts old
  climbing_begins within ascend =
      record {
        size = refl;
        ascend = λ t. widened n (list_of old t) (ascend t);
        kept = λ t x m. m;
        sound = λ t x m. inl m;
        waiting_within = within;
        waiting_sound = λ t m. (t, m, stays);
        begun = λ t m. inr m;
        closed = λ a b m edge. absurd (let lt : n < n = All-contains (λ x. x < n) (list_of old a) n (ascend a).1 m in omega arith);
      }

  -- nothing waits
  module _ (lists : List (List ℕ)) (so_far : IsClimbing parents starts n old [] lists) where
    marked : {a t : ℕ} → Climbs parents a t → Contains (list_of lists a) n → Contains (list_of lists t) n
    marked stays m = m
    marked (steps {a} {b} {c} edge rest) m = marked rest (elim (so_far.closed a b m edge) [ inl k ↦ k | inr w ↦ absurd (none_in_empty b w) ])

    from_start : (a t : ℕ) → Contains starts a → Climbs parents a t → Contains (list_of lists t) n
    from_start a t m rest = marked rest (elim (so_far.begun a m) [ inl k ↦ k | inr w ↦ absurd (none_in_empty a w) ])

    pub climbing_ends : IsPutAbove parents starts n old lists
    climbing_ends =
        record {
          size = so_far.size;
          ascend = so_far.ascend;
          members = λ t x. (so_far.sound t x, from t x);
        }
      where
        from : (t x : ℕ) → Contains (list_of old t) x ⊎ ((x ≡ n) × ClimbsFrom parents starts t) → Contains (list_of lists t) x
        from t x (inl m) = so_far.kept t x m
        from t x (inr (e, (a, m, rest))) = subst (λ y. Contains (list_of lists t) y) (sym e) (from_start a t m rest)

  -- the last that waits is taken
  module _ (lists : List (List ℕ)) (rest : List ℕ) (a : ℕ) (so_far : IsClimbing parents starts n old (rest ++ a ∷ []) lists) where
    pub taken_within : a < length lists
    taken_within = let lt : a < length old = so_far.waiting_within a (Contains-push rest a) in omega (arith, so_far.size)

    there : (t : ℕ) → Contains (list_of lists a) n → Contains (list_of lists t) n ⊎ Contains (rest ++ a ∷ []) t → Contains (list_of lists t) n ⊎ Contains rest t
    there t m (inl k) = inl k
    there t m (inr w) = waits (Contains-push_cases rest a t w)
      where
        waits : Contains rest t ⊎ (a ≡ t) → Contains (list_of lists t) n ⊎ Contains rest t
        waits (inl k) = inr k
        waits (inr e) = inl (subst (λ s. Contains (list_of lists s) n) e m)

    -- the number stands there
    pub climbing_passes : Contains (list_of lists a) n → IsClimbing parents starts n old rest lists
    climbing_passes m =
        record {
          size = so_far.size;
          ascend = so_far.ascend;
          kept = so_far.kept;
          sound = so_far.sound;
          waiting_within = λ t w. so_far.waiting_within t (Contains-append_left rest (a ∷ []) t w);
          waiting_sound = λ t w. so_far.waiting_sound t (Contains-append_left rest (a ∷ []) t w);
          begun = λ t s. there t m (so_far.begun t s);
          closed = λ x y k edge. there y m (so_far.closed x y k edge);
        }

    -- the number is put, and the parents wait
    module _ (xs : List ℕ) (put : IsPut n (list_of lists a) true xs) where
      old_in : (t x : ℕ) → Contains (list_of lists t) x → Contains (list_of (set lists a xs) t) x
      old_in t x m = elim (cases_eq t a) [
        | inl e ↦ in_changed lists a t x xs taken_within e (put_keeps n (list_of lists a) true xs put x (subst (λ s. Contains (list_of lists s) x) e m))
        | inr ne ↦ in_other lists a t x xs ne m
      ]

      new_in : (t : ℕ) → t ≡ a → Contains (list_of (set lists a xs) t) n
      new_in t e = in_changed lists a t n xs taken_within e (put_has n (list_of lists a) true xs put)

      new_cases : (t x : ℕ) → Contains (list_of (set lists a xs) t) x → Contains (list_of lists t) x ⊎ ((x ≡ n) × (t ≡ a))
      new_cases t x m = elim (cases_eq t a) [
        | inl e ↦ at_it e (put_cases n (list_of lists a) true xs put x (from_changed lists a t x xs taken_within e m))
        | inr ne ↦ inl (from_other lists a t x xs ne m)
      ]
        where
          at_it : t ≡ a → Contains (list_of lists a) x ⊎ (x ≡ n) → Contains (list_of lists t) x ⊎ ((x ≡ n) × (t ≡ a))
          at_it e (inl k) = inl (subst (λ s. Contains (list_of lists s) x) (sym e) k)
          at_it e (inr f) = inr (f, e)

      a_is_sound : ClimbsFrom parents starts a
      a_is_sound = so_far.waiting_sound a (Contains-push rest a)

      ascends_all : (t : ℕ) → AscendsBelow (n + 1) (list_of (set lists a xs) t)
      ascends_all t = elim (cases_eq t a) [
        | inl e ↦ subst (AscendsBelow (n + 1)) (sym (ap (list_of (set lists a xs)) e ∙ list_set_same lists a xs taken_within)) (ascends_put n (list_of lists a) true xs (so_far.ascend a) put)
        | inr ne ↦ subst (AscendsBelow (n + 1)) (sym (list_set_other lists a t xs ne)) (so_far.ascend t)
      ]

      sound_all : (t x : ℕ) → Contains (list_of lists t) x ⊎ ((x ≡ n) × (t ≡ a)) → Contains (list_of old t) x ⊎ ((x ≡ n) × ClimbsFrom parents starts t)
      sound_all t x (inl m) = so_far.sound t x m
      sound_all t x (inr (e, f)) = inr (e, subst (ClimbsFrom parents starts) (sym f) a_is_sound)

      on_from_a : (t : ℕ) → ClimbsFrom parents starts a → Contains (list_of parents a) t → ClimbsFrom parents starts t
      on_from_a t (s, m, chain) edge = (s, m, climbs_on parents chain edge)

      moved : (t : ℕ) → Contains (list_of lists t) n ⊎ Contains (rest ++ a ∷ []) t → Contains (list_of (set lists a xs) t) n ⊎ Contains (rest ++ list_of parents a) t
      moved t (inl m) = inl (old_in t n m)
      moved t (inr w) = waits (Contains-push_cases rest a t w)
        where
          waits : Contains rest t ⊎ (a ≡ t) → Contains (list_of (set lists a xs) t) n ⊎ Contains (rest ++ list_of parents a) t
          waits (inl k) = inr (Contains-append_left rest (list_of parents a) t k)
          waits (inr e) = inl (new_in t (sym e))

      closed_all : (x y : ℕ) → Contains (list_of lists x) n ⊎ ((n ≡ n) × (x ≡ a)) → Contains (list_of parents x) y → Contains (list_of (set lists a xs) y) n ⊎ Contains (rest ++ list_of parents a) y
      closed_all x y (inl m) edge = moved y (so_far.closed x y m edge)
      closed_all x y (inr (e, f)) edge = inr (Contains-append_right rest (list_of parents a) y (subst (λ s. Contains (list_of parents s) y) f edge))

      pub climbing_goes_on : ((t : ℕ) → Contains (list_of parents a) t → t < length old) → IsClimbing parents starts n old (rest ++ list_of parents a) (set lists a xs)
      climbing_goes_on within =
          record {
            size = length-set lists a xs ∙ so_far.size;
            ascend = ascends_all;
            kept = λ t x m. old_in t x (so_far.kept t x m);
            sound = λ t x m. sound_all t x (new_cases t x m);
            waiting_within = λ t w. within_all t (Contains-append_cases rest (list_of parents a) t w);
            waiting_sound = λ t w. sound_waits t (Contains-append_cases rest (list_of parents a) t w);
            begun = λ t s. moved t (so_far.begun t s);
            closed = λ x y m edge. closed_all x y (new_cases x n m) edge;
          }
        where
          within_all : (t : ℕ) → Contains rest t ⊎ Contains (list_of parents a) t → t < length old
          within_all t (inl k) = so_far.waiting_within t (Contains-append_left rest (a ∷ []) t k)
          within_all t (inr k) = within t k

          sound_waits : (t : ℕ) → Contains rest t ⊎ Contains (list_of parents a) t → ClimbsFrom parents starts t
          sound_waits t (inl k) = so_far.waiting_sound t (Contains-append_left rest (a ∷ []) t k)
          sound_waits t (inr k) = on_from_a t a_is_sound k

-- how much is left to climb at most: for each type whose list lacks the number, the type and its parents
abbrev pub has : ℕ → List ℕ → Bool
has n [] = false
has n (x ∷ xs) = (x == n) || has n xs

abbrev pub left : ℕ → List (List ℕ) → List (List ℕ) → ℕ
left n [] parents = 0
left n (xs ∷ lists) [] = 0
left n (xs ∷ lists) (ps ∷ parents) = (if has n xs then 0 else length ps + 1) + left n lists parents

has_not : (n : ℕ) (xs : List ℕ) → (Contains xs n → ⊥) → has n xs ≡ false
has_not n [] out = refl
has_not n (x ∷ xs) out =
    let ne : x ≡ n → ⊥ = λ e. out (subst (λ y. Contains (x ∷ xs) y) e (contains_first x xs)) in
    let later : has n xs ≡ false = has_not n xs (λ m. out (in_tail x xs n m)) in
    grind (arith, nat_tests)

has_push : (n : ℕ) (xs : List ℕ) → has n (xs ++ n ∷ []) ≡ true
has_push n [] = grind (arith, nat_tests)
has_push n (x ∷ xs) = let later : has n (xs ++ n ∷ []) ≡ true = has_push n xs in grind (arith, nat_tests)

less_left : (n : ℕ) (lists parents : List (List ℕ)) (a : ℕ) (xs : List ℕ) → a < length lists → length parents ≡ length lists → has n (list_of lists a) ≡ false → has n xs ≡ true
    → left n (set lists a xs) parents + (length (list_of parents a) + 1) ≡ left n lists parents
less_left n [] parents a xs lt size lacks got = absurd (omega arith)
less_left n (l ∷ lists) [] a xs lt size lacks got = absurd (omega arith)
less_left n (l ∷ lists) (p ∷ parents) zero xs lt size lacks got = rw (lacks, got) (omega arith)
less_left n (l ∷ lists) (p ∷ parents) (suc a) xs lt size lacks got =
    let later : left n (set lists a xs) parents + (length (list_of parents a) + 1) ≡ left n lists parents = less_left n lists parents a xs (omega arith) (omega arith) lacks got in
    omega arith

-- the objects before the next, and the next
module _ (w : Typing) (above direct old mid : List (List ℕ)) (n : ℕ) (b : Bool) (xs : List ℕ) (object : 0 < w.types) (lt : n < w.objects)
    (parents : AreSeconds w.parents above) (declared : AreSeconds w.declared direct)
    (before : AreMembersBelow n w old) (climbed : IsPutAbove above (list_of direct n) n old mid) (put : IsPut n (list_of mid 0) b xs) where
  within_mid : 0 < length mid
  within_mid = omega (arith, climbed.size, before.size)

  mid_of : (t o : ℕ) → Contains (list_of mid t) o → (o < n + 1) × Of w o t
  mid_of t o m = tell ((climbed.members t o).0 m)
    where
      in_range : t < w.types
      in_range = let h : t < length mid = has_list mid t o m in omega (arith, climbed.size, before.size)

      earlier : (o < n) × Of w o t → (o < n + 1) × Of w o t
      earlier (o_lt, of) = (omega arith, of)

      tell : Contains (list_of old t) o ⊎ ((o ≡ n) × ClimbsFrom above (list_of direct n) t) → (o < n + 1) × Of w o t
      tell (inl k) = earlier ((before.members t o).0 k)
      tell (inr (e, (a, d, chain))) = (omega arith, (omega arith, in_range, inr (a, (declared o a).0 (subst (λ k. Contains (list_of direct k) a) (sym e) d), reaches w.parents above parents chain)))

  to_new : (t o : ℕ) → Contains (list_of mid t) o → Contains (list_of (set mid 0 xs) t) o
  to_new t o m = elim (cases_eq t 0) [
    | inl e ↦ in_changed mid 0 t o xs within_mid e (put_keeps n (list_of mid 0) b xs put o (subst (λ s. Contains (list_of mid s) o) e m))
    | inr ne ↦ in_other mid 0 t o xs ne m
  ]

  new_of : (t o : ℕ) → Contains (list_of (set mid 0 xs) t) o → (o < n + 1) × Of w o t
  new_of t o m = elim (cases_eq t 0) [
    | inl e ↦ at_object e (put_cases n (list_of mid 0) b xs put o (from_changed mid 0 t o xs within_mid e m))
    | inr ne ↦ mid_of t o (from_other mid 0 t o xs ne m)
  ]
    where
      at_object : t ≡ 0 → Contains (list_of mid 0) o ⊎ (o ≡ n) → (o < n + 1) × Of w o t
      at_object e (inl k) = mid_of t o (subst (λ s. Contains (list_of mid s) o) (sym e) k)
      at_object e (inr f) = (omega arith, (omega arith, omega arith, inl e))

  next_in : (t o : ℕ) → o ≡ n → (t ≡ 0) ⊎ ((a : ℕ) × Contains w.declared (o, a) × Reaches w.parents a t) → Contains (list_of (set mid 0 xs) t) o
  next_in t o e (inl z) = in_changed mid 0 t o xs within_mid z (subst (Contains xs) (sym e) (put_has n (list_of mid 0) b xs put))
  next_in t o e (inr (a, d, chain)) =
      to_new t o ((climbed.members t o).1 (inr (e, (a, subst (λ k. Contains (list_of direct k) a) e ((declared o a).1 d), climbs w.parents above parents chain))))

  of_in : (t o : ℕ) → (o < n + 1) × Of w o t → Contains (list_of (set mid 0 xs) t) o
  of_in t o (below, of) = elim (cases_eq o n) [
    | inl e ↦ next_in t o e of.2
    | inr ne ↦ to_new t o ((climbed.members t o).1 (inl ((before.members t o).1 (omega arith, of))))
  ]

  ascends_next : (t : ℕ) → AscendsBelow (n + 1) (list_of (set mid 0 xs) t)
  ascends_next t = elim (cases_eq t 0) [
    | inl e ↦ subst (AscendsBelow (n + 1)) (sym (ap (list_of (set mid 0 xs)) e ∙ list_set_same mid 0 xs within_mid)) (ascends_put n (list_of mid 0) b xs (climbed.ascend 0) put)
    | inr ne ↦ subst (AscendsBelow (n + 1)) (sym (list_set_other mid 0 t xs ne)) (climbed.ascend t)
  ]

  pub next_object : AreMembersBelow (n + 1) w (set mid 0 xs)
  next_object =
      record {
        size = length-set mid 0 xs ∙ climbed.size ∙ before.size;
        ascend = ascends_next;
        members = λ t o. (new_of t o, of_in t o);
      }

-- no objects
pub no_objects : (w : Typing) (lists : List (List ℕ)) → length lists ≡ w.types → ((t : ℕ) → list_of lists t ≡ []) → AreMembersBelow 0 w lists
no_objects w lists size empty =
    record {
      size = size;
      ascend = λ t. subst (AscendsBelow 0) (sym (empty t)) (λ i j d i_lt lt. absurd (omega (arith, lt)), λ k d lt. absurd (omega (arith, lt)));
      members = λ t o. (λ m. absurd (none_in_empty o (subst (λ xs. Contains xs o) (empty t) m)), λ h. absurd (omega (arith, h.0)));
    }

-- all objects
pub all_members : (w : Typing) (lists : List (List ℕ)) → AreMembersBelow w.objects w lists → (t o : ℕ) → Contains (list_of lists t) o ↔ Of w o t
all_members w lists h t o = (λ m. ((h.members t o).0 m).1, λ of. (h.members t o).1 (of.0, of))

-- lists of vectors, as lists of numbers
pub at_map : {X : Type 0} (f : X → ℕ) (lists : List (Vec X)) (i : ℕ) (d : Vec X) → i < length lists → list_of (map (λ v. map f v.items) lists) i ≡ map f (get_or lists i d).items
at_map f lists i d lt = get_or-map (λ v. map f v.items) lists i d [] lt

pub set_map : {X : Type 0} (f : X → ℕ) (lists : List (Vec X)) (i : ℕ) (v : Vec X) → map (λ v. map f v.items) (set lists i v) ≡ set (map (λ v. map f v.items) lists) i (map f v.items)
set_map f lists i v = map-set (λ v. map f v.items) lists i v

module _ {V X : Type 0} (of : V → List X) (f : X → ℕ) (lists : List V) (i : ℕ) (v d : V) (lt : i < length lists) where
  abbrev numbers_of : V → List ℕ
  numbers_of u = map f (of u)

  -- a list grew by one
  pub pushed : (x : X) → of v ≡ of (get_or lists i d) ++ x ∷ [] → map numbers_of (set lists i v) ≡ set (map numbers_of lists) i (list_of (map numbers_of lists) i ++ f x ∷ [])
  pushed x e =
      map-set numbers_of lists i v
      ∙ ap (set (map numbers_of lists) i) (ap (map f) e ∙ map_push f (of (get_or lists i d)) x ∙ ap (λ xs. xs ++ f x ∷ []) (sym (get_or-map numbers_of lists i d [] lt)))

-- one step of the climb, where the type a was taken from the end of those that wait
module _ (parents : List (List ℕ)) (starts : List ℕ) (n : ℕ) (old : List (List ℕ)) (members : List (Vec ObjectId)) (waiting rest : List TypeId) (a : TypeId)
    (so_far : IsClimbing parents starts n old (type_numbers waiting) (object_lists members)) (taken : waiting ≡ rest ++ a ∷ []) where
  taken_from : IsClimbing parents starts n old (type_numbers rest ++ a.0 ∷ []) (object_lists members)
  taken_from = subst (λ ws. IsClimbing parents starts n old ws (object_lists members)) (ap type_numbers taken ∙ map_push (λ t. t.0) rest a) so_far

  in_lists : a.0 < length (object_lists members)
  in_lists = taken_within parents starts n old (object_lists members) (type_numbers rest) a.0 taken_from

  pub in_members : a.0 < length members
  in_members = omega (arith, in_lists, length-map members (λ v. object_numbers v.items))

  -- its vector is now v
  module _ (r v : Vec ObjectId) where
    list_at : list_of (object_lists members) a.0 ≡ object_numbers (get_or members a.0 r).items
    list_at = at_map (λ o. o.0) members a.0 r in_members

    pub ascends_at : AscendsBelow (n + 1) (object_numbers (get_or members a.0 r).items)
    ascends_at = subst (AscendsBelow (n + 1)) list_at (so_far.ascend a.0)

    put_at : (b : Bool) → IsPut n (object_numbers (get_or members a.0 r).items) b (object_numbers v.items) → IsPut n (list_of (object_lists members) a.0) b (object_numbers v.items)
    put_at b put = subst (λ xs. IsPut n xs b (object_numbers v.items)) (sym list_at) put

    changed : object_lists (set members a.0 v) ≡ set (object_lists members) a.0 (object_numbers v.items)
    changed = set_map (λ o. o.0) members a.0 v

    module _ (b : Bool) (was_put : b ≡ true) (put_b : IsPut n (object_numbers (get_or members a.0 r).items) b (object_numbers v.items)) where
      put : IsPut n (object_numbers (get_or members a.0 r).items) true (object_numbers v.items)
      put = subst (λ x. IsPut n (object_numbers (get_or members a.0 r).items) x (object_numbers v.items)) was_put put_b

      pub goes_on : (above : List TypeId) → type_numbers above ≡ list_of parents a.0 → ((t : ℕ) → Contains (list_of parents a.0) t → t < length old)
          → IsClimbing parents starts n old (type_numbers (rest ++ above)) (object_lists (set members a.0 v))
      goes_on above e within =
          let next = climbing_goes_on parents starts n old (object_lists members) (type_numbers rest) a.0 taken_from (object_numbers v.items) (put_at true put) within in
          let waits : type_numbers (rest ++ above) ≡ type_numbers rest ++ list_of parents a.0 = map-append (λ t. t.0) rest above ∙ ap (λ ts. type_numbers rest ++ ts) e in
          rw (waits, changed) next

      pub less_to_climb : length parents ≡ length old → left n (object_lists (set members a.0 v)) parents + (length (list_of parents a.0) + 1) ≡ left n (object_lists members) parents
      less_to_climb size =
          let here = put_at true put in
          let got : has n (object_numbers v.items) ≡ true = ap (has n) (here.1) ∙ has_push n (list_of (object_lists members) a.0) in
          let less = less_left n (object_lists members) parents a.0 (object_numbers v.items) in_lists (size ∙ sym so_far.size) (has_not n (list_of (object_lists members) a.0) here.0) got in
          rw changed less

    module _ (b : Bool) (stood : b ≡ false) (put_b : IsPut n (object_numbers (get_or members a.0 r).items) b (object_numbers v.items)) where
      stands : IsPut n (object_numbers (get_or members a.0 r).items) false (object_numbers v.items)
      stands = subst (λ x. IsPut n (object_numbers (get_or members a.0 r).items) x (object_numbers v.items)) stood put_b

      unchanged : object_lists (set members a.0 v) ≡ object_lists members
      unchanged = changed ∙ ap (set (object_lists members) a.0) ((put_at false stands).1) ∙ set-get_or (object_lists members) a.0 []

      pub passes : IsClimbing parents starts n old (type_numbers rest) (object_lists (set members a.0 v))
      passes = subst (IsClimbing parents starts n old (type_numbers rest)) (sym unchanged) (climbing_passes parents starts n old (object_lists members) (type_numbers rest) a.0 taken_from (put_at false stands).0)

      pub as_much_to_climb : left n (object_lists (set members a.0 v)) parents ≡ left n (object_lists members) parents
      as_much_to_climb = ap (λ lists. left n lists parents) unchanged

-- nothing waits any more
pub all_climbed : (parents : List (List ℕ)) (starts : List ℕ) (n : ℕ) (old lists : List (List ℕ)) (waiting : List TypeId) → length waiting ≡ 0 → IsClimbing parents starts n old (type_numbers waiting) lists → IsPutAbove parents starts n old lists
all_climbed parents starts n old lists [] e so_far = climbing_ends parents starts n old lists so_far
all_climbed parents starts n old lists (a ∷ waiting) e so_far = absurd (omega arith)

-- the end of an ascending list has the number, where it is there
module _ (n : ℕ) (objects : List ObjectId) (ascend : AscendsBelow (n + 1) (object_numbers objects)) where
  at_end : (last : ObjectId) → 0 < length objects → ((d : ObjectId) → last ≡ get_or objects (length objects - 1) d) → last.0 ≡ get_or (object_numbers objects) (length objects - 1) n
  at_end last some e = sym (get_or-map (λ o. o.0) objects (length objects - 1) last n (omega arith) ∙ ap (λ (o : ObjectId). o.0) (sym (e last)))

  pub end_has : (last : ObjectId) → 0 < length objects → ((d : ObjectId) → last ≡ get_or objects (length objects - 1) d) → (last.0 == n) ≡ true ↔ Contains (object_numbers objects) n
  end_has last some e = (to, from)
    where
      long : length (object_numbers objects) ≡ length objects
      long = length-map objects (λ o. o.0)

      to : (last.0 == n) ≡ true → Contains (object_numbers objects) n
      to test = let is_n : last.0 ≡ n = grind (arith, nat_tests) in (length objects - 1, omega (arith, long), sym (at_end last some e) ∙ is_n)

      is_last : (k : ℕ) → k < length objects → get_or (object_numbers objects) k n ≡ n → last.0 ≡ n
      is_last k lt at = tell (cases_eq (k + 1) (length objects))
        where
          tell : (k + 1 ≡ length objects) ⊎ (k + 1 ≡ length objects → ⊥) → last.0 ≡ n
          tell (inl is_end) = at_end last some e ∙ subst (λ i. get_or (object_numbers objects) i n ≡ n) {x = k} (omega arith) at
          tell (inr ne) =
              let further : get_or (object_numbers objects) k n < get_or (object_numbers objects) (length objects - 1) n = ascend.0 k (length objects - 1) n (omega arith) (omega (arith, long)) in
              let most : get_or (object_numbers objects) (length objects - 1) n < n + 1 = ascend.1 (length objects - 1) n (omega (arith, long)) in
              absurd (omega arith)

      from : Contains (object_numbers objects) n → (last.0 == n) ≡ true
      from m = let is_n : last.0 ≡ n = is_last m.0 (omega (arith, m.1, long)) m.2 in grind (arith, nat_tests)

-- one pair of the code more in the lists
pub grouped_more_by : {P V X : Type 0} (of : V → List X) (f : X → ℕ) (numbers : P → ℕ × ℕ) (pairs : List P) (i : ℕ) (p : P) (lists : List V) (a : ℕ) (v d : V) (b : X)
    → i < length pairs → numbers (get_or pairs i p) ≡ (a, f b) → a < length lists → of v ≡ of (get_or lists a d) ++ b ∷ []
    → AreSeconds (map numbers (take i pairs)) (map (λ u. map f (of u)) lists) → AreSeconds (map numbers (take (i + 1) pairs)) (map (λ u. map f (of u)) (set lists a v))
grouped_more_by of f numbers pairs i p lists a v d b lt e within grew h =
    let more : map numbers (take (i + 1) pairs) ≡ map numbers (take i pairs) ++ (a, f b) ∷ [] = map_more numbers pairs i p lt ∙ ap (λ x. map numbers (take i pairs) ++ x ∷ []) e in
    let lists_more : map (λ u. map f (of u)) (set lists a v) ≡ set (map (λ u. map f (of u)) lists) a (list_of (map (λ u. map f (of u)) lists) a ++ f b ∷ []) = pushed of f lists a v d within b grew in
    let long : length (map (λ u. map f (of u)) lists) ≡ length lists = length-map lists (λ u. map f (of u)) in
    rw (more, lists_more) (pair_more (map numbers (take i pairs)) (map (λ u. map f (of u)) lists) a (f b) (omega (arith, long)) h)

pub grouped_more : {P X : Type 0} (f : X → ℕ) (numbers : P → ℕ × ℕ) (pairs : List P) (i : ℕ) (p : P) (lists : List (Vec X)) (a : ℕ) (v d : Vec X) (b : X)
    → i < length pairs → numbers (get_or pairs i p) ≡ (a, f b) → a < length lists → v.items ≡ (get_or lists a d).items ++ b ∷ []
    → AreSeconds (map numbers (take i pairs)) (map (λ u. map f u.items) lists) → AreSeconds (map numbers (take (i + 1) pairs)) (map (λ u. map f u.items) (set lists a v))
grouped_more f numbers pairs i p lists a v d b lt e within grew h = grouped_more_by (λ u. u.items) f numbers pairs i p lists a v d b lt e within grew h

-- the numbers of the pairs are in their range
pub second_within : {P : Type 0} (numbers : P → ℕ × ℕ) (pairs : List P) (types : ℕ) → All (λ p. (numbers p).1 < types) pairs → (a b : ℕ) → Contains (map numbers pairs) (a, b) → b < types
second_within numbers pairs types all a b m = All-contains (λ q. q.1 < types) (map numbers pairs) (a, b) (All-map (λ q. q.1 < types) numbers pairs all) m

-- one in a list of one
only_one : (y x : ℕ) → Contains (y ∷ []) x → x ≡ y
only_one y x (zero, lt, e) = sym e
only_one y x (suc k, lt, e) = let within : suc k < 1 = lt in omega (arith, within)

-- what is declared of each object stands at the place of its number
pub seconds_in_order : (pairs : List (ObjectId × TypeId)) → AreInOrder pairs → AreSeconds (map (λ p. (p.0.0, p.1.0)) pairs) (map (λ p. p.1.0 ∷ []) pairs)
seconds_in_order pairs h a b =
    let other : ObjectId × TypeId = (record { 0 = a }, record { 0 = b }) in
    let p : ObjectId × TypeId = get_or pairs a other in
    let lists : List (List ℕ) = map (λ p. p.1.0 ∷ []) pairs in
    let numbers : List (ℕ × ℕ) = map (λ p. (p.0.0, p.1.0)) pairs in
    let listed : a < length pairs → list_of lists a ≡ p.1.0 ∷ [] = λ lt. get_or-map (λ p. p.1.0 ∷ []) pairs a other [] lt in
    let paired : a < length pairs → get_or numbers a (a, b) ≡ (p.0.0, p.1.0) = λ lt. get_or-map (λ p. (p.0.0, p.1.0)) pairs a other (a, b) lt in (
      λ m.
          let long : a < length lists = has_list lists a b m in
          let lt : a < length pairs = omega (arith, long, length-map pairs (λ p. p.1.0 ∷ [])) in
          let is : b ≡ p.1.0 = only_one p.1.0 b (subst (λ xs. Contains xs b) (listed lt) m) in
          let at : p.0.0 ≡ a = h a other lt in
          (a, omega (arith, lt, length-map {B = ℕ × ℕ} pairs (λ p. (p.0.0, p.1.0))), paired lt ∙ ap (λ n. (n, p.1.0)) at ∙ ap (λ n. (a, n)) (sym is)),
      λ m.
          let lt : m.0 < length pairs = let within = m.1 in omega (arith, within, length-map {B = ℕ × ℕ} pairs (λ p. (p.0.0, p.1.0))) in
          let q : ObjectId × TypeId = get_or pairs m.0 other in
          let is : (q.0.0, q.1.0) ≡ (a, b) = sym (get_or-map (λ p. (p.0.0, p.1.0)) pairs m.0 other (a, b) lt) ∙ m.2 in
          let at : m.0 ≡ a = sym (h m.0 other lt) ∙ ap (λ u. u.0) is in
          let listed_there : list_of lists m.0 ≡ q.1.0 ∷ [] = get_or-map (λ p. p.1.0 ∷ []) pairs m.0 other [] lt in
          let has : Contains (list_of lists m.0) b = subst (λ xs. Contains xs b) (sym (listed_there ∙ ap (λ u. u.1 ∷ []) is)) (contains_first b []) in
          subst (λ k. Contains (list_of lists k) b) at has,
    )

-- what waits at first is what is declared of the object
pub starts_are : (direct : DirectTypes) (n : ℕ) (waiting all : List TypeId) → waiting ≡ [] → type_numbers all ≡ type_numbers waiting ++ list_of (direct_lists direct) n
    → type_numbers all ≡ list_of (direct_lists direct) n
starts_are direct n waiting all none all_is = all_is ∙ ap (λ ts. type_numbers ts ++ list_of (direct_lists direct) n) none

pub put_above_as : (parents parents' : List (List ℕ)) (starts starts' : List ℕ) (n : ℕ) (old old' new : List (List ℕ)) → parents ≡ parents' → starts ≡ starts' → old ≡ old'
    → IsPutAbove parents starts n old new → IsPutAbove parents' starts' n old' new
put_above_as parents parents' starts starts' n old old' new p s o h = rw (← p, ← s, ← o) h

-- the object is put into the list of `object` last
pub object_put : (n : ℕ) (mid : List (Vec ObjectId)) (u v : Vec ObjectId) (b : Bool) → 0 < length mid → u ≡ get_or mid 0 u → IsPut n (object_numbers u.items) b (object_numbers v.items)
    → IsPut n (list_of (object_lists mid) 0) b (object_numbers v.items)
object_put n mid u v b lt u_is put =
    subst (λ xs. IsPut n xs b (object_numbers v.items)) (ap (λ x. object_numbers x.items) u_is ∙ sym (at_map (λ o. o.0) mid 0 u lt)) put

-- a binary search among ascending objects
module _ (objects : List ObjectId) (ascend : IsStrictlyIncreasing (object_numbers objects)) (n : ℕ) where
  far : AllPairs (λ x y. x < y) (object_numbers objects)
  far = AllPairs-from_increasing (object_numbers objects) ascend

  number_at : (i : ℕ) (d : ObjectId) → i < length objects → get_or (object_numbers objects) i n ≡ (get_or objects i d).0
  number_at i d lt = get_or-map (λ o. o.0) objects i d n lt

  comparisons_rise : IsNonDecreasingBy (λ o. ordering_index (nat_cmp o.0 n)) objects
  comparisons_rise i j d le lt = tell (cases_eq i j)
    where
      tell : (i ≡ j) ⊎ (i ≡ j → ⊥) → ordering_index (nat_cmp (get_or objects i d).0 n) ≤ ordering_index (nat_cmp (get_or objects j d).0 n)
      tell (inl e) = let same_index : ordering_index (nat_cmp (get_or objects i d).0 n) ≡ ordering_index (nat_cmp (get_or objects j d).0 n) = ap (λ k. ordering_index (nat_cmp (get_or objects k d).0 n)) e in omega arith
      tell (inr ne) =
          let rises : (get_or objects i d).0 < (get_or objects j d).0 =
          omega (arith, far i j n (omega arith) (omega (arith, length-map objects (λ o. o.0))), number_at i d (omega arith), number_at j d lt) in
          grind (arith, nat_tests)

  pub searched : (r : Result ℕ ℕ) → IsSearchInRange r (length objects) → IsBinarySearchResult (λ o. nat_cmp o.0 n) objects r → (is_ok r ≡ true) ↔ Contains (object_numbers objects) n
  searched (Ok i) in_range equal = (λ t. found, λ m. refl)
    where
      found : Contains (object_numbers objects) n
      found = (i, omega (arith, in_range, length-map objects (λ o. o.0)), number_at i (record { 0 = 0 }) in_range ∙ ranked _ n _ (sym (equal (record { 0 = 0 }))))
  searched (Err i) in_range parted = (λ t. absurd (let clash : false ≡ true = t in cc), λ m. absurd (apart m.0 (omega (arith, m.1, length-map objects (λ o. o.0))) m.2))
    where
      apart : (k : ℕ) → k < length objects → get_or (object_numbers objects) k n ≡ n → ⊥
      apart k lt e = tell (cases_lt k i)
        where
          tell : (k < i) ⊎ (i ≤ k) → ⊥
          tell (inl before) =
              let less : (get_or objects k (record { 0 = 0 })).0 < n = ranked _ n _ (sym ((parted comparisons_rise).0 k (record { 0 = 0 }) (omega arith) before)) in
              omega (arith, less, number_at k (record { 0 = 0 }) lt)
          tell (inr behind) =
              let more : n < (get_or objects k (record { 0 = 0 })).0 = ranked _ n _ (sym ((parted comparisons_rise).1 k (record { 0 = 0 }) behind lt)) in
              omega (arith, more, number_at k (record { 0 = 0 }) lt)

-- the list of a type's base is there
pub base_in : (w : Typing) (bases : List TypeId) (lists : List (Vec ObjectId)) (t : ℕ) (b : TypeId) → AreShared w (type_numbers bases) (object_lists lists) → t < length bases → b ≡ get_or bases t b
    → (slice_index (type_numbers bases) t ≡ b.0) × (t < w.types) × (b.0 < length lists)
base_in w bases lists t b h lt b_is =
    let long = length-map bases (λ (t : TypeId). t.0) in
    let t_in : t < w.types = omega (arith, lt, long, h.size) in
    let base : slice_index (type_numbers bases) t ≡ b.0 = get_or-map (λ (t : TypeId). t.0) bases t b 0 lt ∙ ap (λ (t : TypeId). t.0) (sym b_is) in
    let wide = length-map lists (λ (v : Vec ObjectId). object_numbers v.items) in
    (base, t_in, omega (arith, h.within t t_in, base, wide))

-- the objects of a type, as they stand in the vector of its base
pub listed : (w now : Typing) (bases : List TypeId) (lists read : List (Vec ObjectId)) (t : ℕ) (b : TypeId) (v : Vec ObjectId) (objects : List ObjectId)
    → AreShared w (type_numbers bases) (object_lists lists) → w ≡ now → t < length bases → b ≡ get_or bases t b → read ≡ lists → v ≡ get_or read b.0 v → objects ≡ v.items
    → ((o : ℕ) → Contains (object_numbers objects) o ↔ Of now o t) × AllPairs (λ x y. x < y) (object_numbers objects)
listed w now bases lists read t b v objects h w_is lt b_is read_is v_is objects_are =
    let (base, t_in, within) = base_in w bases lists t b h lt b_is in
    let items : object_numbers objects ≡ list_of (object_lists lists) b.0 =
    ap object_numbers (objects_are ∙ ap (λ u. u.items) v_is ∙ ap (λ l. (get_or l b.0 v).items) read_is) ∙ sym (at_map (λ o. o.0) lists b.0 v within) in
    rw (items, ← w_is) (λ o. subst (λ k. Contains (list_of (object_lists lists) k) o ↔ Of w o t) base (h.members t o t_in), (h.ascend b.0).0)
