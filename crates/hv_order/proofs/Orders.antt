-- The order of a method's subtasks: a row of them that it allows, and those before each.
use Rattle.std.proofs.Common.{◌≡◌, ℕ, zero, suc, ◌<◌, Bool, true, false, List, [], ◌∷◌, length, refl, sym, ap, ◌∙◌, subst, inl, inr, arith, ◌⊎◌, Contains, zero-add}
use Rattle.std.specs.Prelude.{map, filter, slice_index, cond}
use Rattle.std.specs.List.{slice_index_or, range_with_len}
use Rattle.std.proofs.lemmas.List.Elements.{All-contains, filter_passes}
use Rattle.std.proofs.lemmas.List.FromFn.{get_or-map-range_with_len, length-range_with_len}
use Rattle.std.proofs.lemmas.List.{length-map}
use Rattle.hv_lists.specs.Lists.{Once}
use Rattle.hv_lists.proofs.Contained.{at_head, in_tail, contains_cases, none_in_empty}
use Rattle.hv_lists.proofs.EachOnce.{once_head, once_tail, once_more}
use Rattle.hv_world.specs.Networks.{IsArrangeable}
use Rattle.hv_world.specs.Orders as world
use Rattle.hv_world.specs.Orders.{Written, IsPaired, Leads, one_step, more_steps, Before, IsRow, IsArrangement}
use Rattle.hv_plan.specs.Trees.{Item, Act, Task, Pre}
use Rattle.hv_plan.specs.PlanTrees.{countdown}
use Rattle.hv_order.specs.Meanings.{IsOrder, Meaning}
use Rattle.hv_order.specs.StandIns.{Comes, StandsFor, IsMatching}
use Rattle.hv_order.specs.Tables.{Respects, HasSort}
use Rattle.hv_order.specs.inside.Arrangements.{listed_before}
use Rattle.hv_order.specs.inside.Layouts.{IsInOrder, IsOrderOf, AreDirect}
use Rattle.hv_order.proofs.Members.{mem_map, mem_map_from, once_none, not_true, MappedFrom}
use Rattle.hv_order.proofs.Deciding.{is_yes, yes_tells}
use Rattle.hv_order.proofs.Pigeons.{same_default, as_many_below}
use Rattle.hv_order.proofs.TopologicalSorts.{sort_law}

pub leads_on : (P : ℕ → ℕ → Type 0) (i j k : ℕ) → Leads P i j → Leads P j k → Leads P i k
leads_on P i j k (one_step p) rest = more_steps p rest
leads_on P i j k (more_steps {k = m} p first) rest = more_steps p (leads_on P m j k first rest)

-- a member of a mapped list with each once
pub once_map : {X Y : Type 0} (f : X → Y) (xs : List X) → ((x y : X) → Contains xs x → Contains xs y → f x ≡ f y → x ≡ y) → Once xs → Once (map f xs)
once_map f [] alone once = once_none
once_map f (x ∷ xs) alone once =
    once_more (f x) (map f xs) absent
    (once_map f xs (λ a b m k e. alone a b (in_tail x xs a m) (in_tail x xs b k) e) (once_tail x xs once))
  where
    absent : Contains (map f xs) (f x) → ⊥
    absent m =
        let w = mem_map_from f (f x) xs m in
        let same = alone x w.source (at_head x xs x refl) (in_tail x xs w.source w.is_member) w.image in
        once_head x xs once (subst (Contains xs) (sym same) w.is_member)

-- the numbers below k
in_countdown : (k i : ℕ) → i < k → Contains (countdown k) i
in_countdown zero i lt = absurd (omega arith)
in_countdown (suc k) i lt = by (contains_or i k) (in_countdown k i)
  where
    contains_or : (i k : ℕ) → (i ≡ k) ⊎ ((i ≡ k) → ⊥)
    contains_or i k = grind arith

    by : (i ≡ k) ⊎ ((i ≡ k) → ⊥) → (i < k → Contains (countdown k) i) → Contains (k ∷ countdown k) i
    by (inl e) rest = at_head k (countdown k) i e
    by (inr other) rest = in_tail k (countdown k) i (rest (omega (arith, other)))

countdown_below : (k i : ℕ) → Contains (countdown k) i → i < k
countdown_below zero i m = absurd (none_in_empty i m)
countdown_below (suc k) i m = by (contains_cases k (countdown k) i m) (countdown_below k i)
  where
    by : (i ≡ k) ⊎ Contains (countdown k) i → (Contains (countdown k) i → i < k) → i < suc k
    by (inl e) rest = omega arith
    by (inr later) rest = let lt = rest later in omega arith

pub in_filter : {X : Type 0} (p : X → Bool) (xs : List X) (x : X) → Contains xs x → p x ≡ true → Contains (filter p xs) x
in_filter p [] x m passes = absurd (none_in_empty x m)
in_filter p (y ∷ ys) x m passes = by (p y) refl (contains_cases y ys x m) (λ k. in_filter p ys x k passes)
  where
    by : (b : Bool) → p y ≡ b → (x ≡ y) ⊎ Contains ys x → (Contains ys x → Contains (filter p ys) x) → Contains (cond b (y ∷ filter p ys) (filter p ys)) x
    by true e (inl same) rest = at_head y (filter p ys) x same
    by true e (inr later) rest = in_tail y (filter p ys) x (rest later)
    by false e (inl same) rest = not_true (sym e ∙ ap p (sym same) ∙ passes)
    by false e (inr later) rest = rest later

pub from_filter : {X : Type 0} (p : X → Bool) (xs : List X) (x : X) → Contains (filter p xs) x → Contains xs x
from_filter p [] x m = m
from_filter p (y ∷ ys) x m = by (p y) m (from_filter p ys x)
  where
    place : (x ≡ y) ⊎ Contains (filter p ys) x → (Contains (filter p ys) x → Contains ys x) → Contains (y ∷ ys) x
    place (inl e) rest = at_head y ys x e
    place (inr later) rest = in_tail y ys x (rest later)

    by : (b : Bool) → Contains (cond b (y ∷ filter p ys) (filter p ys)) x → (Contains (filter p ys) x → Contains ys x) → Contains (y ∷ ys) x
    by true k rest = place (contains_cases y (filter p ys) x k) rest
    by false k rest = in_tail y ys x (rest k)

module _ (n : Written) (arrangeable : IsArrangeable n) where
  paired_below : (i j : ℕ) → IsPaired n i j → i < n.len
  paired_below i j (inl c) = (All-contains (λ (p : ℕ × ℕ). (p.0 < n.len) × (p.1 < n.len)) n.pairs (i, j) arrangeable.pairs c).0
  paired_below i j (inr (ordered, less, within)) = omega arith

  before_below : (i j : ℕ) → Before n i j → i < n.len
  before_below i j (one_step p) = paired_below i j p
  before_below i j (more_steps {k = k} p rest) = paired_below i k p

  pub acyclic : (i : ℕ) → Before n i i → ⊥
  acyclic i b = arrangeable.acyclic (i, b)

  -- what a matching amounts to orders the children
  pub meaning_order : (xs : List Item) (k : ℕ) (child : ℕ → Item) (TrueAt : ℕ → Type 0) (c : Meaning) → IsMatching xs k child → StandsFor k child (Before n) TrueAt c → IsOrder xs c.before
  meaning_order xs k child TrueAt c matching stands = record {
    strict = λ x m e. strict x ((stands.before x x).0 e);
    passed = λ x y z a b d e f. (stands.before x z).1 (joined x y z ((stands.before x y).0 e) ((stands.before y z).0 f));
  }
    where
      strict : (x : Item) → Comes k child (Before n) x x → ⊥
      strict x w =
          let same = matching.once w.second w.first w.second_is w.first_is (w.of_second ∙ sym w.of_first) in
          acyclic w.first (subst (λ j. Before n w.first j) same w.before)

      joined : (x y z : Item) → Comes k child (Before n) x y → Comes k child (Before n) y z → Comes k child (Before n) x z
      joined x y z v w =
          let same = matching.once w.first v.second w.first_is v.second_is (w.of_first ∙ sym v.of_second) in
          record {
            first = v.first;
            second = w.second;
            first_is = v.first_is;
            second_is = w.second_is;
            of_first = v.of_first;
            of_second = w.of_second;
            before = leads_on (IsPaired n) v.first v.second w.second v.before (subst (λ i. Before n i w.second) same w.before);
          }

  -- the world's words for a row and for those directly before a subtask, in those of layouts
  row_in_order : (xs : List ℕ) → ((p q : ℕ) → p < length xs → q < length xs → Before n (slice_index xs p) (slice_index xs q) → p < q) → IsInOrder (Before n) xs
  row_in_order [] h = tt
  row_in_order (x ∷ xs) h = (
    (λ y (p, lt, e) b. absurd (let less : suc p < 0 = h (suc p) 0 (omega (arith, lt)) (omega arith) (subst (λ z. Before n z x) (sym (at_zero p lt y e)) b) in omega arith)),
    row_in_order xs (λ p q in_p in_q b. let less : suc p < suc q = h (suc p) (suc q) (omega arith) (omega arith) b in omega arith),
  )
    where
      at_zero : (p : ℕ) → p < length xs → (y : ℕ) → slice_index_or xs p y ≡ y → slice_index xs p ≡ y
      at_zero p lt y e = same_default xs p 0 y lt ∙ e

  pub row_allowed : (k : ℕ) (xs : List ℕ) → n.len ≡ k → IsArrangement n xs → IsOrderOf (λ j. j < k) (Before n) xs
  row_allowed k xs len row = record {
    has = λ j lt. row.whole j (omega arith);
    only = λ j m. let lt = row.within j m in omega arith;
    distinct = row.once;
    in_order = row_in_order xs row.in_order;
  }

  pub direct_allowed : (k j : ℕ) (is : List ℕ) → n.len ≡ k → world.AreDirect n j is → AreDirect (λ i. i < k) (Before n) j is
  direct_allowed k j is len direct = record {
    sound = λ i m. let b = direct.sound i m in let lt = before_below i j b in (omega arith, b);
    whole = λ i lt b. direct.whole i b;
  }

  module _ (decided : (i j : ℕ) → Before n i j ⊎ (Before n i j → ⊥)) where
    number : Item → ℕ
    number (Act k) = k
    number (Task k) = 0
    number (Pre k) = 0

    test : Item → Item → Bool
    test x y = is_yes (decided (number x) (number y))

    tests : (x y : Item) → test x y ≡ true → Before n (number x) (number y)
    unfolding test
    tests x y e = (yes_tells (decided (number x) (number y))).0 e

    tested : (x y : Item) → Before n (number x) (number y) → test x y ≡ true
    unfolding test
    tested x y b = (yes_tells (decided (number x) (number y))).1 b

    test_order : (xs : List Item) → IsOrder xs test
    test_order xs = record {
      strict = λ x m e. acyclic (number x) (tests x x e);
      passed = λ x y z a b c e f. tested x z (leads_on (IsPaired n) (number x) (number y) (number z) (tests x y e) (tests y z f));
    }

    numbers_in_order : (xs : List Item) → Respects test xs → IsInOrder (Before n) (map number xs)
    numbers_in_order [] respects = tt
    numbers_in_order (x ∷ xs) (before_rest, rest) = ((λ y m b. none y (mem_map_from number y xs m) b), numbers_in_order xs rest)
      where
        none : (y : ℕ) → MappedFrom number y xs → Before n y (number x) → ⊥
        none y w b = before_rest w.source w.is_member (tested w.source x (subst (λ z. Before n z (number x)) w.image b))

    -- each member of such a list is an action
    act_of : (k : ℕ) (x : Item) → Contains (map Act (countdown k)) x → (x ≡ Act (number x)) × (number x < k)
    unfolding number
    act_of k x m =
        let w = mem_map_from Act x (countdown k) m in
        let lt = countdown_below k w.source w.is_member in
        let same = ap number w.image in
        (w.image ∙ ap Act (sym same), rw same lt)

    -- there is a row of the subtasks that the order allows
    pub allowed_row : (k : ℕ) → (xs : List ℕ) × IsOrderOf (λ j. j < k) (Before n) xs
    unfolding number
    allowed_row k =
        let found = sort_law (map Act (countdown k)) test (test_order (map Act (countdown k))) in (
          map number found.sort,
          record {
            has = λ j lt. mem_map number (Act j) found.sort (found.is_sort.has (Act j) (mem_map Act j (countdown k) (in_countdown k j lt)));
            only = λ j m. only found j (mem_map_from number j found.sort m);
            distinct = once_map number found.sort (λ x y a b e. alone found x y a b e) found.is_sort.distinct;
            in_order = numbers_in_order found.sort found.is_sort.respects;
          },
        )
      where
        only : (found : HasSort (map Act (countdown k)) test) (j : ℕ) → MappedFrom number j found.sort → j < k
        only found j w = let (act, lt) = act_of k w.source (found.is_sort.only w.source w.is_member) in rw (w.image) lt

        alone : (found : HasSort (map Act (countdown k)) test) (x y : Item) → Contains found.sort x → Contains found.sort y → number x ≡ number y → x ≡ y
        alone found x y a b e =
            let (first, less) = act_of k x (found.is_sort.only x a) in
            let (second, fewer) = act_of k y (found.is_sort.only y b) in
            first ∙ ap Act e ∙ sym second

    all_before : ℕ → ℕ → List ℕ
    all_before k j = filter (λ i. is_yes (decided i j)) (countdown k)

    before_direct : (k j : ℕ) → AreDirect (λ i. i < k) (Before n) j (all_before k j)
    unfolding all_before
    before_direct k j = record {
      sound = λ i m. (countdown_below k i (from_filter (λ i. is_yes (decided i j)) (countdown k) i m), (yes_tells (decided i j)).0 (All-contains (λ i. is_yes (decided i j) ≡ true) (filter (λ i. is_yes (decided i j)) (countdown k)) i (filter_passes (λ i. is_yes (decided i j)) (countdown k)) m));
      whole = λ i lt b. inl (in_filter (λ i. is_yes (decided i j)) (countdown k) i (in_countdown k i lt) ((yes_tells (decided i j)).1 b));
    }

    -- a list of those before each subtask
    pub all_directs : ℕ → List (List ℕ)
    all_directs k = map (all_before k) (range_with_len 0 k)

    pub all_directs_count : (k : ℕ) → length (all_directs k) ≡ k
    unfolding all_directs
    all_directs_count k = length-map (range_with_len 0 k) (all_before k) ∙ length-range_with_len 0 k

    pub all_directs_are : (k j : ℕ) → j < k → AreDirect (λ i. i < k) (Before n) j (listed_before (all_directs k) j)
    unfolding all_directs
    all_directs_are k j lt =
        subst (λ is. AreDirect (λ i. i < k) (Before n) j is)
        (sym (get_or-map-range_with_len (all_before k) 0 k j j [] lt (zero-add j))) (before_direct k j)

-- a row of the numbers below n has as many
pub row_length : (Comes : ℕ → ℕ → Type 0) (n : ℕ) (xs : List ℕ) → IsRow Comes n xs → length xs ≡ n
row_length Comes n xs row = as_many_below n xs row.once row.within row.whole
