-- The worked examples: their tables by computation, and what the laws make of them.
use Rattle.std.proofs.Common.{◌≡◌, ℕ, zero, suc, Bool, true, List, [], ◌∷◌, refl, sym, ap, ◌∙◌, subst, arith, Contains, ◌<◌}
use Rattle.hv_lists.proofs.Contained.{at_head, in_tail, none_in_empty}
use Rattle.hv_lists.proofs.EachOnce.{once_more}
use Rattle.hv_plan.specs.Trees.{Item, Act, Task, Pre, itself, its_child, IsSubtask, IsTree, IsWithin, HasActions}
use Rattle.hv_order.specs.Meanings.{Meaning, IsOrder}
use Rattle.hv_order.specs.Tables.{IsSort, AreSorts, AreRootSorts}
use Rattle.hv_order.specs.Examples.{is_same, unordered, one_pair, middle, middle_children, middle_lines, middle_sort, middle_roots, reversed_roots, own_lines, WorkedExamples}
use Rattle.hv_order.proofs.Members.{and_left, and_right, number_from, not_true, once_none}
use Rattle.hv_order.proofs.Judgement.{judge_law}

same_from : (x y : Item) → is_same x y ≡ true → x ≡ y
same_from (Act a) (Act b) test = ap Act (number_from a b test)
same_from (Task a) (Task b) test = ap Task (number_from a b test)
same_from (Pre a) (Pre b) test = ap Pre (number_from a b test)
same_from (Act a) (Task b) test = not_true test
same_from (Act a) (Pre b) test = not_true test
same_from (Task a) (Act b) test = not_true test
same_from (Task a) (Pre b) test = not_true test
same_from (Pre a) (Act b) test = not_true test
same_from (Pre a) (Task b) test = not_true test

-- the items of one pair
pair_first : (a b x y : Item) → one_pair a b x y ≡ true → a ≡ x
pair_first a b x y test = same_from a x (and_left (is_same a x) (is_same b y) test)

pair_second : (a b x y : Item) → one_pair a b x y ≡ true → b ≡ y
pair_second a b x y test = same_from b y (and_right (is_same a x) (is_same b y) test)

pair_order : (xs : List Item) (a b : Item) → (a ≡ b → ⊥) → IsOrder xs (one_pair a b)
pair_order xs a b differ = record {
  strict = λ x m test. differ (pair_first a b x x test ∙ sym (pair_second a b x x test));
  passed = λ x y z i j k first second. absurd (differ (pair_first a b y z second ∙ sym (pair_second a b x y first)));
}

no_order : (xs : List Item) → IsOrder xs unordered
no_order xs = record { strict = λ x m test. not_true test; passed = λ x y z i j k first second. not_true first }

-- two items in an order that does not want the second first are sorted
pair_sort : (a b : Item) (xs : List Item) (before : Item → Item → Bool) → (a ≡ b → ⊥) → (before b a ≡ true → ⊥) → ((x : Item) → Contains xs x → Contains (a ∷ b ∷ []) x) → Contains xs a → Contains xs b → IsSort xs before (a ∷ b ∷ [])
pair_sort a b xs before differ allowed among first second = record {
  has = among;
  only = λ x m. only x m;
  distinct = once_more a (b ∷ []) (λ m. apart m) (once_more b [] (λ m. none_in_empty b m) once_none);
  respects = ((λ y m test. respected y m test), ((λ y m test. none_in_empty y m), tt));
}
  where
    only : (x : Item) → Contains (a ∷ b ∷ []) x → Contains xs x
    only x (zero, lt, e) = let P : Item → Type 0 = λ z. Contains xs z in subst P e first
    only x (suc zero, lt, e) = let P : Item → Type 0 = λ z. Contains xs z in subst P e second
    only x (suc (suc k), lt, e) = absurd (let few : suc (suc k) < 2 = lt in omega (arith, few))

    apart : Contains (b ∷ []) a → ⊥
    apart (zero, lt, e) = differ (sym e)
    apart (suc k, lt, e) = let few : suc k < 1 = lt in omega (arith, few)

    respected : (y : Item) → Contains (b ∷ []) y → before y a ≡ true → ⊥
    respected y (zero, lt, e) test = allowed (let P : Item → Type 0 = λ z. before z a ≡ true in subst P (sym e) test)
    respected y (suc k, lt, e) test = let few : suc k < 1 = lt in omega (arith, few)

no_sort : (before : Item → Item → Bool) → IsSort [] before []
no_sort before = record { has = λ x m. m; only = λ x m. m; distinct = once_none; respects = tt }

-- what holds of one candidate holds of all of a list that has it alone
only_one : (P : Meaning → Type 0) (d : Meaning) → P d → (c : Meaning) → Contains (d ∷ []) c → P c
only_one P d fact c (zero, lt, e) = subst P e fact
only_one P d fact c (suc k, lt, e) = absurd (let few : suc k < 1 = lt in omega (arith, few))

acts_differ : Act 0 ≡ Act 1 → ⊥
acts_differ e = let clash : ◌≡◌ {A = ℕ} 0 1 = cc in absurd (omega arith)

tasks_differ : Task 0 ≡ Task 1 → ⊥
tasks_differ e = let clash : ◌≡◌ {A = ℕ} 0 1 = cc in absurd (omega arith)

-- the tree of `middle`
middle_tree : IsTree middle
middle_tree = record {
  initial_kind = λ x m. initial x m;
  child_kind = λ v x m. child v x m;
  lower = λ v u m. absurd (no_line v u m);
  one_parent = λ v w x m k. parent v w x m k;
  no_initial_below = λ c x v m p k j. apart v x k j;
}
  where
    initial : (x : Item) → Contains (Task 0 ∷ Task 1 ∷ []) x → IsSubtask x
    initial x (zero, lt, e) = let P : Item → Type 0 = IsSubtask in subst P e tt
    initial x (suc zero, lt, e) = let P : Item → Type 0 = IsSubtask in subst P e tt
    initial x (suc (suc k), lt, e) = absurd (let few : suc (suc k) < 2 = lt in omega (arith, few))

    child : (v : ℕ) (x : Item) → Contains (middle_children v) x → IsSubtask x
    child zero x (zero, lt, e) = let P : Item → Type 0 = IsSubtask in subst P e tt
    child zero x (suc zero, lt, e) = let P : Item → Type 0 = IsSubtask in subst P e tt
    child zero x (suc (suc k), lt, e) = absurd (let few : suc (suc k) < 2 = lt in omega (arith, few))
    child (suc v) x m = absurd (none_in_empty x m)

    no_line : (v u : ℕ) → Contains (middle_children v) (Task u) → ⊥
    no_line zero u (zero, lt, e) = let clash : Task u ≡ Act 0 = sym e in cc
    no_line zero u (suc zero, lt, e) = let clash : Task u ≡ Act 1 = sym e in cc
    no_line zero u (suc (suc k), lt, e) = let few : suc (suc k) < 2 = lt in omega (arith, few)
    no_line (suc v) u m = none_in_empty (Task u) m

    parent : (v w : ℕ) (x : Item) → Contains (middle_children v) x → Contains (middle_children w) x → v ≡ w
    parent zero zero x m k = refl
    parent zero (suc w) x m k = absurd (none_in_empty x k)
    parent (suc v) w x m k = absurd (none_in_empty x m)

    line_child : (v : ℕ) (x : Item) (u : ℕ) → Contains (middle_children v) x → x ≡ Task u → ⊥
    line_child v x u k e = no_line v u (let P : Item → Type 0 = λ z. Contains (middle_children v) z in subst P e k)

    apart : (v : ℕ) (x : Item) → Contains (middle_children v) x → Contains (Task 0 ∷ Task 1 ∷ []) x → ⊥
    apart v x k (zero, lt, e) = line_child v x 0 k (sym e)
    apart v x k (suc zero, lt, e) = line_child v x 1 k (sym e)
    apart v x k (suc (suc j), lt, e) = let few : suc (suc j) < 2 = lt in omega (arith, few)

middle_within : IsWithin middle 2
middle_within u (zero, lt, e) = let task : Task u ≡ Task 0 = sym e in let same : u ≡ 0 = cc in omega arith
middle_within u (suc zero, lt, e) = let task : Task u ≡ Task 1 = sym e in let same : u ≡ 1 = cc in omega arith
middle_within u (suc (suc k), lt, e) = absurd (let few : suc (suc k) < 2 = lt in omega (arith, few))

middle_actions : HasActions middle 2
middle_actions zero below = record { ancestor = Task 0; is_initial = at_head (Task 0) (Task 1 ∷ []) (Task 0) refl; below = its_child itself (at_head (Act 0) (Act 1 ∷ []) (Act 0) refl) }
middle_actions (suc zero) below = record { ancestor = Task 0; is_initial = at_head (Task 0) (Task 1 ∷ []) (Task 0) refl; below = its_child itself (in_tail (Act 0) (Act 1 ∷ []) (Act 1) (at_head (Act 1) [] (Act 1) refl)) }
middle_actions (suc (suc k)) below = absurd (omega arith)

-- sorting the two actions, and the two lines
act_sort : IsSort (Act 0 ∷ Act 1 ∷ []) (one_pair (Act 0) (Act 1)) (Act 0 ∷ Act 1 ∷ [])
act_sort = pair_sort (Act 0) (Act 1) _ _ acts_differ (λ test. acts_differ (pair_first (Act 0) (Act 1) (Act 1) (Act 0) test)) (λ x m. m) (at_head (Act 0) (Act 1 ∷ []) (Act 0) refl) (in_tail (Act 0) (Act 1 ∷ []) (Act 1) (at_head (Act 1) [] (Act 1) refl))

sorts_of : (lines : ℕ → List Meaning) → ((c : Meaning) → Contains (lines 0) c → IsOrder (Act 0 ∷ Act 1 ∷ []) c.before) → ((c : Meaning) → Contains (lines 0) c → IsSort (Act 0 ∷ Act 1 ∷ []) c.before (Act 0 ∷ Act 1 ∷ [])) → ((v : ℕ) (c : Meaning) → Contains (lines (suc v)) c → IsOrder [] c.before) → AreSorts middle_children lines middle_sort
sorts_of lines order sort empty = record { orders = λ v c m. orders v c m; sorts = λ v c m. sorts v c m }
  where
    orders : (v : ℕ) (c : Meaning) → Contains (lines v) c → IsOrder (middle_children v) c.before
    orders zero c m = order c m
    orders (suc v) c m = empty v c m

    sorts : (v : ℕ) (c : Meaning) → Contains (lines v) c → IsSort (middle_children v) c.before (middle_children v)
    sorts zero c m = sort c m
    sorts (suc v) c m = no_sort c.before

middle_sorts : AreSorts middle_children middle_lines middle_sort
middle_sorts =
    sorts_of middle_lines
    (only_one (λ c. IsOrder (Act 0 ∷ Act 1 ∷ []) c.before) _ (pair_order _ (Act 0) (Act 1) acts_differ))
    (only_one (λ c. IsSort (Act 0 ∷ Act 1 ∷ []) c.before (Act 0 ∷ Act 1 ∷ [])) _ act_sort)
    (λ v. only_one (λ c. IsOrder [] c.before) _ (no_order []))

own_sorts : AreSorts middle_children own_lines middle_sort
own_sorts =
    sorts_of own_lines
    (only_one (λ c. IsOrder (Act 0 ∷ Act 1 ∷ []) c.before) _ (pair_order _ (Act 0) (Act 1) acts_differ))
    (only_one (λ c. IsSort (Act 0 ∷ Act 1 ∷ []) c.before (Act 0 ∷ Act 1 ∷ [])) _ act_sort)
    (λ v. only_one (λ c. IsOrder [] c.before) _ (no_order []))

free_sorts : AreRootSorts middle middle_roots (λ c. Task 0 ∷ Task 1 ∷ [])
free_sorts = record {
  orders = only_one (λ c. IsOrder (Task 0 ∷ Task 1 ∷ []) c.before) _ (no_order _);
  sorts =
      only_one (λ c. IsSort (Task 0 ∷ Task 1 ∷ []) c.before (Task 0 ∷ Task 1 ∷ [])) _
      (pair_sort (Task 0) (Task 1) _ _ tasks_differ (λ test. not_true test) (λ x m. m) (at_head (Task 0) (Task 1 ∷ []) (Task 0) refl) (in_tail (Task 0) (Task 1 ∷ []) (Task 1) (at_head (Task 1) [] (Task 1) refl)));
}

reversed_sorts : AreRootSorts middle reversed_roots (λ c. Task 1 ∷ Task 0 ∷ [])
reversed_sorts = record {
  orders = only_one (λ c. IsOrder (Task 0 ∷ Task 1 ∷ []) c.before) _ (pair_order _ (Task 1) (Task 0) (λ e. tasks_differ (sym e)));
  sorts =
      only_one (λ c. IsSort (Task 0 ∷ Task 1 ∷ []) c.before (Task 1 ∷ Task 0 ∷ [])) _
      (pair_sort (Task 1) (Task 0) _ _ (λ e. tasks_differ (sym e)) (λ test. tasks_differ (sym (pair_first (Task 1) (Task 0) (Task 0) (Task 1) test))) (λ x m. swapped x m) (in_tail (Task 0) (Task 1 ∷ []) (Task 1) (at_head (Task 1) [] (Task 1) refl)) (at_head (Task 0) (Task 1 ∷ []) (Task 0) refl));
}
  where
    swapped : (x : Item) → Contains (Task 0 ∷ Task 1 ∷ []) x → Contains (Task 1 ∷ Task 0 ∷ []) x
    swapped x (zero, lt, e) = in_tail (Task 1) (Task 0 ∷ []) x (at_head (Task 0) [] x (sym e))
    swapped x (suc zero, lt, e) = at_head (Task 1) (Task 0 ∷ []) x (sym e)
    swapped x (suc (suc k), lt, e) = absurd (let few : suc (suc k) < 2 = lt in omega (arith, few))

pub worked_examples : WorkedExamples
worked_examples = record {
  middle_finish = refl;
  middle_solved = judge_law middle middle_roots (λ c. Task 0 ∷ Task 1 ∷ []) middle_lines middle_sort 2 2 middle_tree free_sorts middle_sorts middle_within middle_actions;
  reversed_finish = refl;
  reversed_unsolved = judge_law middle reversed_roots (λ c. Task 1 ∷ Task 0 ∷ []) middle_lines middle_sort 2 2 middle_tree reversed_sorts middle_sorts middle_within middle_actions;
  own_finish = refl;
  own_unsolved = judge_law middle middle_roots (λ c. Task 0 ∷ Task 1 ∷ []) own_lines middle_sort 2 2 middle_tree free_sorts own_sorts middle_within middle_actions;
  orders_finish = refl;
  orders_items = refl;
  orders_written_pairs = refl;
  orders_pairs = refl;
  first_line = refl;
  second_line = refl;
  both_line = refl;
  first_finish = refl;
  both_finish = refl;
}
