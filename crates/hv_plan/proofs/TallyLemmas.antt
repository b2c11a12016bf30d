-- How often numbers and names stand in lists.
use Rattle.std.proofs.Common.{◌≡◌, ℕ, zero, suc, ◌+◌, ◌<◌, ◌≤◌, inl, inr, nat_eq, nat_lt, Bool, true, false, cond, List, [], ◌∷◌, length, take, get_or, Option, Some, None, refl, ap, sym, subst, ◌∙◌, arith, if◌then◌else◌, eq-eqb}
use Rattle.std.specs.Prelude.{Contains, All, MatchBool, count_by}
use Rattle.std.specs.List.{AllZip}
use Rattle.std.proofs.lemmas.Bool.{ltb-true, eqb-true}
use Rattle.std.proofs.lemmas.Bool.Decides.{nat_tests}
use Rattle.std.proofs.lemmas.List.Sums.{sum_by-cons, sum_by-take-le, count_by_more_yes}
use Rattle.std.proofs.lemmas.List.Elements.{All-contains, All-cons, All-nil}
use Rattle.hv_lists.proofs.Contained.{contains_first, in_tail}
use Rattle.hv_world.specs.Values.{TaskName, compound, primitive}
use Rattle.hv_world.specs.Alike.{same_name}
use Rattle.hv_plan.specs.Forms.{every}
use Rattle.hv_plan.specs.Fits.{multiplicity}
use Rattle.hv_plan.specs.inside.Tallies.{times, number_in}
use Rattle.hv_plan.proofs.FitLemmas.{contains_cons, partner, every_none}

-- a number at a place stands more often in all than before the place
pub times_at : (n : ℕ) (xs : List ℕ) (i d : ℕ) → i < length xs → get_or xs i d ≡ n → times n (take i xs) < times n xs
times_at n xs i d lt is =
    let step : times n (take (i + 1) xs) ≡ times n (take i xs) + 1 = count_by_more_yes (nat_eq n) xs i d lt (eq-eqb n (get_or xs i d) (sym is)) in
    let le : times n (take (i + 1) xs) ≤ times n xs = sum_by-take-le (λ x. cond (nat_eq n x) 1 0) xs (i + 1) in
    omega arith

-- what stands in a list at all is a member
counted_member : {X : Type 0} (test : X → Bool) (Is : X → Type 0) → ((x : X) → test x ≡ true → Is x) → (xs : List X) → 0 < count_by test xs → (x : X) × Contains xs x × Is x
counted_member test Is sound [] lt = absurd (omega arith)
counted_member {X} test Is sound (x ∷ xs) lt =
    go (test x) refl (subst (λ n. 0 < n) (sum_by-cons (λ y. cond (test y) 1 0) x xs) lt) (λ more. counted_member test Is sound xs more)
  where
    go : (b : Bool) → test x ≡ b → 0 < cond (test x) 1 0 + count_by test xs → (0 < count_by test xs → (y : X) × Contains xs y × Is y) → (y : X) × Contains (x ∷ xs) y × Is y
    go true e more again = (x, contains_first x xs, sound x e)
    go false e more again = later (again (nothing_more (subst (λ b. 0 < cond b 1 0 + count_by test xs) e more)))
      where
        nothing_more : 0 < 0 + count_by test xs → 0 < count_by test xs
        nothing_more lt = omega arith

        later : (y : X) × Contains xs y × Is y → (y : X) × Contains (x ∷ xs) y × Is y
        later (y, in', is) = (y, in_tail x xs y in', is)

pub times_member : (n : ℕ) (xs : List ℕ) → 0 < times n xs → Contains xs n
times_member n xs lt =
    let (m, in', is) = counted_member (nat_eq n) (λ m. n ≡ m) (λ m e. eqb-true n m e) xs lt in
    subst (λ k. Contains xs k) (sym is) in'

-- a count that is nothing for each member, and no more than how often a number stands there, is nothing
pub emptied : (n : ℕ) (one : List ℕ) (a b : ℕ) → a ≤ b → b ≤ times n one → (Contains one n → a ≡ 0) → a ≡ 0
emptied n one a b le le' zero_if = go (times n one) refl
  where
    go : (t : ℕ) → times n one ≡ t → a ≡ 0
    go zero e = omega arith
    go (suc t) e = zero_if (times_member n one (omega arith))

-- what was counted and taken off again tells whether lists have each number as often
pub same_or_not : (one other : List ℕ) (left : ℕ → ℕ) (b : Bool) → ((n : ℕ) → times n one ≡ left n + times n other)
    → MatchBool b (All (λ n. left n ≡ 0) one) ((n : ℕ) × (left n ≡ 0 → ⊥))
    → MatchBool b ((n : ℕ) → times n one ≡ times n other) ((n : ℕ) × (times n one ≡ times n other → ⊥))
same_or_not one other left true taken spent =
    λ n. let e : times n one ≡ left n + times n other = taken n in
    let none : left n ≡ 0 = emptied n one (left n) (left n) (omega arith) (omega arith) (λ in'. All-contains (λ n. left n ≡ 0) one n spent in') in
    omega arith
same_or_not one other left false taken (n, not) =
    (n, λ same. not (let e : times n one ≡ left n + times n other = taken n in omega arith))

pub counted_left : (one other counts left : List ℕ) → ((n : ℕ) → get_or counts n 0 ≡ times n one) → ((n : ℕ) → get_or counts n 0 ≡ get_or left n 0 + times n other)
    → (n : ℕ) → times n one ≡ get_or left n 0 + times n other
counted_left one other counts left counted taken n = sym (counted n) ∙ taken n

one_if : (b : Bool) → b ≡ true → (k : ℕ) → 0 < cond b 1 0 + k
one_if true e k = omega arith
one_if false e k = cc

more_if : (b : Bool) (k : ℕ) → 0 < k → 0 < cond b 1 0 + k
more_if true k lt = omega arith
more_if false k lt = omega arith

-- names that are the same are one
same_names : (m x : TaskName) → same_name m x ≡ true → m ≡ x
same_names (compound t) (compound u) e = ap compound (eqb-true t u e)
same_names (compound t) (primitive b) e = cc
same_names (primitive a) (compound u) e = cc
same_names (primitive a) (primitive b) e = ap primitive (eqb-true a b e)

pub name_is_itself : (m : TaskName) → same_name m m ≡ true
name_is_itself (compound t) = eq-eqb t t refl
name_is_itself (primitive a) = eq-eqb a a refl

pub name_member : (m : TaskName) (ms : List TaskName) → 0 < multiplicity m ms → Contains ms m
name_member m ms lt =
    let (x, in', is) = counted_member (same_name m) (λ x. m ≡ x) (λ x e. same_names m x e) ms lt in
    subst (λ n. Contains ms n) (sym is) in'

-- a name and its number
module _ (ts as' : ℕ) where
  of_compound : (t j : ℕ) → number_in ts as' (compound t) ≡ Some j → (t < ts) × (t ≡ j)
  of_compound t j e = go (nat_lt t ts) refl e
    where
      go : (b : Bool) → nat_lt t ts ≡ b → (if b then Some t else None) ≡ Some j → (t < ts) × (t ≡ j)
      go true p q = (ltb-true t ts p, cc)
      go false p q = cc

  of_primitive : (a j : ℕ) → number_in ts as' (primitive a) ≡ Some j → (a < as') × (ts + a ≡ j)
  of_primitive a j e = go (nat_lt a as') refl e
    where
      go : (b : Bool) → nat_lt a as' ≡ b → (if b then Some (ts + a) else None) ≡ Some j → (a < as') × (ts + a ≡ j)
      go true p q = (ltb-true a as' p, cc)
      go false p q = cc

  pub number_within : (m : TaskName) (j : ℕ) → number_in ts as' m ≡ Some j → j < ts + as'
  number_within (compound t) j e = let (lt, is) = of_compound t j e in omega arith
  number_within (primitive a) j e = let (lt, is) = of_primitive a j e in omega arith

  same_number : (m x : TaskName) (j n : ℕ) → number_in ts as' m ≡ Some j → number_in ts as' x ≡ Some n → same_name m x ≡ nat_eq j n
  same_number (compound t) (compound u) j n p q = (λ i. nat_eq ((of_compound t j p).1 i) ((of_compound u n q).1 i))
  same_number (compound t) (primitive b) j n p q =
      let (lt, is) = of_compound t j p in
      let (lt', is') = of_primitive b n q in
      grind (arith, nat_tests, lt, is, lt', is')
  same_number (primitive a) (compound u) j n p q =
      let (lt, is) = of_primitive a j p in
      let (lt', is') = of_compound u n q in
      grind (arith, nat_tests, lt, is, lt', is')
  same_number (primitive a) (primitive b) j n p q =
      let (lt, is) = of_primitive a j p in
      let (lt', is') = of_primitive b n q in
      grind (arith, nat_tests, lt, is, lt', is')

  abbrev pub AreNumbers : List TaskName → List ℕ → Type 0
  AreNumbers ms ns = AllZip (λ m n. number_in ts as' m ≡ Some n) ms ns

  pub names_times : (m : TaskName) (j : ℕ) (ms : List TaskName) (ns : List ℕ) → number_in ts as' m ≡ Some j → AreNumbers ms ns → multiplicity m ms ≡ times j ns
  names_times m j [] [] e all = refl
  names_times m j [] (n ∷ ns) e all = absurd all
  names_times m j (x ∷ xs) [] e all = absurd all
  names_times m j (x ∷ xs) (n ∷ ns) e (p, all) =
      sum_by-cons (λ y. cond (same_name m y) 1 0) x xs ∙ (λ i. cond (same_number m x j n e p i) 1 0 + names_times m j xs ns e all i) ∙ sym (sum_by-cons (λ k. cond (nat_eq j k) 1 0) n ns)

  -- a name without a number is none of those that have numbers
  pub unnumbered : (m : TaskName) (ms : List TaskName) (ns : List ℕ) → number_in ts as' m ≡ None → AreNumbers ms ns → multiplicity m ms ≡ 0
  unnumbered m ms ns none all = go (multiplicity m ms) refl
    where
      go : (k : ℕ) → multiplicity m ms ≡ k → multiplicity m ms ≡ 0
      go zero e = e
      go (suc k) e =
          let (x, in', is) = counted_member (same_name m) (λ x. m ≡ x) (λ x e. same_names m x e) ms (omega arith) in
          let (n, numbered) = partner (λ m n. number_in ts as' m ≡ Some n) ms ns x all in' in
          let none' : number_in ts as' x ≡ None = subst (λ z. number_in ts as' z ≡ None) is none in
          cc

  -- a number of a list is that of a name
  pub numbered_by : (ms : List TaskName) (ns : List ℕ) (n : ℕ) → AreNumbers ms ns → Contains ns n → (m : TaskName) × (number_in ts as' m ≡ Some n)
  numbered_by [] [] n all (k, lt, e) = absurd (omega arith)
  numbered_by [] (x ∷ ns) n all in' = absurd all
  numbered_by (m ∷ ms) [] n all in' = absurd all
  numbered_by (m ∷ ms) (x ∷ ns) n (p, all) in' = elim (contains_cons x ns n in') [ inl e ↦ (m, subst (λ k. number_in ts as' m ≡ Some k) e p) | inr rest ↦ numbered_by ms ns n all rest ]

  pub numbers_within : (ms : List TaskName) (ns : List ℕ) (size : ℕ) → size ≡ ts + as' → AreNumbers ms ns → All (λ n. n < size) ns
  numbers_within [] [] size is all = All-nil (λ n. n < size)
  numbers_within [] (n ∷ ns) size is all = absurd all
  numbers_within (m ∷ ms) [] size is all = absurd all
  numbers_within (m ∷ ms) (n ∷ ns) size is (p, all) =
      All-cons (λ n. n < size) n ns (let lt : n < ts + as' = number_within m n p in omega arith) (numbers_within ms ns size is all)

  -- lists of names against the lists of their numbers
  module _ (ms us : List TaskName) (ns vs : List ℕ) (own : AreNumbers ms ns) (other : AreNumbers us vs) where
    pub names_same : ((n : ℕ) → times n vs ≡ times n ns) → (m : TaskName) → multiplicity m ms ≡ multiplicity m us
    names_same same m = go (number_in ts as' m) refl
      where
        go : (o : Option ℕ) → number_in ts as' m ≡ o → multiplicity m ms ≡ multiplicity m us
        go None e = unnumbered m ms ns e own ∙ sym (unnumbered m us vs e other)
        go (Some j) e = names_times m j ms ns e own ∙ sym (same j) ∙ sym (names_times m j us vs e other)

    pub names_differ : (n : ℕ) → (times n vs ≡ times n ns → ⊥) → (m : TaskName) × (multiplicity m ms ≡ multiplicity m us → ⊥)
    names_differ n differ = go (times n ns) (times n vs) refl refl
      where
        by_name : (m : TaskName) × (number_in ts as' m ≡ Some n) → (m : TaskName) × (multiplicity m ms ≡ multiplicity m us → ⊥)
        by_name (m, e) = (m, λ same. differ (sym (names_times m n us vs e other) ∙ sym same ∙ names_times m n ms ns e own))

        go : (a b : ℕ) → times n ns ≡ a → times n vs ≡ b → (m : TaskName) × (multiplicity m ms ≡ multiplicity m us → ⊥)
        go zero zero p q = absurd (differ (q ∙ sym p))
        go (suc a) b p q = by_name (numbered_by ms ns n own (times_member n ns (omega arith)))
        go zero (suc b) p q = by_name (numbered_by us vs n other (times_member n vs (omega arith)))

    -- as their numbers are told to be, so are the names
    pub names_same_or_not : (b : Bool) → MatchBool b ((n : ℕ) → times n vs ≡ times n ns) ((n : ℕ) × (times n vs ≡ times n ns → ⊥))
        → MatchBool b ((m : TaskName) → multiplicity m ms ≡ multiplicity m us) ((m : TaskName) × (multiplicity m ms ≡ multiplicity m us → ⊥))
    names_same_or_not true same = names_same same
    names_same_or_not false (n, differ) = names_differ n differ

  member_counted : (m : TaskName) (us : List TaskName) → Contains us m → 0 < multiplicity m us
  member_counted m [] (k, lt, e) = absurd (omega arith)
  member_counted m (u ∷ us) in' =
      let step : multiplicity m (u ∷ us) ≡ cond (same_name m u) 1 0 + multiplicity m us = sum_by-cons (λ y. cond (same_name m y) 1 0) u us in
      elim (contains_cons u us m in') [
        | inl e ↦ subst (λ n. 0 < n) (sym step) (one_if (same_name m u) (subst (λ z. same_name m z ≡ true) (sym e) (name_is_itself m)) (multiplicity m us))
        | inr rest ↦ subst (λ n. 0 < n) (sym step) (more_if (same_name m u) (multiplicity m us) (member_counted m us rest))
      ]

  -- a name that stands in a list and has no number
  pub unknown_differs : (ms us : List TaskName) (ns : List ℕ) → AreNumbers ms ns → every (number_in ts as') us ≡ None → (m : TaskName) × (multiplicity m ms ≡ multiplicity m us → ⊥)
  unknown_differs ms us ns own none =
      let (m, in', is) = every_none (number_in ts as') us none in
      (m, λ same. let zero' : multiplicity m ms ≡ 0 = unnumbered m ms ns is own in let more : 0 < multiplicity m us = member_counted m us in' in omega arith)
