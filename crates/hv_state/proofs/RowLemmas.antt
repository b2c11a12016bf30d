-- Facts on rows in order.
use Rattle.std.proofs.Common.{◌≡◌, ◌<◌, ◌≤◌, ◌+◌, ◌-◌, ◌++◌, ◌↔◌, ◌⊎◌, inl, inr, ℕ, zero, suc, List, [], ◌∷◌, length, map, take, drop, get_or, Result, Ok, Err, IsOk, is_ok, if◌then◌else◌, true≢false, true, refl, sym, ap, ◌∙◌, subst, arith}
use Rattle.hv_lists.proofs.Contained.{contains_first, none_in_empty, in_tail}
use Rattle.hv_state.specs.declared.rows.Row.{Row}
use Rattle.std.specs.List.{Contains, insert, remove}
use Rattle.std.specs.List.Sorted.{IsNonDecreasingBy, IsSearchInRange, IsBinarySearchResult}
use Rattle.std.specs.Ordering.{nat_cmp, ordering_index, ordering_then, ordering_reverse}
use Rattle.std.specs.Cmp.Lexicographic.{slice_cmp}
use Rattle.std.specs.declared.cmp.Ordering.{Ordering}
use Rattle.std.specs.declared.cmp.Ordering.TheVariants.{Less, Equal, Greater}
use Rattle.std.proofs.lemmas.Cmp.{ranked, tied_itself, nat_list_cmp_total}
use Rattle.std.proofs.lemmas.Bool.{cases_eq, cases_lt}
use Rattle.std.proofs.lemmas.List.{get_or-map, length-map, map-append, get_or_default, map_push, at_drop_more, at_drop_all}
use Rattle.std.proofs.lemmas.List.Edits.{length-insert, get_or-insert_below, get_or-insert_at, get_or-insert_above, length-remove, get_or-remove_below, get_or-remove_above}
use Rattle.std.proofs.lemmas.List.Elements.{Contains-append_left, Contains-push, Contains-push_cases}
use Rattle.std.proofs.lemmas.List.Quantifiers.{all_pairs_remove}
use Rattle.hv_state.specs.inside.Rows.{rows_in, IsBelow, Ascend, IsGap, IsPlace, IsWithout, IsWith}

-- the order of rows
pub below_itself : (x : List ℕ) → IsBelow x x → ⊥
below_itself x lt = let tie : slice_cmp nat_cmp x x ≡ Equal = tied_itself nat_list_cmp_total x in let clash : Less ≡ Equal = sym lt ∙ tie in absurd cc

pub below_from : (x y : List ℕ) → slice_cmp nat_cmp x y ≡ Greater → IsBelow y x
below_from x y e = nat_list_cmp_total.antisymm y x ∙ ap ordering_reverse e

same_step : (x y : ℕ) (xs ys : List ℕ) (o : Ordering) → o ≡ nat_cmp x y → (slice_cmp nat_cmp xs ys ≡ Equal → xs ≡ ys) → ordering_then o (slice_cmp nat_cmp xs ys) ≡ Equal → x ∷ xs ≡ y ∷ ys
same_step x y xs ys Less is rest e = absurd cc
same_step x y xs ys Equal is rest e = λ i. ranked x y Equal is i ∷ rest e i
same_step x y xs ys Greater is rest e = absurd cc

pub same_rows : (xs ys : List ℕ) → slice_cmp nat_cmp xs ys ≡ Equal → xs ≡ ys
same_rows [] [] e = refl
same_rows [] (y ∷ ys) e = absurd cc
same_rows (x ∷ xs) [] e = absurd cc
same_rows (x ∷ xs) (y ∷ ys) e = same_step x y xs ys (nat_cmp x y) refl (same_rows xs ys) e

pub row_compares : (x y : List ℕ) → x ≡ y → slice_cmp nat_cmp x y ≡ Equal
row_compares x y e = subst (λ z. slice_cmp nat_cmp x z ≡ Equal) e (tied_itself nat_list_cmp_total x)

at_most_two : (o : Ordering) → ordering_index o ≤ 2
at_most_two Less = omega arith
at_most_two Equal = omega arith
at_most_two Greater = omega arith

pub step_rises : (a b r : List ℕ) → IsBelow a b → ordering_index (slice_cmp nat_cmp a r) ≤ ordering_index (slice_cmp nat_cmp b r)
step_rises a b r lt = by (slice_cmp nat_cmp b r) refl
  where
    under : (o : Ordering) → slice_cmp nat_cmp a r ≡ Less → ordering_index (slice_cmp nat_cmp a r) ≤ ordering_index o
    under o e = let none : ordering_index (slice_cmp nat_cmp a r) ≡ 0 = ap ordering_index e in omega (arith, none)

    by : (o : Ordering) → slice_cmp nat_cmp b r ≡ o → ordering_index (slice_cmp nat_cmp a r) ≤ ordering_index o
    by Less e = under Less (nat_list_cmp_total.trans a b r lt e)
    by Equal e = under Equal (subst (λ x. IsBelow a x) (same_rows b r e) lt)
    by Greater e = at_most_two (slice_cmp nat_cmp a r)

pub some_of : {X : Type 0} (xs : List X) → 0 < length xs → X
some_of [] lt = absurd (omega arith)
some_of (x ∷ xs) lt = x

-- what a search finds
module _ {X : Type 0} (f : X → List ℕ) (xs : List X) (row : List ℕ) (ascend : Ascend (map f xs)) where
  row_at : (k : ℕ) (d : X) → k < length xs → get_or (map f xs) k [] ≡ f (get_or xs k d)
  row_at k d lt = get_or-map f xs k d [] lt

  rises : IsNonDecreasingBy (λ v. ordering_index (slice_cmp nat_cmp (f v) row)) xs
  rises i j d le lt = by (cases_lt i j)
    where
      by : (i < j) ⊎ (j ≤ i) → ordering_index (slice_cmp nat_cmp (f (get_or xs i d)) row) ≤ ordering_index (slice_cmp nat_cmp (f (get_or xs j d)) row)
      by (inl before) =
          let at : IsBelow (get_or (map f xs) i []) (get_or (map f xs) j []) = ascend i j [] before (omega (arith, lt, length-map xs f)) in
          step_rises _ _ row (subst (λ x. IsBelow x (f (get_or xs j d))) (row_at i d (omega (arith, before, lt))) (subst (λ y. IsBelow (get_or (map f xs) i []) y) (row_at j d lt) at))
      by (inr behind) =
          let same : i ≡ j = omega (arith, behind, le) in
          subst (λ k. ordering_index (slice_cmp nat_cmp (f (get_or xs i d)) row) ≤ ordering_index (slice_cmp nat_cmp (f (get_or xs k d)) row)) same (omega arith)

  pub searched : (r : Result ℕ ℕ) → IsSearchInRange r (length xs) → IsBinarySearchResult (λ v. slice_cmp nat_cmp (f v) row) xs r → IsPlace (map f xs) row r
  searched (Ok i) in_range equal =
      let d = some_of xs (omega (arith, in_range)) in
      (omega (arith, in_range, length-map xs f), row_at i d in_range ∙ same_rows (f (get_or xs i d)) row (equal d))
  searched (Err i) in_range parted = (omega (arith, in_range, length-map xs f), before, behind)
    where
      before : (k : ℕ) → k < i → IsBelow (get_or (map f xs) k []) row
      before k lt =
          let d = some_of xs (omega (arith, in_range, lt)) in
          subst (λ x. IsBelow x row) (sym (row_at k d (omega (arith, in_range, lt)))) ((parted rises).0 k d (omega arith) lt)

      behind : (k : ℕ) → i ≤ k → k < length (map f xs) → IsBelow row (get_or (map f xs) k [])
      behind k le lt =
          let within : k < length xs = omega (arith, lt, length-map xs f) in
          let d = some_of xs (omega (arith, within)) in
          subst (λ x. IsBelow row x) (sym (row_at k d within)) (below_from (f (get_or xs k d)) row ((parted rises).1 k d le within))

-- a row taken out
module _ (rows : List (List ℕ)) (i : ℕ) (row : List ℕ) (ascend : Ascend rows) (within : i < length rows) (is : get_or rows i [] ≡ row) where
  removed_ascends : Ascend (remove rows i)
  removed_ascends = all_pairs_remove IsBelow rows i within ascend

  is_at : (d : List ℕ) → get_or rows i d ≡ row
  is_at d = get_or_default rows i d [] within ∙ is

  apart_before : (k : ℕ) (r : List ℕ) → k < i → get_or rows k r ≡ r → r ≡ row → ⊥
  apart_before k r lt e same = below_itself row (subst (λ x. IsBelow x row) (e ∙ same) (subst (λ y. IsBelow (get_or rows k r) y) (is_at r) (ascend k i r lt within)))

  apart_behind : (k : ℕ) (r : List ℕ) → i < k → k < length rows → get_or rows k r ≡ r → r ≡ row → ⊥
  apart_behind k r lt k_in e same = below_itself row (subst (λ y. IsBelow row y) (e ∙ same) (subst (λ x. IsBelow x (get_or rows k r)) (is_at r) (ascend i k r lt k_in)))

  removed : IsWithout rows row (remove rows i)
  removed r = (from, to)
    where
      from : Contains (remove rows i) r → Contains rows r × (r ≡ row → ⊥)
      from (k, lt, e) = by (cases_lt k i)
        where
          by : (k < i) ⊎ (i ≤ k) → Contains rows r × (r ≡ row → ⊥)
          by (inl before) =
              let at : get_or rows k r ≡ r = sym (get_or-remove_below rows i r k before within) ∙ e in
              ((k, omega (arith, before, within), at), apart_before k r before at)
          by (inr behind) =
              let at : get_or rows (k + 1) r ≡ r = sym (get_or-remove_above rows i r k behind within) ∙ e in
              let k_in : k + 1 < length rows = omega (arith, lt, length-remove rows i within) in
              ((k + 1, k_in, at), apart_behind (k + 1) r (omega arith) k_in at)

      to : Contains rows r × (r ≡ row → ⊥) → Contains (remove rows i) r
      to ((k, lt, e), other) = by (cases_lt k i)
        where
          behind : (k ≡ i) ⊎ (k ≡ i → ⊥) → i ≤ k → Contains (remove rows i) r
          behind (inl same) le = absurd (other (sym e ∙ ap (λ n. get_or rows n r) same ∙ is_at r))
          behind (inr differ) le =
              let one_more : k - 1 + 1 ≡ k = omega (arith, le, differ) in
              (k - 1, omega (arith, lt, le, differ, length-remove rows i within), get_or-remove_above rows i r (k - 1) (omega (arith, le, differ)) within ∙ ap (λ n. get_or rows n r) one_more ∙ e)

          by : (k < i) ⊎ (i ≤ k) → Contains (remove rows i) r
          by (inl before) = (k, omega (arith, before, within, length-remove rows i within), get_or-remove_below rows i r k before within ∙ e)
          by (inr le) = behind (cases_eq k i) le

-- a gap
module _ (rows : List (List ℕ)) (i : ℕ) (row : List ℕ) (gap : IsGap rows row i) where
  below_row : (k : ℕ) (d : List ℕ) → k < i → IsBelow (get_or rows k d) row
  below_row k d lt = subst (λ x. IsBelow x row) (get_or_default rows k [] d (omega (arith, lt, gap.0))) (gap.1 k lt)

  above_row : (k : ℕ) (d : List ℕ) → i ≤ k → k < length rows → IsBelow row (get_or rows k d)
  above_row k d le lt = subst (λ x. IsBelow row x) (get_or_default rows k [] d lt) (gap.2 k le lt)

  -- the row is not there
  pub gap_lacks : Contains rows row → ⊥
  gap_lacks (k, lt, e) = by (cases_lt k i)
    where
      by : (k < i) ⊎ (i ≤ k) → ⊥
      by (inl before) = below_itself row (subst (λ x. IsBelow x row) e (below_row k row before))
      by (inr behind) = below_itself row (subst (λ x. IsBelow row x) e (above_row k row behind lt))

  pub gap_without : IsWithout rows row rows
  gap_without r = (λ m. (m, λ same. gap_lacks (subst (Contains rows) same m)), λ m. m.0)

  behind_at : (k : ℕ) (d : List ℕ) → i < k → get_or (insert rows i row) k d ≡ get_or rows (k - 1) d
  behind_at k d lt =
      let one_more : k - 1 + 1 ≡ k = omega (arith, lt) in
      ap (λ n. get_or (insert rows i row) n d) (sym one_more) ∙ get_or-insert_above rows i row d (k - 1) (omega (arith, lt)) gap.0

  inserted_ascends : Ascend rows → Ascend (insert rows i row)
  inserted_ascends ascend a b d lt b_in = by (cases_lt a i) (cases_lt b i) (cases_eq a i) (cases_eq b i)
    where
      Goal : Type 0
      Goal = IsBelow (get_or (insert rows i row) a d) (get_or (insert rows i row) b d)

      at : (x y : List ℕ) → get_or (insert rows i row) a d ≡ x → get_or (insert rows i row) b d ≡ y → IsBelow x y → Goal
      at x y e f below = subst (λ z. IsBelow z (get_or (insert rows i row) b d)) (sym e) (subst (λ z. IsBelow x z) (sym f) below)

      here_at : (k : ℕ) → k ≡ i → get_or (insert rows i row) k d ≡ row
      here_at k e = ap (λ n. get_or (insert rows i row) n d) e ∙ get_or-insert_at rows i row d gap.0

      long : length (insert rows i row) ≡ length rows + 1
      long = length-insert rows i row gap.0

      by : (a < i) ⊎ (i ≤ a) → (b < i) ⊎ (i ≤ b) → (a ≡ i) ⊎ (a ≡ i → ⊥) → (b ≡ i) ⊎ (b ≡ i → ⊥) → Goal
      by (inl p) (inl q) s t = at _ _ (get_or-insert_below rows i row d a p gap.0) (get_or-insert_below rows i row d b q gap.0) (ascend a b d lt (omega (arith, q, gap.0)))
      by (inl p) (inr q) s (inl same) = at _ _ (get_or-insert_below rows i row d a p gap.0) (here_at b same) (below_row a d p)
      by (inl p) (inr q) s (inr differ) =
          at _ _ (get_or-insert_below rows i row d a p gap.0) (behind_at b d (omega (arith, q, differ))) (ascend a (b - 1) d (omega (arith, p, q, differ)) (omega (arith, b_in, long, p, q)))
      by (inr p) (inl q) s t = absurd (omega (arith, lt, p, q))
      by (inr p) (inr q) (inl same) t = at _ _ (here_at a same) (behind_at b d (omega (arith, lt, p))) (above_row (b - 1) d (omega (arith, lt, p)) (omega (arith, b_in, long, lt)))
      by (inr p) (inr q) (inr differ) t =
          at _ _ (behind_at a d (omega (arith, p, differ))) (behind_at b d (omega (arith, lt, p))) (ascend (a - 1) (b - 1) d (omega (arith, lt, p, differ)) (omega (arith, b_in, long, lt)))

  inserted : IsWith rows row (insert rows i row)
  inserted r = (from, to)
    where
      long : length (insert rows i row) ≡ length rows + 1
      long = length-insert rows i row gap.0

      from : Contains (insert rows i row) r → Contains rows r ⊎ (r ≡ row)
      from (k, lt, e) = by (cases_lt k i) (cases_eq k i)
        where
          by : (k < i) ⊎ (i ≤ k) → (k ≡ i) ⊎ (k ≡ i → ⊥) → Contains rows r ⊎ (r ≡ row)
          by (inl p) s = inl (k, omega (arith, p, gap.0), sym (get_or-insert_below rows i row r k p gap.0) ∙ e)
          by (inr p) (inl same) = inr (sym e ∙ ap (λ n. get_or (insert rows i row) n r) same ∙ get_or-insert_at rows i row r gap.0)
          by (inr p) (inr differ) = inl (k - 1, omega (arith, lt, long, p, differ), sym (behind_at k r (omega (arith, p, differ))) ∙ e)

      to : Contains rows r ⊎ (r ≡ row) → Contains (insert rows i row) r
      to (inl (k, lt, e)) = by (cases_lt k i)
        where
          by : (k < i) ⊎ (i ≤ k) → Contains (insert rows i row) r
          by (inl p) = (k, omega (arith, lt, long), get_or-insert_below rows i row r k p gap.0 ∙ e)
          by (inr p) = (k + 1, omega (arith, lt, long), get_or-insert_above rows i row r k p gap.0 ∙ e)
      to (inr e) = (i, omega (arith, gap.0, long), get_or-insert_at rows i row r gap.0 ∙ sym e)

-- the same of the vectors that keep the rows
map-take : {X Y : Type 0} (f : X → Y) (i : ℕ) (xs : List X) → map f (take i xs) ≡ take i (map f xs)
map-take f zero xs = refl
map-take f (suc i) [] = refl
map-take f (suc i) (x ∷ xs) = ap (λ ys. f x ∷ ys) (map-take f i xs)

map-drop : {X Y : Type 0} (f : X → Y) (i : ℕ) (xs : List X) → map f (drop i xs) ≡ drop i (map f xs)
map-drop f zero xs = refl
map-drop f (suc i) [] = refl
map-drop f (suc i) (x ∷ xs) = map-drop f i xs

pub map-insert : {X Y : Type 0} (f : X → Y) (xs : List X) (i : ℕ) (x : X) → map f (insert xs i x) ≡ insert (map f xs) i (f x)
map-insert f xs i x = map-append f (take i xs) (x ∷ drop i xs) ∙ (λ j. map-take f i xs j ++ f x ∷ map-drop f i xs j)

pub map-remove : {X Y : Type 0} (f : X → Y) (xs : List X) (i : ℕ) → map f (remove xs i) ≡ remove (map f xs) i
map-remove f xs i = map-append f (take i xs) (drop (suc i) xs) ∙ (λ j. map-take f i xs j ++ map-drop f (suc i) xs j)

module _ {X : Type 0} (f : X → List ℕ) (vs new : List X) (i : ℕ) (row : List ℕ) (ascend : Ascend (map f vs)) (within : i < length (map f vs)) (is : get_or (map f vs) i [] ≡ row) (e : new ≡ remove vs i) where
  seen_removed : map f new ≡ remove (map f vs) i
  seen_removed = ap (map f) e ∙ map-remove f vs i

  pub remove_ascends : Ascend (map f new)
  remove_ascends = rw seen_removed (removed_ascends (map f vs) i row ascend within is)

  pub remove_without : IsWithout (map f vs) row (map f new)
  remove_without = rw seen_removed (removed (map f vs) i row ascend within is)

module _ {X : Type 0} (f : X → List ℕ) (vs new : List X) (i : ℕ) (v : X) (gap : IsGap (map f vs) (f v) i) (e : new ≡ insert vs i v) where
  seen_inserted : map f new ≡ insert (map f vs) i (f v)
  seen_inserted = ap (map f) e ∙ map-insert f vs i v

  pub insert_ascends : Ascend (map f vs) → Ascend (map f new)
  insert_ascends ascend = rw seen_inserted (inserted_ascends (map f vs) i (f v) gap ascend)

  pub insert_with : IsWith (map f vs) (f v) (map f new)
  insert_with = rw seen_inserted (inserted (map f vs) i (f v) gap)

-- one row less to take out, one less to put in
pub contains_cases : {X : Type 0} (x y : X) (xs : List X) → Contains (y ∷ xs) x → (x ≡ y) ⊎ Contains xs x
contains_cases x y xs (zero, lt, e) = inl (sym e)
contains_cases x y xs (suc k, lt, e) = inr (k, omega arith, e)

pub take_out_more : (now new rest : List (List ℕ)) (row : List ℕ) (Q : List ℕ → Type 0) → IsWithout now row new → ((r : List ℕ) → (Contains now r × (Contains (row ∷ rest) r → ⊥)) ↔ Q r) → (r : List ℕ)
    → (Contains new r × (Contains rest r → ⊥)) ↔ Q r
take_out_more now new rest row Q without before r = (from, to)
  where
    from : Contains new r × (Contains rest r → ⊥) → Q r
    from (m, out) = let old = (without r).0 m in (before r).0 (old.0, λ k. elim (contains_cases r row rest k) [ inl e ↦ old.1 e | inr l ↦ out l ])

    to : Q r → Contains new r × (Contains rest r → ⊥)
    to q =
        let old = (before r).1 q in
        ((without r).1 (old.0, λ e. old.1 (subst (λ x. Contains (x ∷ rest) r) e (contains_first r rest))), λ l. old.1 (in_tail row rest r l))

pub put_in_more : {X : Type 0} (f : X → List ℕ) (now new : List (List ℕ)) (left : List X) (all : List (List ℕ)) (v : X) (Q : List ℕ → Type 0) → IsWith now (f v) new → all ≡ map f (left ++ v ∷ [])
    → ((r : List ℕ) → (Contains now r ⊎ Contains all r) ↔ Q r) → (r : List ℕ) → (Contains new r ⊎ Contains (map f left) r) ↔ Q r
put_in_more f now new left all v Q with e before r = (from, to)
  where
    seen : all ≡ map f left ++ f v ∷ []
    seen = e ∙ map_push f left v

    last : r ≡ f v → Contains all r
    last same = rw (seen) (subst (λ x. Contains (map f left ++ x ∷ []) r) same (Contains-push (map f left) r))

    from : Contains new r ⊎ Contains (map f left) r → Q r
    from (inl m) = elim ((with r).0 m) [ inl old ↦ (before r).0 (inl old) | inr same ↦ (before r).0 (inr (last same)) ]
    from (inr m) = (before r).0 (inr (rw seen (Contains-append_left (map f left) (f v ∷ []) r m)))

    to : Q r → Contains new r ⊎ Contains (map f left) r
    to q = by ((before r).1 q)
      where
        by : Contains now r ⊎ Contains all r → Contains new r ⊎ Contains (map f left) r
        by (inl m) = inl ((with r).1 (inl m))
        by (inr m) = elim (Contains-push_cases (map f left) (f v) r (subst (λ xs. Contains xs r) seen m)) [ inl old ↦ inr old | inr same ↦ inl ((with r).1 (inr (sym same))) ]

-- what was done where it could not fail
pub put_there : {A B X : Type 0} (r : Result A B) (there old new : X) → IsOk r → new ≡ (if is_ok r then there else old) → new ≡ there
put_there (Ok a) there old new ok e = e
put_there (Err b) there old new ok e = absurd (true≢false (sym ok))

-- nothing is left to take out, or to put in
pub taken_out : (now left : List (List ℕ)) (Q : List ℕ → Type 0) → left ≡ [] → ((r : List ℕ) → (Contains now r × (Contains left r → ⊥)) ↔ Q r) → (r : List ℕ) → Contains now r ↔ Q r
taken_out now left Q done before r = (λ m. (before r).0 (m, λ l. none_in_empty r (subst (λ xs. Contains xs r) done l)), λ q. ((before r).1 q).0)

pub put_in : (now left : List (List ℕ)) (Q : List ℕ → Type 0) → left ≡ [] → ((r : List ℕ) → (Contains now r ⊎ Contains left r) ↔ Q r) → (r : List ℕ) → Contains now r ↔ Q r
put_in now left Q done before r = (λ m. (before r).0 (inl m), λ q. by ((before r).1 q))
  where
    by : Contains now r ⊎ Contains left r → Contains now r
    by (inl m) = m
    by (inr l) = absurd (none_in_empty r (subst (λ xs. Contains xs r) done l))

pub none_left : {X : Type 0} (xs : List X) → length xs ≡ 0 → xs ≡ []
none_left [] e = refl
none_left (x ∷ xs) e = absurd (omega arith)

-- the rows that are left
module _ (rows : List Row) (i : ℕ) where
  pub rows_left : (v : Row) → i < length rows → v ≡ get_or rows i v → rows_in (drop i rows) ≡ v.numbers.items ∷ rows_in (drop (i + 1) rows)
  rows_left v lt is = at_drop_more rows_in rows i v lt ∙ ap (λ (u : Row). u.numbers.items ∷ rows_in (drop (i + 1) rows)) (sym is)

  pub no_rows_left : length rows ≤ i → rows_in (drop i rows) ≡ []
  no_rows_left le = at_drop_all rows_in rows i le

-- a row is there where it was found
pub place_tells : (rows : List (List ℕ)) (row : List ℕ) (r : Result ℕ ℕ) → IsPlace rows row r → (is_ok r ≡ true) ↔ Contains rows row
place_tells rows row (Ok i) at = (λ t. (i, at.0, get_or_default rows i row [] at.0 ∙ at.1), λ m. refl)
place_tells rows row (Err i) gap = (λ t. absurd (true≢false (sym t)), λ m. absurd (gap_lacks rows i row gap m))
