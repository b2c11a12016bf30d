-- One decomposition: where the items and the pairs of the network behind it come from.
use Rattle.std.proofs.Common.{◌≡◌, ℕ, Bool, true, false, List, [], ◌∷◌, refl, sym, ap, ◌∙◌, subst, inl, inr, ◌⊎◌, Contains, zero, suc, arith, ◌<◌}
use Rattle.hv_lists.proofs.Contained.{at_head, in_tail, none_in_empty}
use Rattle.hv_plan.specs.Trees.{Item, Act, Task, Pre}
use Rattle.hv_order.specs.Networks.{pairs_from, ordered_pairs, is_line, items_after, inherited, inherited_pairs}
use Rattle.hv_order.proofs.Members.{SameNumber, equal_numbers, other_numbers, number_cases, act_not_task, pre_not_task, task_same, mem_left, mem_right, mem_cases, mem_map, mem_map_from, first_same, second_same, pair_same}

-- is an item the line v
pub data IsLine (v : ℕ) (x : Item) : Type 0 where
  yes_line : x ≡ Task v → is_line v x ≡ true → IsLine v x
  no_line : (x ≡ Task v → ⊥) → is_line v x ≡ false → IsLine v x

pub line_cases : (v : ℕ) (x : Item) → IsLine v x
line_cases v (Act k) = no_line (act_not_task k v) refl
line_cases v (Pre k) = no_line (pre_not_task k v) refl
line_cases v (Task u) = tell (number_cases u v)
  where
    tell : SameNumber u v → IsLine v (Task u)
    tell (equal_numbers same e) = yes_line (ap Task same) e
    tell (other_numbers other e) = no_line (λ same. other (task_same u v same)) e

-- an item that is not decomposed stays, and what takes the place of a task comes
pub after_old : (v : ℕ) (new : List Item) (x : Item) (xs : List Item) → (x ≡ Task v → ⊥) → Contains xs x → Contains (items_after v new xs) x
after_old v new x [] f m = absurd (none_in_empty x m)
after_old v new x (z ∷ xs) f (zero, lt, e) = by_line (line_cases v z)
  where
    by_line : IsLine v z → Contains (items_after v new (z ∷ xs)) x
    by_line (yes_line k i) = let same : x ≡ z = sym e in absurd (f (same ∙ k))
    by_line (no_line k i) = rw i (at_head z (items_after v new xs) x (sym e))
after_old v new x (z ∷ xs) f (suc place, lt, e) = by_line (line_cases v z) (after_old v new x xs f (place, omega (arith, lt), e))
  where
    by_line : IsLine v z → Contains (items_after v new xs) x → Contains (items_after v new (z ∷ xs)) x
    by_line (yes_line k i) r = rw i (mem_right x new (items_after v new xs) r)
    by_line (no_line k i) r = rw i (in_tail z (items_after v new xs) x r)

pub after_new : (v : ℕ) (new : List Item) (x : Item) (xs : List Item) → Contains xs (Task v) → Contains new x → Contains (items_after v new xs) x
after_new v new x [] m k = absurd (none_in_empty (Task v) m)
after_new v new x (z ∷ xs) (zero, lt, e) k = by_line (line_cases v z)
  where
    by_line : IsLine v z → Contains (items_after v new (z ∷ xs)) x
    by_line (yes_line j i) = rw i (mem_left x new (items_after v new xs) k)
    by_line (no_line j i) = absurd (j e)
after_new v new x (z ∷ xs) (suc place, lt, e) k = by_line (line_cases v z) (after_new v new x xs (place, omega (arith, lt), e) k)
  where
    by_line : IsLine v z → Contains (items_after v new xs) x → Contains (items_after v new (z ∷ xs)) x
    by_line (yes_line j i) r = rw i (mem_left x new (items_after v new xs) k)
    by_line (no_line j i) r = rw i (in_tail z (items_after v new xs) x r)

-- where an item comes from
pub data Origin (v : ℕ) (new : List Item) (x : Item) (xs : List Item) : Type 0 where
  old : Contains xs x → (x ≡ Task v → ⊥) → Origin v new x xs
  fresh : Contains xs (Task v) → Contains new x → Origin v new x xs

pub origin : (v : ℕ) (new : List Item) (x : Item) (xs : List Item) → Contains (items_after v new xs) x → Origin v new x xs
origin v new x [] m = absurd (none_in_empty x m)
origin v new x (z ∷ xs) m = by_line (line_cases v z) m (origin v new x xs)
  where
    more : Origin v new x xs → Origin v new x (z ∷ xs)
    more (old k f) = old (in_tail z xs x k) f
    more (fresh k f) = fresh (in_tail z xs (Task v) k) f

    by_line : IsLine v z → Contains (items_after v new (z ∷ xs)) x → (Contains (items_after v new xs) x → Origin v new x xs) → Origin v new x (z ∷ xs)
    by_line (yes_line j i) m ih = parts (mem_cases x new (items_after v new xs) (rw i at m))
      where
        parts : Contains new x ⊎ Contains (items_after v new xs) x → Origin v new x (z ∷ xs)
        parts (inl k) = fresh (at_head z xs (Task v) (sym j)) k
        parts (inr k) = more (ih k)
    by_line (no_line j i) m ih = parts (rw i at m)
      where
        parts : Contains (z ∷ items_after v new xs) x → Origin v new x (z ∷ xs)
        parts (zero, lt, e) = let same : x ≡ z = sym e in old (at_head z xs x same) (λ f. j (sym same ∙ f))
        parts (suc k, lt, e) = more (ih (k, omega (arith, lt), e))

-- where a pair comes from
pub data PairOrigin (v : ℕ) (new : List Item) (x y : Item) (ps : List (Item × Item)) : Type 0 where
  kept : (x ≡ Task v → ⊥) → (y ≡ Task v → ⊥) → Contains ps (x, y) → PairOrigin v new x y ps
  from_left : Contains new x → Contains ps (Task v, y) → PairOrigin v new x y ps
  from_right : Contains new y → (x ≡ Task v → ⊥) → Contains ps (x, Task v) → PairOrigin v new x y ps

pair_more : (v : ℕ) (new : List Item) (x y : Item) (p : Item × Item) (ps : List (Item × Item)) → PairOrigin v new x y ps → PairOrigin v new x y (p ∷ ps)
pair_more v new x y p ps (kept a b m) = kept a b (in_tail p ps (x, y) m)
pair_more v new x y p ps (from_left a m) = from_left a (in_tail p ps (Task v, y) m)
pair_more v new x y p ps (from_right a b m) = from_right a b (in_tail p ps (x, Task v) m)

became : (v : ℕ) (new : List Item) (x y a b : Item) (ps : List (Item × Item)) → Contains (inherited v new a b) (x, y) → PairOrigin v new x y ((a, b) ∷ ps)
became v new x y a b ps m = by_line (line_cases v a) (line_cases v b) m
  where
    by_line : IsLine v a → IsLine v b → Contains (inherited v new a b) (x, y) → PairOrigin v new x y ((a, b) ∷ ps)
    by_line (yes_line j i) s m =
        let from = mem_map_from (λ (z : Item). (z, b)) (x, y) new (rw i at m) in
        let x_is : x ≡ from.source = first_same x from.source y b from.image in
        let y_is : y ≡ b = second_same x from.source y b from.image in
        let P : Item → Type 0 = λ z. Contains new z in
        from_left (subst P (sym x_is) from.is_member) (at_head {X = Item × Item} (a, b) ps (Task v, y) (pair_same (Task v) a y b (sym j) y_is))
    by_line (no_line j i) (yes_line k i') m =
        let from = mem_map_from (λ (z : Item). (a, z)) (x, y) new (rw (i, i') at m) in
        let x_is : x ≡ a = first_same x a y from.source from.image in
        let y_is : y ≡ from.source = second_same x a y from.source from.image in
        let P : Item → Type 0 = λ z. Contains new z in
        from_right (subst P (sym y_is) from.is_member) (λ f. j (sym x_is ∙ f)) (at_head {X = Item × Item} (a, b) ps (x, Task v) (pair_same x a (Task v) b x_is (sym k)))
    by_line (no_line j i) (no_line k i') m = only (rw (i, i') at m)
      where
        only : Contains {X = Item × Item} ((a, b) ∷ []) (x, y) → PairOrigin v new x y ((a, b) ∷ ps)
        only (zero, lt, same) =
            let e : ◌≡◌ {A = Item × Item} (x, y) (a, b) = sym same in
            kept (λ g. j (sym (first_same x a y b e) ∙ g)) (λ g. k (sym (second_same x a y b e) ∙ g)) (at_head {X = Item × Item} (a, b) ps (x, y) e)
        only (suc place, lt, same) = absurd (let few : suc place < 1 = lt in omega (arith, few))

pub pair_origin : (v : ℕ) (new : List Item) (x y : Item) (ps : List (Item × Item)) → Contains (inherited_pairs v new ps) (x, y) → PairOrigin v new x y ps
pair_origin v new x y [] m = absurd (none_in_empty {X = Item × Item} (x, y) m)
pair_origin v new x y (p ∷ ps) m = by_member (mem_cases (x, y) (inherited v new p.0 p.1) (inherited_pairs v new ps) m) (pair_origin v new x y ps)
  where
    by_member : Contains (inherited v new p.0 p.1) (x, y) ⊎ Contains (inherited_pairs v new ps) (x, y) → (Contains (inherited_pairs v new ps) (x, y) → PairOrigin v new x y ps) → PairOrigin v new x y (p ∷ ps)
    by_member (inl k) ih = became v new x y p.0 p.1 ps k
    by_member (inr k) ih = pair_more v new x y p ps (ih k)

pub inherited_kept : (v : ℕ) (new : List Item) (x y : Item) → (x ≡ Task v → ⊥) → (y ≡ Task v → ⊥) → Contains (inherited v new x y) (x, y)
inherited_kept v new x y f g = by_line (line_cases v x) (line_cases v y)
  where
    by_line : IsLine v x → IsLine v y → Contains (inherited v new x y) (x, y)
    by_line (yes_line j i) s = absurd (f j)
    by_line (no_line j i) (yes_line k i') = absurd (g k)
    by_line (no_line j i) (no_line k i') = rw (i, i') (at_head {X = Item × Item} (x, y) [] (x, y) refl)

pub inherited_left : (v : ℕ) (new : List Item) (x z y : Item) → z ≡ Task v → Contains new x → Contains (inherited v new z y) (x, y)
inherited_left v new x z y e m = by_line (line_cases v z)
  where
    by_line : IsLine v z → Contains (inherited v new z y) (x, y)
    by_line (yes_line j i) = rw i (mem_map (λ (w : Item). (w, y)) x new m)
    by_line (no_line j i) = absurd (j e)

pub inherited_right : (v : ℕ) (new : List Item) (x y z : Item) → (x ≡ Task v → ⊥) → z ≡ Task v → Contains new y → Contains (inherited v new x z) (x, y)
inherited_right v new x y z f e m = by_line (line_cases v x) (line_cases v z)
  where
    by_line : IsLine v x → IsLine v z → Contains (inherited v new x z) (x, y)
    by_line (yes_line j i) s = absurd (f j)
    by_line (no_line j i) (yes_line k i') = rw (i, i') (mem_map (λ (w : Item). (x, w)) y new m)
    by_line (no_line j i) (no_line k i') = absurd (k e)

-- a pair of the list gives what it becomes
pub pair_gives : (v : ℕ) (new : List Item) (x y : Item) (p : Item × Item) (ps : List (Item × Item)) → Contains ps p → Contains (inherited v new p.0 p.1) (x, y) → Contains (inherited_pairs v new ps) (x, y)
pair_gives v new x y p [] m k = absurd (none_in_empty p m)
pair_gives v new x y p (q ∷ ps) (zero, lt, e) k =
    let P : Item × Item → Type 0 = λ r. Contains (inherited v new r.0 r.1) (x, y) in
    mem_left (x, y) (inherited v new q.0 q.1) (inherited_pairs v new ps) (subst P (sym e) k)
pair_gives v new x y p (q ∷ ps) (suc place, lt, e) k = mem_right (x, y) (inherited v new q.0 q.1) (inherited_pairs v new ps) (pair_gives v new x y p ps (place, omega (arith, lt), e) k)

-- the pairs of the members of lists
pub record PairOf (before : Item → Item → Bool) (x y : Item) (cs ds : List Item) : Type 0 where
  pub first : Contains cs x
  pub second : Contains ds y
  pub holds : before x y ≡ true

record PairFrom (before : Item → Item → Bool) (c x y : Item) (ds : List Item) : Type 0 where
  first : x ≡ c
  second : Contains ds y
  holds : before x y ≡ true

pairs_from_in : (b : Item → Item → Bool) (c x y : Item) (ds : List Item) → Contains (pairs_from b c ds) (x, y) → PairFrom b c x y ds
pairs_from_in b c x y [] m = absurd (none_in_empty {X = Item × Item} (x, y) m)
pairs_from_in b c x y (d ∷ ds) m = by_test (b c d) refl m (pairs_from_in b c x y ds)
  where
    later : PairFrom b c x y ds → PairFrom b c x y (d ∷ ds)
    later r = record { first = r.first; second = in_tail d ds y r.second; holds = r.holds }

    by_test : (v : Bool) → b c d ≡ v → Contains (pairs_from b c (d ∷ ds)) (x, y) → (Contains (pairs_from b c ds) (x, y) → PairFrom b c x y ds) → PairFrom b c x y (d ∷ ds)
    by_test true e m ih = parts (rw e at m)
      where
        here : x ≡ c → y ≡ d → PairFrom b c x y (d ∷ ds)
        here x_is y_is = record { first = x_is; second = at_head d ds y y_is; holds = rw (x_is, y_is) e }

        parts : Contains {X = Item × Item} ((c, d) ∷ pairs_from b c ds) (x, y) → PairFrom b c x y (d ∷ ds)
        parts (zero, lt, same) = let f : ◌≡◌ {A = Item × Item} (x, y) (c, d) = sym same in here (first_same x c y d f) (second_same x c y d f)
        parts (suc k, lt, same) = later (ih (k, omega (arith, lt), same))
    by_test false e m ih = later (ih (rw e at m))

pairs_from_has : (b : Item → Item → Bool) (x y : Item) (ds : List Item) → Contains ds y → b x y ≡ true → Contains (pairs_from b x ds) (x, y)
pairs_from_has b x y [] m e = absurd (none_in_empty y m)
pairs_from_has b x y (d ∷ ds) (zero, lt, there) e =
    let f : y ≡ d = sym there in
    let h : b x d ≡ true = ap (b x) (sym f) ∙ e in
    rw h (at_head {X = Item × Item} (x, d) (pairs_from b x ds) (x, y) (pair_same x x y d refl f))
pairs_from_has b x y (d ∷ ds) (suc place, lt, there) e = by_test (b x d) refl (pairs_from_has b x y ds (place, omega (arith, lt), there) e)
  where
    by_test : (v : Bool) → b x d ≡ v → Contains (pairs_from b x ds) (x, y) → Contains (pairs_from b x (d ∷ ds)) (x, y)
    by_test true h k = rw h (in_tail {X = Item × Item} (x, d) (pairs_from b x ds) (x, y) k)
    by_test false h k = rw h k

pub ordered_in : (b : Item → Item → Bool) (x y : Item) (cs ds : List Item) → Contains (ordered_pairs b cs ds) (x, y) → PairOf b x y cs ds
ordered_in b x y [] ds m = absurd (none_in_empty {X = Item × Item} (x, y) m)
ordered_in b x y (c ∷ cs) ds m = by_member (mem_cases (x, y) (pairs_from b c ds) (ordered_pairs b cs ds) m) (ordered_in b x y cs ds)
  where
    here : PairFrom b c x y ds → PairOf b x y (c ∷ cs) ds
    here r = record { first = at_head c cs x r.first; second = r.second; holds = r.holds }

    later : PairOf b x y cs ds → PairOf b x y (c ∷ cs) ds
    later r = record { first = in_tail c cs x r.first; second = r.second; holds = r.holds }

    by_member : Contains (pairs_from b c ds) (x, y) ⊎ Contains (ordered_pairs b cs ds) (x, y) → (Contains (ordered_pairs b cs ds) (x, y) → PairOf b x y cs ds) → PairOf b x y (c ∷ cs) ds
    by_member (inl k) ih = here (pairs_from_in b c x y ds k)
    by_member (inr k) ih = later (ih k)

pub ordered_has : (b : Item → Item → Bool) (x y : Item) (cs ds : List Item) → Contains cs x → Contains ds y → b x y ≡ true → Contains (ordered_pairs b cs ds) (x, y)
ordered_has b x y [] ds m k e = absurd (none_in_empty x m)
ordered_has b x y (c ∷ cs) ds (zero, lt, f) k e =
    let P : Item → Type 0 = λ z. Contains (pairs_from b z ds) (x, y) in
    mem_left (x, y) (pairs_from b c ds) (ordered_pairs b cs ds) (subst P (sym f) (pairs_from_has b x y ds k e))
ordered_has b x y (c ∷ cs) ds (suc place, lt, f) k e = mem_right (x, y) (pairs_from b c ds) (ordered_pairs b cs ds) (ordered_has b x y cs ds (place, omega (arith, lt), f) k e)
