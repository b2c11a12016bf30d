-- A strict partial order on a list's members has a topological sort: by how many come before each.
use Rattle.std.proofs.Common.{◌≡◌, ℕ, ◌+◌, ◌<◌, ◌≤◌, Bool, true, false, List, [], ◌∷◌, refl, subst, arith, Contains, zero, suc, sym}
use Rattle.std.specs.Prelude.{if◌then◌else◌}
use Rattle.hv_lists.proofs.Contained.{at_head, in_tail, none_in_empty}
use Rattle.hv_plan.specs.Trees.{Item}
use Rattle.hv_order.specs.Meanings.{IsOrder}
use Rattle.hv_order.specs.Tables.{Respects, HasSort}
use Rattle.hv_order.specs.Laws.{SortLaw}
use Rattle.hv_order.proofs.Members.{not_true}
use Rattle.hv_order.proofs.Sorting.{less_place, sorted, IsSorted, sorted_sorted, sorted_has, sorted_from, sorted_distinct}

-- how many members of a list come before x
count : (Item → Item → Bool) → Item → List Item → ℕ
count b x [] = 0
count b x (z ∷ zs) = (if b z x then 1 else 0) + count b x zs

one_le : (p q : Bool) → (p ≡ true → q ≡ true) → (if p then 1 else 0) ≤ (if q then 1 else 0)
one_le true true h = omega arith
one_le true false h = not_true (h refl)
one_le false q h = omega arith

one_less : (p q : Bool) → (p ≡ true → ⊥) → q ≡ true → (if p then 1 else 0) < (if q then 1 else 0)
one_less true q f h = absurd (f refl)
one_less false true f h = omega arith
one_less false false f h = not_true h

count_le : (b : Item → Item → Bool) (x y : Item) (zs : List Item) → ((z : Item) → Contains zs z → b z x ≡ true → b z y ≡ true) → count b x zs ≤ count b y zs
unfolding count
count_le b x y [] f = omega arith
count_le b x y (z ∷ zs) f =
    let a = one_le (b z x) (b z y) (f z (at_head z zs z refl)) in
    let c = count_le b x y zs (λ w m. f w (in_tail z zs w m)) in
    omega arith

count_less : (b : Item → Item → Bool) (w x y : Item) (zs : List Item) → ((z : Item) → Contains zs z → b z x ≡ true → b z y ≡ true) → Contains zs w → (b w x ≡ true → ⊥) → b w y ≡ true → count b x zs < count b y zs
unfolding count
count_less b w x y [] f m g h = absurd (none_in_empty w m)
count_less b w x y (z ∷ zs) f (zero, lt, e) g h =
    let P : Item → Type 0 = λ u. b u x ≡ true → ⊥ in
    let Q : Item → Type 0 = λ u. b u y ≡ true in
    let a = one_less (b z x) (b z y) (subst P (sym e) g) (subst Q (sym e) h) in
    let c = count_le b x y zs (λ u k. f u (in_tail z zs u k)) in
    omega arith
count_less b w x y (z ∷ zs) f (suc i, lt, e) g h =
    let a = one_le (b z x) (b z y) (f z (at_head z zs z refl)) in
    let c = count_less b w x y zs (λ u k. f u (in_tail z zs u k)) (i, omega (arith, lt), e) g h in
    omega arith

module _ (xs : List Item) (b : Item → Item → Bool) (order : IsOrder xs b) where
  place : Item → ℕ
  place x = count b x xs

  place_less : (x y : Item) → Contains xs x → Contains xs y → b x y ≡ true → place x < place y
  unfolding place
  place_less x y m k h = count_less b x x y xs (λ z j i. order.passed z x y j m k i h) m (order.strict x m) h

  respects : (q : List Item) → ((x : Item) → Contains q x → Contains xs x) → IsSorted place (λ x. 0) q → Respects b q
  respects [] sub sort = tt
  respects (x ∷ q) sub sort =
      let (before_rest, rest) = sort in
      ((λ y m h. none_before y m h), respects q (λ y m. sub y (in_tail x q y m)) rest)
    where
      none_before : (y : Item) → Contains q y → b y x ≡ true → ⊥
      none_before y m h =
          let (before_rest, rest) = sort in
          let by_order = place_less y x (sub y (in_tail x q y m)) (sub x (at_head x q x refl)) h in
          let by_place = less_place place (λ x. 0) (before_rest y m) in
          omega arith

  sort_of : HasSort xs b
  sort_of =
      let sort = sorted_sorted place (λ x. 0) xs in
      record {
        sort = sorted place (λ x. 0) xs;
        is_sort = record {
          has = λ x m. sorted_has place (λ x. 0) x xs m;
          only = λ x m. sorted_from place (λ x. 0) x xs m;
          distinct = sorted_distinct place (λ x. 0) _ sort;
          respects = respects _ (λ x m. sorted_from place (λ x. 0) x xs m) sort;
        };
      }

pub sort_law : SortLaw
sort_law xs before order = sort_of xs before order
