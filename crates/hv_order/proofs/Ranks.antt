-- The rank of an item: how many items come before it by the pairs of a network.
use Rattle.std.proofs.Common.{◌≡◌, ℕ, ◌+◌, ◌<◌, ◌≤◌, List, [], ◌∷◌, refl, subst, inl, inr, arith, ◌⊎◌, Contains, zero, suc, sym}
use Rattle.hv_lists.proofs.Contained.{at_head, in_tail, none_in_empty}
use Rattle.hv_plan.specs.Trees.{Item}
use Rattle.hv_order.proofs.Members.{same_item, first_same, second_same, pair_same}

-- is the pair (x, y) in the list
data HasPair (x y : Item) (ps : List (Item × Item)) : Type 0 where
  has : Contains ps (x, y) → HasPair x y ps
  hasn't : (Contains ps (x, y) → ⊥) → HasPair x y ps

has_pair : (x y : Item) (ps : List (Item × Item)) → HasPair x y ps
has_pair x y [] = hasn't (λ m. none_in_empty {X = Item × Item} (x, y) m)
has_pair x y (p ∷ ps) = by_pair p (has_pair x y ps)
  where
    here : (a b : Item) → (x ≡ a) ⊎ (x ≡ a → ⊥) → (y ≡ b) ⊎ (y ≡ b → ⊥) → HasPair x y ps → HasPair x y ((a, b) ∷ ps)
    here a b first second (has m) = has (in_tail {X = Item × Item} (a, b) ps (x, y) m)
    here a b (inl e) (inl f) (hasn't none) = has (at_head {X = Item × Item} (a, b) ps (x, y) (pair_same x a y b e f))
    here a b (inl e) (inr other) (hasn't none) = hasn't not_here
      where
        not_here : Contains {X = Item × Item} ((a, b) ∷ ps) (x, y) → ⊥
        not_here (zero, lt, same) = other (second_same x a y b (sym same))
        not_here (suc k, lt, same) = none (k, omega (arith, lt), same)
    here a b (inr other) second (hasn't none) = hasn't not_here
      where
        not_here : Contains {X = Item × Item} ((a, b) ∷ ps) (x, y) → ⊥
        not_here (zero, lt, same) = other (first_same x a y b (sym same))
        not_here (suc k, lt, same) = none (k, omega (arith, lt), same)

    by_pair : (p : Item × Item) → HasPair x y ps → HasPair x y (p ∷ ps)
    by_pair (a, b) later = here a b (same_item x a) (same_item y b) later

-- how many items of a list come before x
module _ (ps : List (Item × Item)) where
  one_if : (z x : Item) → HasPair z x ps → ℕ
  one_if z x (has m) = 1
  one_if z x (hasn't f) = 0

  pub rank : Item → List Item → ℕ
  rank x [] = 0
  rank x (z ∷ zs) = one_if z x (has_pair z x ps) + rank x zs

  one_less : (z x y : Item) (h : HasPair z x ps) (k : HasPair z y ps) → (Contains ps (z, x) → Contains ps (z, y)) → one_if z x h ≤ one_if z y k
  unfolding one_if
  one_less z x y (has m) (has n) f = omega arith
  one_less z x y (has m) (hasn't g) f = absurd (g (f m))
  one_less z x y (hasn't g) k f = omega arith

  rank_le : (x y : Item) (zs : List Item) → ((z : Item) → Contains zs z → Contains ps (z, x) → Contains ps (z, y)) → rank x zs ≤ rank y zs
  unfolding rank
  rank_le x y [] f = omega arith
  rank_le x y (z ∷ zs) f =
      let a = one_less z x y (has_pair z x ps) (has_pair z y ps) (f z (at_head z zs z refl)) in
      let b = rank_le x y zs (λ w m. f w (in_tail z zs w m)) in
      omega arith

  one_more : (z x y : Item) (h : HasPair z x ps) (k : HasPair z y ps) → (Contains ps (z, x) → ⊥) → Contains ps (z, y) → one_if z x h < one_if z y k
  unfolding one_if
  one_more z x y (has m) k f n = absurd (f m)
  one_more z x y (hasn't g) (has m) f n = omega arith
  one_more z x y (hasn't g) (hasn't h) f n = absurd (h n)

  pub rank_less : (w x y : Item) (zs : List Item) → ((z : Item) → Contains zs z → Contains ps (z, x) → Contains ps (z, y)) → Contains zs w → (Contains ps (w, x) → ⊥) → Contains ps (w, y) → rank x zs < rank y zs
  unfolding rank
  rank_less w x y [] f m g h = absurd (none_in_empty w m)
  rank_less w x y (z ∷ zs) f (zero, lt, e) g h =
      let P : Item → Type 0 = λ u. Contains ps (u, x) → ⊥ in
      let Q : Item → Type 0 = λ u. Contains ps (u, y) in
      let a = one_more z x y (has_pair z x ps) (has_pair z y ps) (subst P (sym e) g) (subst Q (sym e) h) in
      let b = rank_le x y zs (λ u k. f u (in_tail z zs u k)) in
      omega arith
  rank_less w x y (z ∷ zs) f (suc i, lt, e) g h =
      let a = one_less z x y (has_pair z x ps) (has_pair z y ps) (f z (at_head z zs z refl)) in
      let b = rank_less w x y zs (λ u k. f u (in_tail z zs u k)) (i, omega (arith, lt), e) g h in
      omega arith
