-- Of an item of the tree it is decided whether it stands at or below a line; the tree of the line
-- alone has the same items there.
use Rattle.std.proofs.Common.{◌≡◌, ℕ, [], ◌∷◌, refl, sym, ap, subst, inl, inr, arith, ◌⊎◌, Contains, zero, suc, ◌<◌}
use Rattle.hv_lists.proofs.Contained.{at_head}
use Rattle.hv_plan.specs.Trees.{Item, Act, Task, Pre, Tree, AtOrBelow, itself, its_pre, its_child, Reached, IsSubtask, IsTree, line_tree}
use Rattle.hv_order.proofs.Members.{same_item}
use Rattle.hv_order.proofs.Ancestry
use Rattle.hv_order.proofs.Ancestry.{Above, above, same, above_pre, above_child, under, act_alone}
use Rattle.hv_order.proofs.Precedence

-- what stands below what is the same in the tree of one line
pub above_same : (t : Tree) (v : ℕ) (c : Item) {x : Item} → AtOrBelow t c x → AtOrBelow (line_tree t v) c x
above_same t v c itself = itself
above_same t v c (its_pre p) = its_pre (above_same t v c p)
above_same t v c (its_child p m) = its_child (above_same t v c p) m

pub below_same : (t : Tree) (v : ℕ) (c : Item) {x : Item} → AtOrBelow (line_tree t v) c x → AtOrBelow t c x
below_same t v c itself = itself
below_same t v c (its_pre p) = its_pre (below_same t v c p)
below_same t v c (its_child p m) = its_child (below_same t v c p) m

-- what belongs to the tree of one line stands at or below the line
pub line_reached : (t : Tree) (v : ℕ) (x : Item) → AtOrBelow t (Task v) x → Reached (line_tree t v) x
line_reached t v x p = record { ancestor = Task v; is_initial = at_head (Task v) [] (Task v) refl; below = above_same t v (Task v) p }

only_line : (v : ℕ) (c : Item) → Contains (Task v ∷ []) c → c ≡ Task v
only_line v c (zero, lt, e) = sym e
only_line v c (suc k, lt, e) = absurd (let few : suc k < 1 = lt in omega arith)

pub reached_line : (t : Tree) (v : ℕ) (x : Item) → Reached (line_tree t v) x → AtOrBelow t (Task v) x
reached_line t v x r =
    let top : r.ancestor ≡ Task v = only_line v r.ancestor r.is_initial in
    below_same t v (Task v) (subst (λ c. AtOrBelow (line_tree t v) c x) top r.below)

-- the tree of one line is a tree
pub line_is_tree : (t : Tree) (v : ℕ) → IsTree t → IsTree (line_tree t v)
line_is_tree t v tree = record {
  initial_kind = λ x m. let P : Item → Type 0 = IsSubtask in subst P (sym (only_line v x m)) tt;
  child_kind = tree.child_kind;
  lower = tree.lower;
  one_parent = tree.one_parent;
  no_initial_below = λ c x w m p k j. none_below c x w m p k j;
}
  where
    none_below : (c x : Item) (w : ℕ) → Contains (Task v ∷ []) c → AtOrBelow (line_tree t v) c (Task w) → Contains (t.children w) x → Contains (Task v ∷ []) x → ⊥
    none_below c x w m p k j =
        let line_above : AtOrBelow t (Task v) (Task w) = below_same t v (Task v) (subst (λ u. AtOrBelow (line_tree t v) u (Task w)) (only_line v c m) p) in
        Ancestry.no_cycle t tree (Task v) w (let P : Item → Type 0 = λ u. Contains (t.children w) u in subst P (only_line v x j) k) line_above

module _ (t : Tree) (tree : IsTree t) (v : ℕ) (rv : Reached t (Task v)) where
  both_ways : (c : Item) → IsSubtask c → AtOrBelow t c (Task v) → AtOrBelow t (Task v) c → c ≡ Task v
  both_ways (Act k) i p q = sym (act_alone t k p)
  both_ways (Pre k) i p q = absurd i
  both_ways (Task u) i p q =
      let a = Ancestry.number_at t tree u v p refl in
      let b = Ancestry.number_at t tree v u q refl in
      let e : u ≡ v = omega arith in
      ap Task e

  initial_below : (c : Item) → Contains t.initial_tasks c → AtOrBelow t (Task v) c → c ≡ Task v
  initial_below c m p =
      let e : rv.ancestor ≡ c = Ancestry.initial_siblings t tree rv.ancestor c c rv.is_initial m (under t rv.ancestor (Task v) rv.below p) itself in
      both_ways c (tree.initial_kind c m) (subst (λ z. AtOrBelow t z (Task v)) e rv.below) p

  child_below : (x : Item) (w : ℕ) → Contains (t.children w) x → Above t (Task v) x → (x ≡ Task v) ⊎ AtOrBelow t (Task v) (Task w)
  child_below x w m (same e) = inl e
  child_below x w m (above_pre {v = u} e q) = absurd (Ancestry.no_pre_child t tree u w (let P : Item → Type 0 = λ z. Contains (t.children w) z in subst P e m))
  child_below x w m (above_child {v = u} k q) = inr (subst (λ z. AtOrBelow t (Task v) (Task z)) (tree.one_parent u w x k m) q)

  -- walking up from the item
  below_or_not : (c : Item) → Contains t.initial_tasks c → {x : Item} → AtOrBelow t c x → AtOrBelow t (Task v) x ⊎ (AtOrBelow t (Task v) x → ⊥)
  below_or_not c m itself = by_equal (same_item c (Task v))
    where
      by_equal : (c ≡ Task v) ⊎ (c ≡ Task v → ⊥) → AtOrBelow t (Task v) c ⊎ (AtOrBelow t (Task v) c → ⊥)
      by_equal (inl e) = inl (subst (AtOrBelow t (Task v)) (sym e) itself)
      by_equal (inr n) = inr (λ p. n (initial_below c m p))
  below_or_not c m (its_pre {v = w} p) = by_side (below_or_not c m p)
    where
      by_side : AtOrBelow t (Task v) (Task w) ⊎ (AtOrBelow t (Task v) (Task w) → ⊥) → AtOrBelow t (Task v) (Pre w) ⊎ (AtOrBelow t (Task v) (Pre w) → ⊥)
      by_side (inl q) = inl (its_pre q)
      by_side (inr n) = inr (λ q. n (Precedence.above_pre_step t tree (Task v) w tt q))
  below_or_not c m (its_child {v = w} {x = x} p k) = by_side (below_or_not c m p) (same_item x (Task v))
    where
      none : (AtOrBelow t (Task v) (Task w) → ⊥) → (x ≡ Task v → ⊥) → (x ≡ Task v) ⊎ AtOrBelow t (Task v) (Task w) → ⊥
      none f g (inl e) = g e
      none f g (inr q) = f q

      by_side : AtOrBelow t (Task v) (Task w) ⊎ (AtOrBelow t (Task v) (Task w) → ⊥) → (x ≡ Task v) ⊎ (x ≡ Task v → ⊥) → AtOrBelow t (Task v) x ⊎ (AtOrBelow t (Task v) x → ⊥)
      by_side (inl q) s = inl (its_child q k)
      by_side (inr n) (inl e) = inl (subst (AtOrBelow t (Task v)) (sym e) itself)
      by_side (inr n) (inr f) = inr (λ q. none n f (child_below x w k (above t (Task v) q)))

  pub is_below : (x : Item) → Reached t x → AtOrBelow t (Task v) x ⊎ (AtOrBelow t (Task v) x → ⊥)
  is_below x r = below_or_not r.ancestor r.is_initial r.below
