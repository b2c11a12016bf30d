-- Precedence is a strict partial order.
use Rattle.std.proofs.Common.{◌≡◌, ℕ, true, List, refl, sym, ap, subst, inl, inr, ◌⊎◌, Contains}
use Rattle.hv_order.proofs.Ancestry
use Rattle.hv_order.proofs.Members.{pre_not_task, pre_same}
use Rattle.hv_order.proofs.Ancestry.{reached_initial, reached_child, reached_below, Above, above, same, above_pre, above_child, under}
use Rattle.hv_plan.specs.Trees.{Item, Task, Pre, Tree, AtOrBelow, its_pre, its_child, Reached, IsSubtask, IsTree}
use Rattle.hv_order.specs.Meanings.{Meaning, Choice, IsOrder, AreOrders}
use Rattle.hv_order.specs.Precedence.{Precedes, of_pre, of_line, of_root}

-- the initial network and the lines alike
pub data Node : Type 0 where
  Root : Node
  Line : ℕ → Node

abbrev pub kids : Tree → Node → List Item
kids t Root = t.initial_tasks
kids t (Line v) = t.children v

abbrev pub InTree : Tree → Node → Type 0
InTree t Root = Unit {0}
InTree t (Line v) = Reached t (Task v)

abbrev pub IsAbove : Tree → Item → Node → Type 0
IsAbove t c Root = ⊥
IsAbove t c (Line v) = AtOrBelow t c (Task v)

abbrev pub of_node : Choice → Node → Meaning
of_node o Root = o.root
of_node o (Line v) = o.line v

-- how two children stand that have something below them in common
pub data Meet (t : Tree) (a b : Node) (c d : Item) : Type 0 where
  meet_same : a ≡ b → c ≡ d → Meet t a b c d
  meet_over : IsAbove t c b → Meet t a b c d
  meet_under : IsAbove t d a → Meet t a b c d

-- the two kinds of precedence
pub data Order (t : Tree) (o : Choice) (x y : Item) : Type 0 where
  by_pre : {v : ℕ} {c : Item} → x ≡ Pre v → Reached t (Task v) → Contains (t.children v) c → AtOrBelow t c y → Order t o x y
  by_node : (a : Node) {c d : Item} → InTree t a → Contains (kids t a) c → Contains (kids t a) d → (of_node o a).before c d ≡ true → AtOrBelow t c x → AtOrBelow t d y → Order t o x y

pub to_order : (t : Tree) (o : Choice) (x y : Item) → Precedes t o x y → Order t o x y
to_order t o x y (of_pre r m p) = by_pre refl r m p
to_order t o x y (of_line {v = v} r m k b p q) = by_node (Line v) r m k b p q
to_order t o x y (of_root m k b p q) = by_node Root tt m k b p q

pub from_order : (t : Tree) (o : Choice) (x y : Item) → Order t o x y → Precedes t o x y
from_order t o x y (by_pre e r m p) = subst (λ z. Precedes t o z y) (sym e) (of_pre r m p)
from_order t o x y (by_node Root r m k b p q) = of_root m k b p q
from_order t o x y (by_node (Line v) r m k b p q) = of_line r m k b p q

module _ (t : Tree) (tree : IsTree t) where
  kid_kind : (a : Node) (c : Item) → Contains (kids t a) c → IsSubtask c
  kid_kind Root c m = tree.initial_kind c m
  kid_kind (Line v) c m = tree.child_kind v c m

  pub parent_once : (a b : Node) (x : Item) → InTree t a → InTree t b → Contains (kids t a) x → Contains (kids t b) x → a ≡ b
  parent_once Root Root x r s m k = refl
  parent_once Root (Line w) x r s m k = absurd (tree.no_initial_below s.ancestor x w s.is_initial s.below k m)
  parent_once (Line v) Root x r s m k = absurd (tree.no_initial_below r.ancestor x v r.is_initial r.below m k)
  parent_once (Line v) (Line w) x r s m k = ap Line (tree.one_parent v w x m k)

  pub kid_reached : (a : Node) (c : Item) → InTree t a → Contains (kids t a) c → Reached t c
  kid_reached Root c r m = reached_initial t m
  kid_reached (Line v) c r m = reached_child t v c r m

  over : (a b : Node) (c d : Item) → InTree t a → InTree t b → Contains (kids t a) c → Contains (kids t b) d → Above t c d → (c ≡ d) ⊎ IsAbove t c b
  over a b c d r s m k (same e) = inl (sym e)
  over a b c d r s m k (above_pre {v = w} e p) = absurd (let P : Item → Type 0 = IsSubtask in subst P e (kid_kind b d k))
  over a b c d r s m k (above_child {v = w} j p) =
      let in_tree : Reached t (Task w) = reached_below t c (kid_reached a c r m) p in
      let e : b ≡ Line w = parent_once b (Line w) d s in_tree k j in
      inr (let P : Node → Type 0 = IsAbove t c in subst P (sym e) p)

  pub meet : (a b : Node) (c d y : Item) → InTree t a → InTree t b → Contains (kids t a) c → Contains (kids t b) d → AtOrBelow t c y → AtOrBelow t d y → Meet t a b c d
  meet a b c d y r s m k p q = by_side (Ancestry.chain t tree c d p q)
    where
      one : c ≡ d → Meet t a b c d
      one e = meet_same (parent_once a b c r s m (let P : Item → Type 0 = λ z. Contains (kids t b) z in subst P (sym e) k)) e

      first : (c ≡ d) ⊎ IsAbove t c b → Meet t a b c d
      first (inl e) = one e
      first (inr h) = meet_over h

      second : (d ≡ c) ⊎ IsAbove t d a → Meet t a b c d
      second (inl e) = one (sym e)
      second (inr h) = meet_under h

      by_side : AtOrBelow t c d ⊎ AtOrBelow t d c → Meet t a b c d
      by_side (inl h) = first (over a b c d r s m k (above t c h))
      by_side (inr h) = second (over b a d c s r k m (above t d h))

  -- what stands above a node stands above its children and what is below them
  pub above_kid : (b : Node) (c e z : Item) → IsAbove t c b → Contains (kids t b) e → AtOrBelow t e z → AtOrBelow t c z
  above_kid Root c e z h m p = absurd h
  above_kid (Line v) c e z h m p = under t c e (its_child h m) p

  pub above_pre_step : (c : Item) (v : ℕ) → IsSubtask c → AtOrBelow t c (Pre v) → AtOrBelow t c (Task v)
  above_pre_step c v k p = by_above (above t c p)
    where
      by_above : Above t c (Pre v) → AtOrBelow t c (Task v)
      by_above (same e) = absurd (let P : Item → Type 0 = IsSubtask in subst P (sym e) k)
      by_above (above_pre {v = w} e q) = subst (λ u. AtOrBelow t c (Task u)) (sym (pre_same v w e)) q
      by_above (above_child {v = w} m q) = absurd (Ancestry.no_pre_child t tree v w m)

  module _ (o : Choice) (orders : AreOrders t o) where
    pub node_order : (a : Node) → InTree t a → IsOrder (kids t a) (of_node o a).before
    node_order Root r = orders.of_root
    node_order (Line v) r = orders.of_lines v r

    pub transitive : (x y z : Item) → Order t o x y → Order t o y z → Order t o x z
    transitive x y z (by_pre {v = v} {c = c} e r m p) (by_pre {v = u} {c = d} e' r' m' p') =
        let q = above_pre_step c u (tree.child_kind v c m) (subst (AtOrBelow t c) e' p) in
        by_pre e r m (under t c d (its_child q m') p')
    transitive x y z (by_pre {v = v} {c = c} e r m p) (by_node b {c = d} {d = f} s k j h q q') =
        by_meet (meet (Line v) b c d y r s m k p q)
      where
        by_meet : Meet t (Line v) b c d → Order t o x z
        by_meet (meet_same i i') = by_pre e r (let P : Node → Type 0 = λ n. Contains (kids t n) f in subst P (sym i) j) q'
        by_meet (meet_over h') = by_pre e r m (above_kid b c f z h' j q')
        by_meet (meet_under h') = by_node b s k j h (subst (AtOrBelow t d) (sym e) (its_pre h')) q'
    transitive x y z (by_node a {c = c} {d = d} r m k h p p') (by_pre {v = u} {c = f} e s j q) =
        let up = above_pre_step d u (kid_kind a d k) (subst (AtOrBelow t d) e p') in
        by_node a r m k h p (under t d f (its_child up j) q)
    transitive x y z (by_node a {c = c} {d = d} r m k h p p') (by_node b {c = c'} {d = d'} s m' k' h' q q') =
        by_meet (meet a b d c' y r s k m' p' q)
      where
        by_meet : Meet t a b d c' → Order t o x z
        by_meet (meet_same i i') =
            let P : Node → Type 0 = λ n. Contains (kids t n) d' in
            let k2 : Contains (kids t a) d' = subst P (sym i) k' in
            let Q : Node → Type 0 = λ n. (of_node o n).before c' d' ≡ true in
            let h2 : (of_node o a).before c' d' ≡ true = subst Q (sym i) h' in
            let R : Item → Type 0 = λ w. (of_node o a).before w d' ≡ true in
            by_node a r m k2 ((node_order a r).passed c d d' m k k2 h (subst R (sym i') h2)) p q'
        by_meet (meet_over u) = by_node a r m k h p (above_kid b d d' z u k' q')
        by_meet (meet_under u) = by_node b s m' k' h' (above_kid a c' c x u m p) q'

  -- a line of the tree is a child of the root or of a line
  pub record ParentOf (v : ℕ) : Type 0 where
    pub node : Node
    pub in_tree : InTree t node
    pub kid : Contains (kids t node) (Task v)

  pub parent_of : (v : ℕ) → Reached t (Task v) → ParentOf v
  parent_of v r = by_above (above t r.ancestor r.below)
    where
      by_above : Above t r.ancestor (Task v) → ParentOf v
      by_above (same e) = record { node = Root; in_tree = tt; kid = let P : Item → Type 0 = λ z. Contains t.initial_tasks z in subst P (sym e) r.is_initial }
      by_above (above_pre {v = w} e q) = absurd (pre_not_task w v (sym e))
      by_above (above_child {v = w} m q) = record { node = Line w; in_tree = record { ancestor = r.ancestor; is_initial = r.is_initial; below = q }; kid = m }
