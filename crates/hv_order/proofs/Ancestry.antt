-- What stands above and below what in a tree, and what that says of precedence.
use Rattle.std.proofs.Common.{◌≡◌, ℕ, ◌<◌, ◌≤◌, true, refl, sym, ap, ◌∙◌, subst, inl, inr, arith, ◌⊎◌, Contains}
use Rattle.hv_plan.specs.Trees.{Item, Act, Task, Pre, Tree, AtOrBelow, itself, its_pre, its_child, Reached, IsSubtask, IsTree}
use Rattle.hv_order.specs.Meanings.{Choice, AreOrders}
use Rattle.hv_order.specs.Precedence.{Precedes, of_pre, of_line, of_root}
use Rattle.hv_order.proofs.Members.{act_not_task, pre_not_task, task_same, pre_same}

-- from the lower end: x itself, or something right above it
pub data Above (t : Tree) (c : Item) (x : Item) : Type 0 where
  same : x ≡ c → Above t c x
  above_pre : {v : ℕ} → x ≡ Pre v → AtOrBelow t c (Task v) → Above t c x
  above_child : {v : ℕ} → Contains (t.children v) x → AtOrBelow t c (Task v) → Above t c x

pub above : (t : Tree) (c : Item) {x : Item} → AtOrBelow t c x → Above t c x
above t c itself = same refl
above t c (its_pre p) = above_pre refl p
above t c (its_child p m) = above_child m p

-- from the upper end: x itself, or something right below
pub data Below (t : Tree) (v : ℕ) (x : Item) : Type 0 where
  same_line : x ≡ Task v → Below t v x
  the_pre : x ≡ Pre v → Below t v x
  in_child : {d : Item} → Contains (t.children v) d → AtOrBelow t d x → Below t v x

pub below : (t : Tree) (v : ℕ) {x : Item} → AtOrBelow t (Task v) x → Below t v x
below t v itself = same_line refl
below t v (its_pre {v = w} p) = below_its_pre (below t v p)
  where
    below_its_pre : Below t v (Task w) → Below t v (Pre w)
    below_its_pre (same_line e) = the_pre (ap Pre (task_same w v e))
    below_its_pre (the_pre e) = absurd (pre_not_task v w (sym e))
    below_its_pre (in_child m q) = in_child m (its_pre q)
below t v (its_child {v = w} {x = x} p m) = below_its_child (below t v p)
  where
    below_its_child : Below t v (Task w) → Below t v x
    below_its_child (same_line e) = let P : ℕ → Type 0 = λ u. Contains (t.children u) x in in_child (subst P (task_same w v e) m) itself
    below_its_child (the_pre e) = absurd (pre_not_task v w (sym e))
    below_its_child (in_child k q) = in_child k (its_child q m)

pub under : (t : Tree) (c d : Item) {x : Item} → AtOrBelow t c d → AtOrBelow t d x → AtOrBelow t c x
under t c d p itself = p
under t c d p (its_pre q) = its_pre (under t c d p q)
under t c d p (its_child q m) = its_child (under t c d p q) m

-- what belongs to the tree
pub reached_initial : (t : Tree) {x : Item} → Contains t.initial_tasks x → Reached t x
reached_initial t {x = x} m = record { ancestor = x; is_initial = m; below = itself }

pub reached_below : (t : Tree) (c : Item) {x : Item} → Reached t c → AtOrBelow t c x → Reached t x
reached_below t c r p = record { ancestor = r.ancestor; is_initial = r.is_initial; below = under t r.ancestor c r.below p }

pub reached_pre : (t : Tree) (v : ℕ) → Reached t (Task v) → Reached t (Pre v)
reached_pre t v r = reached_below t (Task v) r (its_pre itself)

pub reached_child : (t : Tree) (v : ℕ) (x : Item) → Reached t (Task v) → Contains (t.children v) x → Reached t x
reached_child t v x r m = reached_below t (Task v) r (its_child itself m)

pub act_alone : (t : Tree) (k : ℕ) {x : Item} → AtOrBelow t (Act k) x → x ≡ Act k
act_alone t k itself = refl
act_alone t k (its_pre {v = v} p) = absurd (act_not_task k v (sym (act_alone t k p)))
act_alone t k (its_child {v = v} p m) = absurd (act_not_task k v (sym (act_alone t k p)))

pub pre_alone : (t : Tree) (k : ℕ) {x : Item} → AtOrBelow t (Pre k) x → x ≡ Pre k
pre_alone t k itself = refl
pre_alone t k (its_pre {v = v} p) = absurd (pre_not_task k v (sym (pre_alone t k p)))
pre_alone t k (its_child {v = v} p m) = absurd (pre_not_task k v (sym (pre_alone t k p)))

module _ (t : Tree) (tree : IsTree t) where
  pub number_at : (u v : ℕ) {x : Item} → AtOrBelow t (Task u) x → x ≡ Task v → v ≤ u
  number_at u v itself e = let s : u ≡ v = task_same u v e in omega arith
  number_at u v (its_pre {v = w} p) e = absurd (pre_not_task w v e)
  number_at u v (its_child {v = w} p m) e =
      let below_w : v < w = tree.lower w v (let P : Item → Type 0 = λ y. Contains (t.children w) y in subst P e m) in
      let above_w : w ≤ u = number_at u w p refl in
      omega arith

  pub no_pre_child : (v w : ℕ) → Contains (t.children w) (Pre v) → ⊥
  no_pre_child v w m = tree.child_kind w (Pre v) m

  -- nothing stands below its own child
  pub no_cycle : (d : Item) (v : ℕ) → Contains (t.children v) d → AtOrBelow t d (Task v) → ⊥
  no_cycle (Act k) v m p = act_not_task k v (sym (act_alone t k p))
  no_cycle (Pre k) v m p = pre_not_task k v (sym (pre_alone t k p))
  no_cycle (Task u) v m p =
      let a : u < v = tree.lower v u m in
      let b : v ≤ u = number_at u v p refl in
      absurd (omega arith)

  -- of two that stand above one item, one stands above the other
  chain_pre : (c d : Item) (v : ℕ) → AtOrBelow t c (Task v) → (AtOrBelow t d (Task v) → AtOrBelow t c d ⊎ AtOrBelow t d c) → Above t d (Pre v) → AtOrBelow t c d ⊎ AtOrBelow t d c
  chain_pre c d v p ih (same e) = inl (subst (AtOrBelow t c) e (its_pre p))
  chain_pre c d v p ih (above_pre {v = w} e r) = ih (subst (λ u. AtOrBelow t d (Task u)) (sym (pre_same v w e)) r)
  chain_pre c d v p ih (above_child {v = w} m r) = absurd (no_pre_child v w m)

  chain_child : (c d : Item) (v : ℕ) (x : Item) → AtOrBelow t c (Task v) → Contains (t.children v) x → (AtOrBelow t d (Task v) → AtOrBelow t c d ⊎ AtOrBelow t d c) → Above t d x → AtOrBelow t c d ⊎ AtOrBelow t d c
  chain_child c d v x p m ih (same e) = inl (subst (AtOrBelow t c) e (its_child p m))
  chain_child c d v x p m ih (above_pre {v = w} e r) = absurd (no_pre_child w v (let P : Item → Type 0 = λ y. Contains (t.children v) y in subst P e m))
  chain_child c d v x p m ih (above_child {v = w} k r) = ih (subst (λ u. AtOrBelow t d (Task u)) (sym (tree.one_parent v w x m k)) r)

  pub chain : (c d : Item) {x : Item} → AtOrBelow t c x → AtOrBelow t d x → AtOrBelow t c d ⊎ AtOrBelow t d c
  chain c d itself q = inr q
  chain c d (its_pre {v = v} p) q = chain_pre c d v p (λ r. chain c d p r) (above t d q)
  chain c d (its_child {v = v} {x = x} p m) q = chain_child c d v x p m (λ r. chain c d p r) (above t d q)

  -- a child of v that stands above another child of v is that child
  sibling_above : (c d : Item) (v : ℕ) → Contains (t.children v) c → Contains (t.children v) d → Above t c d → c ≡ d
  sibling_above c d v m k (same e) = sym e
  sibling_above c d v m k (above_pre {v = w} e r) = absurd (no_pre_child w v (let P : Item → Type 0 = λ y. Contains (t.children v) y in subst P e k))
  sibling_above c d v m k (above_child {v = w} j r) = absurd (no_cycle c v m (subst (λ u. AtOrBelow t c (Task u)) (sym (tree.one_parent v w d k j)) r))

  pub siblings : (c d x : Item) (v : ℕ) → Contains (t.children v) c → Contains (t.children v) d → AtOrBelow t c x → AtOrBelow t d x → c ≡ d
  siblings c d x v m k p q = by_side (chain c d p q)
    where
      by_side : AtOrBelow t c d ⊎ AtOrBelow t d c → c ≡ d
      by_side (inl r) = sibling_above c d v m k (above t c r)
      by_side (inr r) = sym (sibling_above d c v k m (above t d r))

  initial_above : (c d : Item) → Contains t.initial_tasks c → Contains t.initial_tasks d → Above t c d → c ≡ d
  initial_above c d m k (same e) = sym e
  initial_above c d m k (above_pre {v = w} e r) = absurd (let P : Item → Type 0 = IsSubtask in subst P e (tree.initial_kind d k))
  initial_above c d m k (above_child {v = w} j r) = absurd (tree.no_initial_below c d w m r j k)

  pub initial_siblings : (c d x : Item) → Contains t.initial_tasks c → Contains t.initial_tasks d → AtOrBelow t c x → AtOrBelow t d x → c ≡ d
  initial_siblings c d x m k p q = by_side (chain c d p q)
    where
      by_side : AtOrBelow t c d ⊎ AtOrBelow t d c → c ≡ d
      by_side (inl r) = initial_above c d m k (above t c r)
      by_side (inr r) = sym (initial_above d c k m (above t d r))

  -- what decomposing v puts in its place
  pub data New (v : ℕ) (x : Item) : Type 0 where
    new_pre : x ≡ Pre v → New v x
    new_child : Contains (t.children v) x → New v x

  pub new_below : (v : ℕ) (x : Item) → New v x → AtOrBelow t (Task v) x
  new_below v x (new_pre e) = subst (AtOrBelow t (Task v)) (sym e) (its_pre itself)
  new_below v x (new_child m) = its_child itself m

  pub new_not_above : (v : ℕ) (x : Item) → New v x → AtOrBelow t x (Task v) → ⊥
  new_not_above v x (new_pre e) p = pre_not_task v v (sym (pre_alone t v (subst (λ y. AtOrBelow t y (Task v)) e p)))
  new_not_above v x (new_child m) p = no_cycle x v m p

  pub new_not_line : (v : ℕ) (x : Item) → New v x → x ≡ Task v → ⊥
  new_not_line v x n e = new_not_above v x n (subst (AtOrBelow t x) e itself)

  -- what stands above a new item is that item, or stands above v
  pub above_new : (v : ℕ) (c y : Item) → New v y → AtOrBelow t c y → (y ≡ c) ⊎ AtOrBelow t c (Task v)
  above_new v c y n p = by_kind n (above t c p)
    where
      by_kind : New v y → Above t c y → (y ≡ c) ⊎ AtOrBelow t c (Task v)
      by_kind n (same e) = inl e
      by_kind (new_pre e) (above_pre {v = w} k r) = inr (subst (λ u. AtOrBelow t c (Task u)) (pre_same w v (sym k ∙ e)) r)
      by_kind (new_child m) (above_pre {v = w} k r) = absurd (no_pre_child w v (let P : Item → Type 0 = λ z. Contains (t.children v) z in subst P k m))
      by_kind (new_pre e) (above_child {v = w} m r) = absurd (no_pre_child v w (let P : Item → Type 0 = λ z. Contains (t.children w) z in subst P e m))
      by_kind (new_child m) (above_child {v = w} j r) = inr (subst (λ u. AtOrBelow t c (Task u)) (tree.one_parent w v y j m) r)

  -- a new item that is a child of w is a child of v, so w is v
  pub record ChildOf (v w : ℕ) (y : Item) : Type 0 where
    pub same_line : w ≡ v
    pub child : Contains (t.children v) y

  pub new_child_of : (v w : ℕ) (y : Item) → New v y → Contains (t.children w) y → ChildOf v w y
  new_child_of v w y (new_pre e) m = absurd (no_pre_child v w (let P : Item → Type 0 = λ z. Contains (t.children w) z in subst P e m))
  new_child_of v w y (new_child j) m = record { same_line = tree.one_parent w v y m j; child = j }

  pub new_not_initial : (v : ℕ) (y : Item) → New v y → Reached t (Task v) → Contains t.initial_tasks y → ⊥
  new_not_initial v y (new_pre e) r m = let P : Item → Type 0 = IsSubtask in subst P e (tree.initial_kind y m)
  new_not_initial v y (new_child j) r m = tree.no_initial_below r.ancestor y v r.is_initial r.below j m

  module _ (o : Choice) (orders : AreOrders t o) where
    -- nothing precedes itself
    pub irreflexive : (x y : Item) → Precedes t o x y → x ≡ y → ⊥
    irreflexive x y (of_pre {v = v} {c = c} r m p) e = no_cycle c v m (line_of (above t c (subst (AtOrBelow t c) (sym e) p)))
      where
        line_of : Above t c (Pre v) → AtOrBelow t c (Task v)
        line_of (same k) = absurd (let P : Item → Type 0 = IsSubtask in subst P (sym k) (tree.child_kind v c m))
        line_of (above_pre {v = w} k r) = subst (λ u. AtOrBelow t c (Task u)) (sym (pre_same v w k)) r
        line_of (above_child {v = w} k r) = absurd (no_pre_child v w k)
    irreflexive x y (of_line {v = v} {c = c} {d = d} r m k b p q) e =
        let s : c ≡ d = siblings c d x v m k p (subst (AtOrBelow t d) (sym e) q) in
        let P : Item → Type 0 = λ z. (o.line v).before c z ≡ true in
        (orders.of_lines v r).strict c m (subst P (sym s) b)
    irreflexive x y (of_root {c = c} {d = d} m k b p q) e =
        let s : c ≡ d = initial_siblings c d x m k p (subst (AtOrBelow t d) (sym e) q) in
        let P : Item → Type 0 = λ z. o.root.before c z ≡ true in
        orders.of_root.strict c m (subst P (sym s) b)

    -- what precedes a line precedes all that is at or below it, and likewise behind
    pub precedes_below : (x y z : Item) → Precedes t o x y → AtOrBelow t y z → Precedes t o x z
    precedes_below x y z (of_pre {v = v} {c = c} r m p) q = of_pre r m (under t c y p q)
    precedes_below x y z (of_line {d = d} r m k b p p') q = of_line r m k b p (under t d y p' q)
    precedes_below x y z (of_root {d = d} m k b p p') q = of_root m k b p (under t d y p' q)

    pub below_precedes : (v : ℕ) (x y z : Item) → x ≡ Task v → Precedes t o x y → AtOrBelow t x z → Precedes t o z y
    below_precedes v x y z e (of_pre {v = w} r m p) q = absurd (pre_not_task w v e)
    below_precedes v x y z e (of_line {c = c} r m k b p p') q = of_line r m k b (under t c x p q) p'
    below_precedes v x y z e (of_root {c = c} m k b p p') q = of_root m k b (under t c x p q) p'

    -- what precedes a new item and does not stand at or below v precedes v
    pub precedes_line : (v : ℕ) (x y : Item) → Reached t (Task v) → New v y → (AtOrBelow t (Task v) x → ⊥) → Precedes t o x y → Precedes t o x (Task v)
    precedes_line v x y r n out (of_pre {v = w} {c = c} rw' m p) = by_equal (above_new v c y n p)
      where
        by_equal : (y ≡ c) ⊎ AtOrBelow t c (Task v) → Precedes t o (Pre w) (Task v)
        by_equal (inl e) =
            let same_v = new_child_of v w y n (let P : Item → Type 0 = λ z. Contains (t.children w) z in subst P (sym e) m) in
            absurd (out (let P : ℕ → Type 0 = λ u. AtOrBelow t (Task v) (Pre u) in subst P (sym same_v.same_line) (its_pre itself)))
        by_equal (inr q) = of_pre rw' m q
    precedes_line v x y r n out (of_line {v = w} {c = c} {d = d} rw' m k b p q) = by_equal (above_new v d y n q)
      where
        by_equal : (y ≡ d) ⊎ AtOrBelow t d (Task v) → Precedes t o x (Task v)
        by_equal (inl e) =
            let same_v = new_child_of v w y n (let P : Item → Type 0 = λ z. Contains (t.children w) z in subst P (sym e) k) in
            let P : ℕ → Type 0 = λ u. Contains (t.children u) c in
            absurd (out (under t (Task v) c (its_child itself (subst P same_v.same_line m)) p))
        by_equal (inr q') = of_line rw' m k b p q'
    precedes_line v x y r n out (of_root {c = c} {d = d} m k b p q) = by_equal (above_new v d y n q)
      where
        by_equal : (y ≡ d) ⊎ AtOrBelow t d (Task v) → Precedes t o x (Task v)
        by_equal (inl e) = absurd (new_not_initial v y n r (let P : Item → Type 0 = λ z. Contains t.initial_tasks z in subst P (sym e) k))
        by_equal (inr q') = of_root m k b p q'

    pub line_precedes : (v : ℕ) (x y : Item) → Reached t (Task v) → New v x → (AtOrBelow t (Task v) y → ⊥) → Precedes t o x y → Precedes t o (Task v) y
    line_precedes v x y r n out (of_pre {v = w} {c = c} rw' m p) = by_kind n
      where
        by_kind : New v (Pre w) → Precedes t o (Task v) y
        by_kind (new_pre e) =
            let P : ℕ → Type 0 = λ u. Contains (t.children u) c in
            absurd (out (under t (Task v) c (its_child itself (subst P (pre_same w v e) m)) p))
        by_kind (new_child j) = absurd (no_pre_child w v j)
    line_precedes v x y r n out (of_line {v = w} {c = c} {d = d} rw' m k b p q) = by_equal (above_new v c x n p)
      where
        by_equal : (x ≡ c) ⊎ AtOrBelow t c (Task v) → Precedes t o (Task v) y
        by_equal (inl e) =
            let same_v = new_child_of v w x n (let P : Item → Type 0 = λ z. Contains (t.children w) z in subst P (sym e) m) in
            let P : ℕ → Type 0 = λ u. Contains (t.children u) d in
            absurd (out (under t (Task v) d (its_child itself (subst P same_v.same_line k)) q))
        by_equal (inr p') = of_line rw' m k b p' q
    line_precedes v x y r n out (of_root {c = c} {d = d} m k b p q) = by_equal (above_new v c x n p)
      where
        by_equal : (x ≡ c) ⊎ AtOrBelow t c (Task v) → Precedes t o (Task v) y
        by_equal (inl e) = absurd (new_not_initial v x n r (let P : Item → Type 0 = λ z. Contains t.initial_tasks z in subst P (sym e) m))
        by_equal (inr p') = of_root m k b p' q

    -- two new items
    pub data Inside (v : ℕ) (x y : Item) : Type 0 where
      pre_first : x ≡ Pre v → Contains (t.children v) y → Inside v x y
      children : Contains (t.children v) x → Contains (t.children v) y → (o.line v).before x y ≡ true → Inside v x y

    pub inside : (v : ℕ) (x y : Item) → Reached t (Task v) → New v x → New v y → Precedes t o x y → Inside v x y
    inside v x y r n n' (of_pre {v = w} {c = c} rw' m p) = by_kind n n'
      where
        by_kind : New v (Pre w) → New v y → Inside v (Pre w) y
        by_kind (new_pre e) (new_pre e') = absurd (irreflexive (Pre w) y (of_pre rw' m p) (e ∙ sym e'))
        by_kind (new_pre e) (new_child j) = pre_first e j
        by_kind (new_child j) k = absurd (no_pre_child w v j)
    inside v x y r n n' (of_line {v = w} {c = c} {d = d} rw' m k b p q) = by_equal (above_new v c x n p) (above_new v d y n' q)
      where
        by_equal : (x ≡ c) ⊎ AtOrBelow t c (Task v) → (y ≡ d) ⊎ AtOrBelow t d (Task v) → Inside v x y
        by_equal (inl e) (inl f) =
            let a = new_child_of v w x n (let P : Item → Type 0 = λ z. Contains (t.children w) z in subst P (sym e) m) in
            let b' = new_child_of v w y n' (let P : Item → Type 0 = λ z. Contains (t.children w) z in subst P (sym f) k) in
            let b1 : (o.line w).before x y ≡ true = rw (e, f) b in
            let P : ℕ → Type 0 = λ u. (o.line u).before x y ≡ true in
            children a.child b'.child (subst P a.same_line b1)
        by_equal (inl e) (inr q') =
            let a = new_child_of v w x n (let P : Item → Type 0 = λ z. Contains (t.children w) z in subst P (sym e) m) in
            let P : ℕ → Type 0 = λ u. Contains (t.children u) d in
            absurd (no_cycle d v (subst P a.same_line k) q')
        by_equal (inr p') (inl f) =
            let a = new_child_of v w y n' (let P : Item → Type 0 = λ z. Contains (t.children w) z in subst P (sym f) k) in
            let P : ℕ → Type 0 = λ u. Contains (t.children u) c in
            absurd (no_cycle c v (subst P a.same_line m) p')
        by_equal (inr p') (inr q') =
            let s : c ≡ d = siblings c d (Task v) w m k p' q' in
            let P : Item → Type 0 = λ z. (o.line w).before c z ≡ true in
            absurd ((orders.of_lines w rw').strict c m (subst P (sym s) b))
    inside v x y r n n' (of_root {c = c} {d = d} m k b p q) = by_equal (above_new v c x n p) (above_new v d y n' q)
      where
        by_equal : (x ≡ c) ⊎ AtOrBelow t c (Task v) → (y ≡ d) ⊎ AtOrBelow t d (Task v) → Inside v x y
        by_equal (inl e) h = absurd (new_not_initial v x n r (let P : Item → Type 0 = λ z. Contains t.initial_tasks z in subst P (sym e) m))
        by_equal (inr p') (inl f) = absurd (new_not_initial v y n' r (let P : Item → Type 0 = λ z. Contains t.initial_tasks z in subst P (sym f) k))
        by_equal (inr p') (inr q') =
            let s : c ≡ d = initial_siblings c d (Task v) m k p' q' in
            let P : Item → Type 0 = λ z. o.root.before c z ≡ true in
            absurd (orders.of_root.strict c m (subst P (sym s) b))
