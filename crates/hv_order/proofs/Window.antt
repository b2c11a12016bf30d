-- Split by indices: the steps of a line lie in a window that no other step meets.
use Rattle.std.proofs.Common.{◌≡◌, ℕ, ◌≤◌, List, [], ◌∷◌, refl, ap, subst, inl, inr, arith, ◌⊎◌, Contains, zero, suc, sym}
use Rattle.std.specs.Prelude.{max}
use Rattle.hv_lists.proofs.Contained.{at_head, in_tail, none_in_empty}
use Rattle.hv_plan.specs.Trees.{Item, Task, Pre, Tree, AtOrBelow, itself, its_pre, Reached, IsPrimitive, IsTree, line_tree}
use Rattle.hv_order.specs.Meanings.{AreOrders}
use Rattle.hv_order.specs.Networks.{Network}
use Rattle.hv_order.specs.Precedence.{Precedes, of_pre, of_line, of_root, IsEnd}
use Rattle.hv_order.specs.Schedules.{begins, ends, IsSchedule, Schedule, IsWindow, for_lines, HasWindow}
use Rattle.hv_order.specs.Laws.{WindowLaw}
use Rattle.hv_order.proofs.Members.{not_true}
use Rattle.hv_order.proofs.Ancestry
use Rattle.hv_order.proofs.Ancestry.{reached_pre, reached_child, reached_below}
use Rattle.hv_order.proofs.End.{end_law}
use Rattle.hv_order.proofs.Derivations.{derivation}
use Rattle.hv_order.proofs.InLine.{below_same, reached_line, is_below}

-- the least bound of a function on the items of a list that have a property
record Bound (P : Item → Type 0) (e : Item → ℕ) (base : ℕ) (xs : List Item) : Type 0 where
  bound : ℕ
  above_base : base ≤ bound
  upper : (x : Item) → Contains xs x → P x → e x ≤ bound
  least : (g : ℕ) → base ≤ g → ((x : Item) → Contains xs x → P x → e x ≤ g) → bound ≤ g

bound_of : (P : Item → Type 0) (e : Item → ℕ) (base : ℕ) (xs : List Item) → ((x : Item) → Contains xs x → P x ⊎ (P x → ⊥)) → Bound P e base xs
bound_of P e base [] d = record { bound = base; above_base = omega arith; upper = λ x m p. absurd (none_in_empty x m); least = λ g h k. h }
bound_of P e base (y ∷ ys) d = by_first (d y (at_head y ys y refl)) (bound_of P e base ys (λ x m. d x (in_tail y ys x m)))
  where
    with_y : (r : Bound P e base ys) → P y → (x : Item) → Contains (y ∷ ys) x → P x → e x ≤ max (e y) r.bound
    with_y r p x (zero, lt, h) q = let k : e x ≡ e y = ap e (sym h) in omega arith
    with_y r p x (suc i, lt, h) q = let k = r.upper x (i, omega (arith, lt), h) q in omega arith

    without_y : (r : Bound P e base ys) → (P y → ⊥) → (x : Item) → Contains (y ∷ ys) x → P x → e x ≤ r.bound
    without_y r n x (zero, lt, h) q = absurd (n (subst P (sym h) q))
    without_y r n x (suc i, lt, h) q = r.upper x (i, omega (arith, lt), h) q

    by_first : P y ⊎ (P y → ⊥) → Bound P e base ys → Bound P e base (y ∷ ys)
    by_first (inl p) r = record {
      bound = max (e y) r.bound;
      above_base = let h = r.above_base in omega arith;
      upper = with_y r p;
      least = λ g h k. let a = k y (at_head y ys y refl) p in let b = r.least g h (λ x m q. k x (in_tail y ys x m) q) in omega arith;
    }
    by_first (inr n) r = record { bound = r.bound; above_base = r.above_base; upper = without_y r n; least = λ g h k. r.least g h (λ x m q. k x (in_tail y ys x m) q) }

module _ (t : Tree) (v : ℕ) (a : Schedule) (tree : IsTree t) (rv : Reached t (Task v)) (orders : AreOrders t a.choice) (low high : ℕ) (whole : IsSchedule t a.choice a.at low high) where
  in_tree : (x : Item) → AtOrBelow t (Task v) x → Reached t x
  in_tree x p = reached_below t (Task v) rv p

  -- the pairs of the line's own tree are the tree's
  own_order : (x y : Item) → IsPrimitive x → IsPrimitive y → Precedes (line_tree t v) (for_lines a.choice) x y → ends a.at x ≤ begins a.at y
  own_order x y i j (of_pre {v = w} {c = c} r m p) =
      let line = in_tree (Task w) (reached_line t v (Task w) r) in
      let below = below_same t v c p in
      whole.order (Pre w) y tt j (reached_pre t w line) (reached_below t c (reached_child t w c line m) below) (of_pre line m below)
  own_order x y i j (of_line {v = w} {c = c} {d = d} r m k b p p') =
      let line = in_tree (Task w) (reached_line t v (Task w) r) in
      let below = below_same t v c p in
      let below' = below_same t v d p' in
      whole.order x y i j (reached_below t c (reached_child t w c line m) below) (reached_below t d (reached_child t w d line k) below') (of_line line m k b below below')
  own_order x y i j (of_root {c = c} {d = d} m k b p p') = not_true b

  own_pre : Reached t (Pre v)
  own_pre = reached_pre t v rv

  -- the line's precondition step begins first of its steps
  pre_first : (x : Item) → IsPrimitive x → AtOrBelow t (Task v) x → a.at v ≤ begins a.at x
  pre_first x i p = by_place (Ancestry.below t v p)
    where
      by_place : Ancestry.Below t v x → a.at v ≤ begins a.at x
      by_place (Ancestry.same_line e) = absurd (let P : Item → Type 0 = IsPrimitive in subst P e i)
      by_place (Ancestry.the_pre e) = rw e (omega arith)
      by_place (Ancestry.in_child {d = d} m q) = whole.order (Pre v) x tt i own_pre (in_tree x p) (of_pre rv m q)

  module _ (n : Network) (end : IsEnd t a.choice n) where
    last_end : Bound (λ x. AtOrBelow t (Task v) x) (ends a.at) (a.at v) n.items
    last_end = bound_of (λ x. AtOrBelow t (Task v) x) (ends a.at) (a.at v) n.items (λ x m. is_below t tree v rv x (end.reached x m))

    line_schedule : IsSchedule (line_tree t v) (for_lines a.choice) a.at (a.at v) last_end.bound
    line_schedule = record {
      holds = λ u r. whole.holds u (in_tree (Task u) (reached_line t v (Task u) r));
      from = λ x i r. pre_first x i (reached_line t v x r);
      until = λ x i r. let p = reached_line t v x r in last_end.upper x (end.complete x i (in_tree x p)) p;
      order = λ x y i j r k h. own_order x y i j h;
    }

    line_window : IsWindow t v a (a.at v) last_end.bound
    line_window = record {
      before = λ x i r h. whole.order x (Pre v) i tt r own_pre (Ancestry.precedes_below t tree a.choice orders x (Task v) (Pre v) h (its_pre itself));
      behind = λ y j k h.
          last_end.least (begins a.at y)
          (whole.order (Pre v) y tt j own_pre k (Ancestry.below_precedes t tree a.choice orders v (Task v) y (Pre v) refl h (its_pre itself)))
          (λ x m p. whole.order x y (end.primitive x m) j (end.reached x m) k (Ancestry.below_precedes t tree a.choice orders v (Task v) y x refl h p));
    }

    the_window : HasWindow t v a low high
    the_window = record {
      start = a.at v;
      finish = last_end.bound;
      late = whole.from (Pre v) tt own_pre;
      early = last_end.least high (whole.until (Pre v) tt own_pre) (λ x m p. whole.until x (end.primitive x m) (end.reached x m));
      within = line_schedule;
      window = line_window;
    }

pub window_law : WindowLaw
window_law t v a depth low high tree rv orders within whole =
    let d = derivation t tree a.choice orders depth within in
    the_window t v a tree rv orders low high whole d.end (end_law t a.choice d.lines d.end tree orders d.derives)
