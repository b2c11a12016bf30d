-- Exchange: the choices and indices at and below one line may be replaced by others that keep to a
-- window of the line.
use Rattle.std.proofs.Common.{◌≡◌, ℕ, ◌≤◌, true, refl, sym, subst, inl, inr, arith, ◌⊎◌, Contains}
use Rattle.hv_plan.specs.Trees.{Item, Act, Task, Pre, Tree, AtOrBelow, itself, its_pre, Reached, IsPrimitive, IsTree, line_tree}
use Rattle.hv_order.specs.Meanings.{Meaning, AreOrders}
use Rattle.hv_order.specs.Precedence.{Precedes, of_pre, of_line}
use Rattle.hv_order.specs.Schedules.{begins, ends, IsSchedule, Schedule, IsWindow, IsExchange, for_lines}
use Rattle.hv_order.specs.Laws.{ExchangeLaw, LeastExchangeLaw}
use Rattle.hv_order.proofs.Ancestry
use Rattle.hv_order.proofs.Ancestry.{under}
use Rattle.hv_order.proofs.Precedence
use Rattle.hv_order.proofs.Precedence.{Node, Root, Line, kids, InTree, IsAbove, of_node, Meet, meet_same, meet_over, meet_under, Order, by_pre, by_node, to_order, from_order}
use Rattle.hv_order.proofs.Split.{split_before, split_behind}
use Rattle.hv_order.proofs.InLine.{above_same, line_reached, is_below}

module _ (t : Tree) (tree : IsTree t) (v : ℕ) (rv : Reached t (Task v)) where
  -- a child of a node that is not at or below v, with something at or below v below it, stands above v
  above_line : (a : Node) (c x : Item) → InTree t a → (IsAbove t (Task v) a → ⊥) → Contains (kids t a) c → AtOrBelow t c x → AtOrBelow t (Task v) x → AtOrBelow t c (Task v)
  above_line a c x r out m p q =
      let up = Precedence.parent_of t tree v rv in
      by_meet (Precedence.meet t tree a up.node c (Task v) x r up.in_tree m up.kid p q)
    where
      by_meet : Meet t a (Precedence.parent_of t tree v rv).node c (Task v) → AtOrBelow t c (Task v)
      by_meet (meet_same e f) = subst (AtOrBelow t c) f itself
      by_meet (meet_over h) = Precedence.above_kid t tree (Precedence.parent_of t tree v rv).node c (Task v) (Task v) h (Precedence.parent_of t tree v rv).kid itself
      by_meet (meet_under h) = absurd (out h)

  two_above : (a : Node) (c d : Item) → InTree t a → Contains (kids t a) c → Contains (kids t a) d → AtOrBelow t c (Task v) → AtOrBelow t d (Task v) → c ≡ d
  two_above Root c d r m k p q = Ancestry.initial_siblings t tree c d (Task v) m k p q
  two_above (Line w) c d r m k p q = Ancestry.siblings t tree c d (Task v) w m k p q

  -- a node is at or below v, or not
  node_below : (a : Node) → InTree t a → IsAbove t (Task v) a ⊎ (IsAbove t (Task v) a → ⊥)
  node_below Root r = inr (λ h. h)
  node_below (Line w) r = is_below t tree v rv (Task w) r

  module _ (a b c : Schedule) (orders : AreOrders t a.choice) (orders_c : AreOrders t c.choice) (ex : IsExchange t v a b c) where
    same_node : (n : Node) → (IsAbove t (Task v) n → ⊥) → of_node c.choice n ≡ of_node a.choice n
    same_node Root out = ex.root
    same_node (Line w) out = ex.other_line w out

    -- pairs of nodes that are not at or below v are a's
    old_pair : (n : Node) (x y d e : Item) → InTree t n → (IsAbove t (Task v) n → ⊥) → Contains (kids t n) d → Contains (kids t n) e → (of_node c.choice n).before d e ≡ true → AtOrBelow t d x → AtOrBelow t e y → Order t a.choice x y
    old_pair n x y d e r out m k h p q =
        let P : Meaning → Type 0 = λ u. u.before d e ≡ true in
        by_node n r m k (subst P (same_node n out) h) p q

    node_out : (n : Node) (d x : Item) → Contains (kids t n) d → AtOrBelow t d x → (AtOrBelow t (Task v) x → ⊥) → IsAbove t (Task v) n → ⊥
    node_out n d x m p out h = out (Precedence.above_kid t tree n (Task v) d x h m p)

    outer_first : (x y : Item) → (AtOrBelow t (Task v) x → ⊥) → Order t c.choice x y → Order t a.choice x y
    outer_first x y out (by_pre e r m p) = by_pre e r m p
    outer_first x y out (by_node n {c = d} {d = e} r m k h p q) = old_pair n x y d e r (node_out n d x m p out) m k h p q

    outer_second : (x y : Item) → (AtOrBelow t (Task v) y → ⊥) → Order t c.choice x y → Order t a.choice x y
    outer_second x y out (by_pre e r m p) = by_pre e r m p
    outer_second x y out (by_node n {c = d} {d = e} r m k h p q) = old_pair n x y d e r (node_out n e y k q out) m k h p q

    in_line : (x : Item) → AtOrBelow t (Task v) x → Reached (line_tree t v) x
    in_line x p = line_reached t v x p

    inner_pair : (x y : Item) → AtOrBelow t (Task v) x → AtOrBelow t (Task v) y → Order t c.choice x y → Precedes (line_tree t v) b.choice x y
    inner_pair x y p q (by_pre {v = w} {c = d} e r m h) =
        let up : AtOrBelow t (Task v) (Task w) = Precedence.above_pre_step t tree (Task v) w tt (subst (AtOrBelow t (Task v)) e p) in
        subst (λ z. Precedes (line_tree t v) b.choice z y) (sym e) (of_pre (in_line (Task w) up) m (above_same t v d h))
    inner_pair x y p q (by_node n {c = d} {d = e} r m k h i j) = by_case n r m k h (node_below n r)
      where
        by_case : (n : Node) → InTree t n → Contains (kids t n) d → Contains (kids t n) e → (of_node c.choice n).before d e ≡ true → IsAbove t (Task v) n ⊎ (IsAbove t (Task v) n → ⊥) → Precedes (line_tree t v) b.choice x y
        by_case Root r m k h (inl l) = absurd l
        by_case (Line w) r m k h (inl l) =
            let P : Meaning → Type 0 = λ u. u.before d e ≡ true in
            of_line (in_line (Task w) l) m k (subst P (ex.below_line w l) h) (above_same t v d i) (above_same t v e j)
        by_case n r m k h (inr out) =
            let f : d ≡ e = two_above n d e r m k (above_line n d x r out m i p) (above_line n e y r out k j q) in
            let P : Item → Type 0 = λ u. (of_node c.choice n).before d u ≡ true in
            absurd ((Precedence.node_order t tree c.choice orders_c n r).strict d m (subst P (sym f) h))

    -- begins and ends
    inner_begins : (x : Item) → AtOrBelow t (Task v) x → begins c.at x ≡ begins b.at x
    inner_begins (Act k) p = refl
    inner_begins (Task k) p = refl
    inner_begins (Pre k) p = ex.below_at k (Precedence.above_pre_step t tree (Task v) k tt p)

    inner_ends : (x : Item) → AtOrBelow t (Task v) x → ends c.at x ≡ ends b.at x
    inner_ends (Act k) p = refl
    inner_ends (Task k) p = refl
    inner_ends (Pre k) p = ex.below_at k (Precedence.above_pre_step t tree (Task v) k tt p)

    outer_begins : (x : Item) → (AtOrBelow t (Task v) x → ⊥) → begins c.at x ≡ begins a.at x
    outer_begins (Act k) p = refl
    outer_begins (Task k) p = refl
    outer_begins (Pre k) p = ex.other_at k (λ q. p (its_pre q))

    outer_ends : (x : Item) → (AtOrBelow t (Task v) x → ⊥) → ends c.at x ≡ ends a.at x
    outer_ends (Act k) p = refl
    outer_ends (Task k) p = refl
    outer_ends (Pre k) p = ex.other_at k (λ q. p (its_pre q))

    module _ (low high s f : ℕ) (whole : IsSchedule t a.choice a.at low high) (part : IsSchedule (line_tree t v) b.choice b.at s f) (window : IsWindow t v a s f) (late : low ≤ s) (early : f ≤ high) where
      in_order : (x y : Item) → IsPrimitive x → IsPrimitive y → Reached t x → Reached t y → Precedes t c.choice x y → AtOrBelow t (Task v) x ⊎ (AtOrBelow t (Task v) x → ⊥) → AtOrBelow t (Task v) y ⊎ (AtOrBelow t (Task v) y → ⊥) → ends c.at x ≤ begins c.at y
      in_order x y i j r k h (inl p) (inl q) =
          rw (inner_ends x p, inner_begins y q) (part.order x y i j (in_line x p) (in_line y q) (inner_pair x y p q (to_order t c.choice x y h)))
      in_order x y i j r k h (inr p) (inl q) =
          let order = split_before t tree c.choice v x y (Task v) rv p q itself (to_order t c.choice x y h) in
          let e = window.before x i r (from_order t a.choice x (Task v) (outer_first x (Task v) p order)) in
          let g = part.from y j (in_line y q) in
          rw (outer_ends x p, inner_begins y q) (omega arith)
      in_order x y i j r k h (inl p) (inr q) =
          let order = split_behind t tree c.choice v x y (Task v) rv q p itself (to_order t c.choice x y h) in
          let e = window.behind y j k (from_order t a.choice (Task v) y (outer_second (Task v) y q order)) in
          let g = part.until x i (in_line x p) in
          rw (inner_ends x p, outer_begins y q) (omega arith)
      in_order x y i j r k h (inr p) (inr q) =
          rw (outer_ends x p, outer_begins y q) (whole.order x y i j r k (from_order t a.choice x y (outer_first x y p (to_order t c.choice x y h))))

      holds : (u : ℕ) → Reached t (Task u) → AtOrBelow t (Task v) (Task u) ⊎ (AtOrBelow t (Task v) (Task u) → ⊥) → (c.choice.line u).true_at (c.at u) ≡ true
      holds u r (inl p) = rw (ex.below_line u p, ex.below_at u p) (part.holds u (in_line (Task u) p))
      holds u r (inr p) = rw (ex.other_line u p, ex.other_at u p) (whole.holds u r)

      from : (x : Item) → IsPrimitive x → Reached t x → AtOrBelow t (Task v) x ⊎ (AtOrBelow t (Task v) x → ⊥) → low ≤ begins c.at x
      from x i r (inl p) = let e = part.from x i (in_line x p) in rw (inner_begins x p) (omega arith)
      from x i r (inr p) = rw (outer_begins x p) (whole.from x i r)

      until : (x : Item) → IsPrimitive x → Reached t x → AtOrBelow t (Task v) x ⊎ (AtOrBelow t (Task v) x → ⊥) → ends c.at x ≤ high
      until x i r (inl p) = let e = part.until x i (in_line x p) in rw (inner_ends x p) (omega arith)
      until x i r (inr p) = rw (outer_ends x p) (whole.until x i r)

      pub exchanged : IsSchedule t c.choice c.at low high
      exchanged = record {
        holds = λ u r. holds u r (is_below t tree v rv (Task u) r);
        from = λ x i r. from x i r (is_below t tree v rv x r);
        until = λ x i r. until x i r (is_below t tree v rv x r);
        order = λ x y i j r k h. in_order x y i j r k h (is_below t tree v rv x r) (is_below t tree v rv y k);
      }

pub exchange_law : ExchangeLaw
exchange_law t v a b c low high s f tree rv orders orders_c whole part window late early ex =
    exchanged t tree v rv a b c orders orders_c ex low high s f whole part window late early

-- a window that ends earlier
sooner : (t : Tree) (v : ℕ) (a : Schedule) (s f g : ℕ) → g ≤ f → IsWindow t v a s f → IsWindow t v a s g
sooner t v a s f g le w = record { before = w.before; behind = λ y i r p. let h = w.behind y i r p in omega arith }

pub least_exchange_law : LeastExchangeLaw
least_exchange_law t v a b c low high f w tree rv orders orders_c whole part least ex =
    let own = least (record { choice = for_lines a.choice; at = a.at }) w.finish w.within in
    let late = w.late in
    let early = w.early in
    let bound : f ≤ high = omega arith in
    exchange_law t v a b c low high w.start f tree rv orders orders_c whole part (sooner t v a w.start w.finish f own w.window) late bound ex
