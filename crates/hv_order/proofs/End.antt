-- End: the network at the end of a derivation, whatever the order of its decompositions.
use Rattle.std.proofs.Common.{◌≡◌, ℕ, true, List, [], ◌∷◌, ◌++◌, refl, sym, subst, inl, inr, ◌⊎◌, Contains, zero, suc, arith}
use Rattle.std.specs.Prelude.{map}
use Rattle.hv_lists.proofs.Contained.{at_head, in_tail}
use Rattle.hv_plan.specs.Trees.{Item, Act, Task, Pre, Tree, AtOrBelow, itself, its_child, Reached, IsPrimitive, IsTree}
use Rattle.hv_order.specs.Meanings.{Choice, AreOrders}
use Rattle.hv_order.specs.Networks.{Network, ordered_pairs, inherited, inherited_pairs, initial_network, decomposition, Leads}
use Rattle.hv_order.specs.Precedence.{Precedes, of_pre, of_line, of_root, IsEnd}
use Rattle.hv_order.specs.Laws.{EndLaw, SameEndLaw}
use Rattle.hv_order.proofs.Members.{mem_left, mem_right, mem_cases, mem_map, MappedFrom, mem_map_from, first_same, second_same}
use Rattle.hv_order.proofs.Ancestry
use Rattle.hv_order.proofs.Ancestry.{Below, same_line, the_pre, in_child, below, under, act_alone, pre_alone, New, new_pre, new_child, reached_initial, reached_below}
use Rattle.hv_order.proofs.Decomposing.{IsLine, yes_line, no_line, line_cases, after_old, after_new, Origin, old, fresh, origin, PairOrigin, kept, from_left, from_right, pair_origin, inherited_kept, inherited_left, inherited_right, pair_gives, PairOf, ordered_in, ordered_has}

-- a step of the tree has an item of the network above it
pub record Covered (t : Tree) (n : Network) (x : Item) : Type 0 where
  pub item : Item
  pub is_item : Contains n.items item
  pub above : AtOrBelow t item x

-- What holds of every network of a derivation: its items belong to the tree, none stands below
-- another, each step of the tree has one above it, and its pairs are those that the tree gives
pub record Midway (t : Tree) (o : Choice) (n : Network) : Type 0 where
  pub reached : (x : Item) → Contains n.items x → Reached t x
  pub apart : (x y : Item) → Contains n.items x → Contains n.items y → AtOrBelow t x y → x ≡ y
  pub covered : (x : Item) → IsPrimitive x → Reached t x → Covered t n x
  pub first_in : (x y : Item) → Contains n.pairs (x, y) → Contains n.items x
  pub second_in : (x y : Item) → Contains n.pairs (x, y) → Contains n.items y
  pub precede : (x y : Item) → Contains n.pairs (x, y) → Precedes t o x y
  pub paired : (x y : Item) → Contains n.items x → Contains n.items y → Precedes t o x y → Contains n.pairs (x, y)

module _ (t : Tree) (tree : IsTree t) (o : Choice) (orders : AreOrders t o) where
  -- an initial task does not stand at or below a child of a line
  no_initial_child : (x : Item) → Contains t.initial_tasks x → (w : ℕ) (c : Item) → Reached t (Task w) → Contains (t.children w) c → AtOrBelow t c x → ⊥
  no_initial_child x m w c r j p =
      let top : r.ancestor ≡ x = Ancestry.initial_siblings t tree r.ancestor x x r.is_initial m (under t r.ancestor c (its_child r.below j) p) itself in
      Ancestry.no_cycle t tree c w j (under t c x p (subst (λ z. AtOrBelow t z (Task w)) top r.below))

  initial_before : (x y : Item) → Contains t.initial_tasks x → Contains t.initial_tasks y → Precedes t o x y → o.root.before x y ≡ true
  initial_before x y m k (of_pre {v = v} r j p) = absurd (tree.initial_kind (Pre v) m)
  initial_before x y m k (of_line {v = w} {c = c} r j h b p q) = absurd (no_initial_child x m w c r j p)
  initial_before x y m k (of_root {c = c} {d = d} j h b p q) =
      let e : c ≡ x = Ancestry.initial_siblings t tree c x x j m p itself in
      let f : d ≡ y = Ancestry.initial_siblings t tree d y y h k q itself in
      rw (← e, ← f) b

  initial_pair : (x y : Item) → Contains (initial_network t o).pairs (x, y) → PairOf o.root.before x y t.initial_tasks t.initial_tasks
  initial_pair x y m = ordered_in o.root.before x y t.initial_tasks t.initial_tasks m

  pub midway_initial : Midway t o (initial_network t o)
  midway_initial = record {
    reached = λ x m. reached_initial t m;
    apart = λ x y m k p. Ancestry.initial_siblings t tree x y y m k p itself;
    covered = λ x s r. record { item = r.ancestor; is_item = r.is_initial; above = r.below };
    first_in = λ x y m. (initial_pair x y m).first;
    second_in = λ x y m. (initial_pair x y m).second;
    precede = λ x y m. let pair = initial_pair x y m in of_root pair.first pair.second pair.holds itself itself;
    paired = λ x y m k p. ordered_has o.root.before x y t.initial_tasks t.initial_tasks m k (initial_before x y m k p);
  }

  module _ (v : ℕ) (n : Network) (here : Contains n.items (Task v)) (mid : Midway t o n) where
    line_reached : Reached t (Task v)
    line_reached = mid.reached (Task v) here

    newly : (x : Item) → Contains (Pre v ∷ t.children v) x → New t tree v x
    newly x (zero, lt, e) = new_pre (sym e)
    newly x (suc k, lt, e) = let m : Contains (t.children v) x = (k, omega (arith, lt), e) in new_child m

    newly_from : (x : Item) → New t tree v x → Contains (Pre v ∷ t.children v) x
    newly_from x (new_pre e) = at_head (Pre v) (t.children v) x e
    newly_from x (new_child m) = in_tail (Pre v) (t.children v) x m

    -- an old item other than v does not stand at or below v
    pub outside : (x : Item) → Contains n.items x → (x ≡ Task v → ⊥) → AtOrBelow t (Task v) x → ⊥
    outside x m f p = f (sym (mid.apart (Task v) x here m p))

    now : (x : Item) → Contains (decomposition t o v n).items x → Origin v (Pre v ∷ t.children v) x n.items
    now x m = origin v (Pre v ∷ t.children v) x n.items m

    stays : (x : Item) → Contains n.items x → (x ≡ Task v → ⊥) → Contains (decomposition t o v n).items x
    stays x m f = after_old v (Pre v ∷ t.children v) x n.items f m

    comes : (x : Item) → New t tree v x → Contains (decomposition t o v n).items x
    comes x k = after_new v (Pre v ∷ t.children v) x n.items here (newly_from x k)

    step_reached : (x : Item) → Origin v (Pre v ∷ t.children v) x n.items → Reached t x
    step_reached x (old m f) = mid.reached x m
    step_reached x (fresh m k) = reached_below t (Task v) line_reached (Ancestry.new_below t tree v x (newly x k))

    step_apart : (x y : Item) → Origin v (Pre v ∷ t.children v) x n.items → Origin v (Pre v ∷ t.children v) y n.items → AtOrBelow t x y → x ≡ y
    step_apart x y (old m f) (old k g) p = mid.apart x y m k p
    step_apart x y (old m f) (fresh j k) p = by_equal (Ancestry.above_new t tree v x y (newly y k) p)
      where
        by_equal : (y ≡ x) ⊎ AtOrBelow t x (Task v) → x ≡ y
        by_equal (inl e) = sym e
        by_equal (inr q) = absurd (f (mid.apart x (Task v) m here q))
    step_apart x y (fresh j k) (old m f) p = absurd (outside y m f (under t (Task v) x (Ancestry.new_below t tree v x (newly x k)) p))
    step_apart x y (fresh j k) (fresh j' k') p = by_equal (Ancestry.above_new t tree v x y (newly y k') p)
      where
        by_equal : (y ≡ x) ⊎ AtOrBelow t x (Task v) → x ≡ y
        by_equal (inl e) = sym e
        by_equal (inr q) = absurd (Ancestry.new_not_above t tree v x (newly x k) q)

    step_covered : (x : Item) → IsPrimitive x → Reached t x → Covered t (decomposition t o v n) x
    step_covered x s r = by_item (mid.covered x s r)
      where
        below_line : Below t v x → Covered t (decomposition t o v n) x
        below_line (same_line e) = absurd (let P : Item → Type 0 = IsPrimitive in subst P e s)
        below_line (the_pre e) = record { item = x; is_item = comes x (new_pre e); above = itself }
        below_line (in_child {d = d} m q) = record { item = d; is_item = comes d (new_child m); above = q }

        by_line : (c : Covered t n x) → IsLine v c.item → Covered t (decomposition t o v n) x
        by_line c (yes_line e i) = below_line (below t v (subst (λ z. AtOrBelow t z x) e c.above))
        by_line c (no_line f i) = record { item = c.item; is_item = stays c.item c.is_item f; above = c.above }

        by_item : Covered t n x → Covered t (decomposition t o v n) x
        by_item c = by_line c (line_cases v c.item)

    -- pairs after the decomposition
    inherited_pair : (x y : Item) (p : Item × Item) → Contains n.pairs p → Contains (inherited v (Pre v ∷ t.children v) p.0 p.1) (x, y) → Contains (decomposition t o v n).pairs (x, y)
    inherited_pair x y p m k =
        mem_left (x, y) _ _ (mem_left (x, y) _ _ (pair_gives v (Pre v ∷ t.children v) x y p n.pairs m k))

    pre_pair : (y : Item) → Contains (t.children v) y → Contains (decomposition t o v n).pairs (Pre v, y)
    pre_pair y m = mem_left (Pre v, y) _ _ (mem_right (Pre v, y) (inherited_pairs v (Pre v ∷ t.children v) n.pairs) _ (mem_map (λ (c : Item). (Pre v, c)) y (t.children v) m))

    child_pair : (x y : Item) → Contains (t.children v) x → Contains (t.children v) y → (o.line v).before x y ≡ true → Contains (decomposition t o v n).pairs (x, y)
    child_pair x y m k b = mem_right (x, y) _ _ (ordered_has (o.line v).before x y (t.children v) (t.children v) m k b)

    step_paired : (x y : Item) → Origin v (Pre v ∷ t.children v) x n.items → Origin v (Pre v ∷ t.children v) y n.items → Precedes t o x y → Contains (decomposition t o v n).pairs (x, y)
    step_paired x y (old m f) (old k g) p = inherited_pair x y (x, y) (mid.paired x y m k p) (inherited_kept v (Pre v ∷ t.children v) x y f g)
    step_paired x y (old m f) (fresh j k) p =
        let q = Ancestry.precedes_line t tree o orders v x y line_reached (newly y k) (outside x m f) p in
        inherited_pair x y (x, Task v) (mid.paired x (Task v) m here q) (inherited_right v (Pre v ∷ t.children v) x y (Task v) f refl k)
    step_paired x y (fresh j k) (old m f) p =
        let q = Ancestry.line_precedes t tree o orders v x y line_reached (newly x k) (outside y m f) p in
        inherited_pair x y (Task v, y) (mid.paired (Task v) y here m q) (inherited_left v (Pre v ∷ t.children v) x (Task v) y refl k)
    step_paired x y (fresh j k) (fresh j' k') p = by_inside (Ancestry.inside t tree o orders v x y line_reached (newly x k) (newly y k') p)
      where
        by_inside : Ancestry.Inside t tree o orders v x y → Contains (decomposition t o v n).pairs (x, y)
        by_inside (Ancestry.pre_first e m) = subst (λ z. Contains (decomposition t o v n).pairs (z, y)) (sym e) (pre_pair y m)
        by_inside (Ancestry.children m m' b) = child_pair x y m m' b

    record RightPair (x y : Item) : Type 0 where
      first_in : Contains (decomposition t o v n).items x
      second_in : Contains (decomposition t o v n).items y
      precede : Precedes t o x y

    right_pair : (x y : Item) → Contains (decomposition t o v n).pairs (x, y) → RightPair x y
    right_pair x y m = by_part (mem_cases (x, y) _ _ m)
      where
        old_pair : PairOrigin v (Pre v ∷ t.children v) x y n.pairs → RightPair x y
        old_pair (kept f g k) = record { first_in = stays x (mid.first_in x y k) f; second_in = stays y (mid.second_in x y k) g; precede = mid.precede x y k }
        old_pair (from_left a k) =
            let line_first = mid.precede (Task v) y k in
            record {
              first_in = comes x (newly x a);
              second_in = stays y (mid.second_in (Task v) y k) (λ e. Ancestry.irreflexive t tree o orders (Task v) y line_first (sym e));
              precede = Ancestry.below_precedes t tree o orders v (Task v) y x refl line_first (Ancestry.new_below t tree v x (newly x a));
            }
        old_pair (from_right a f k) =
            record {
              first_in = stays x (mid.first_in x (Task v) k) f;
              second_in = comes y (newly y a);
              precede = Ancestry.precedes_below t tree o orders x (Task v) y (mid.precede x (Task v) k) (Ancestry.new_below t tree v y (newly y a));
            }

        pre_first : MappedFrom {Y = Item × Item} (λ (c : Item). (Pre v, c)) (x, y) (t.children v) → RightPair x y
        pre_first from =
            let x_is : x ≡ Pre v = first_same x (Pre v) y from.source from.image in
            let y_is : y ≡ from.source = second_same x (Pre v) y from.source from.image in
            let y_child : Contains (t.children v) y = subst (λ z. Contains (t.children v) z) (sym y_is) from.is_member in
            record {
              first_in = comes x (new_pre x_is);
              second_in = comes y (new_child y_child);
              precede = subst (λ z. Precedes t o z y) (sym x_is) (of_pre line_reached y_child itself);
            }

        two_children : PairOf (o.line v).before x y (t.children v) (t.children v) → RightPair x y
        two_children pair =
            record {
              first_in = comes x (new_child pair.first);
              second_in = comes y (new_child pair.second);
              precede = of_line line_reached pair.first pair.second pair.holds itself itself;
            }

        old_or_pre : Contains (inherited_pairs v (Pre v ∷ t.children v) n.pairs) (x, y) ⊎ Contains {X = Item × Item} (map (λ (c : Item). (Pre v, c)) (t.children v)) (x, y) → RightPair x y
        old_or_pre (inl k) = old_pair (pair_origin v (Pre v ∷ t.children v) x y n.pairs k)
        old_or_pre (inr k) = pre_first (mem_map_from (λ (c : Item). (Pre v, c)) (x, y) (t.children v) k)

        by_part : Contains {X = Item × Item} (inherited_pairs v (Pre v ∷ t.children v) n.pairs ++ map (λ (c : Item). (Pre v, c)) (t.children v)) (x, y) ⊎ Contains (ordered_pairs (o.line v).before (t.children v) (t.children v)) (x, y) → RightPair x y
        by_part (inl k) = old_or_pre (mem_cases (x, y) _ _ k)
        by_part (inr k) = two_children (ordered_in (o.line v).before x y (t.children v) (t.children v) k)

    pub midway_step : Midway t o (decomposition t o v n)
    midway_step = record {
      reached = λ x m. step_reached x (now x m);
      apart = λ x y m k p. step_apart x y (now x m) (now y k) p;
      covered = step_covered;
      first_in = λ x y m. (right_pair x y m).first_in;
      second_in = λ x y m. (right_pair x y m).second_in;
      precede = λ x y m. (right_pair x y m).precede;
      paired = λ x y m k p. step_paired x y (now x m) (now y k) p;
    }

  pub midway_leads : (from to : Network) (lines : List ℕ) → Leads t o from lines to → Midway t o from → Midway t o to
  midway_leads from to [] same mid = subst (Midway t o) same mid
  midway_leads from to (v ∷ lines) leads mid =
      let (here, rest) = leads in
      midway_leads (decomposition t o v from) to lines rest (midway_step v from here mid)

  primitive_alone : (x y : Item) → IsPrimitive x → AtOrBelow t x y → y ≡ x
  primitive_alone (Act k) y s p = act_alone t k p
  primitive_alone (Pre k) y s p = pre_alone t k p
  primitive_alone (Task k) y s p = absurd s

  pub is_end : (n : Network) (lines : List ℕ) → Leads t o (initial_network t o) lines n → ((x : Item) → Contains n.items x → IsPrimitive x) → IsEnd t o n
  is_end n lines leads done =
      let mid = midway_leads (initial_network t o) n lines leads midway_initial in
      record {
        primitive = done;
        reached = mid.reached;
        complete = λ x s r.
            let c = mid.covered x s r in
            let e : x ≡ c.item = primitive_alone c.item x (done c.item c.is_item) c.above in
            subst (λ z. Contains n.items z) (sym e) c.is_item;
        first_in = mid.first_in;
        second_in = mid.second_in;
        precede = mid.precede;
        paired = mid.paired;
      }

pub end_law : EndLaw
end_law t o lines end tree orders d = is_end t tree o orders end lines d.leads d.done

-- two networks of which End holds are the same
items_in : (t : Tree) (o : Choice) (m n : Network) → IsEnd t o m → IsEnd t o n → (x : Item) → Contains m.items x → Contains n.items x
items_in t o m n end_m end_n x k = end_n.complete x (end_m.primitive x k) (end_m.reached x k)

pairs_in : (t : Tree) (o : Choice) (m n : Network) → IsEnd t o m → IsEnd t o n → (x y : Item) → Contains m.pairs (x, y) → Contains n.pairs (x, y)
pairs_in t o m n end_m end_n x y k =
    end_n.paired x y (items_in t o m n end_m end_n x (end_m.first_in x y k)) (items_in t o m n end_m end_n y (end_m.second_in x y k)) (end_m.precede x y k)

pub same_end_law : SameEndLaw
same_end_law t o lines lines' end end' tree orders d d' =
    let a = end_law t o lines end tree orders d in
    let b = end_law t o lines' end' tree orders d' in
    record {
      items = λ x. (items_in t o end end' a b x, items_in t o end' end b a x);
      pairs = λ x y. (pairs_in t o end end' a b x y, pairs_in t o end' end b a x y);
    }
