-- A part can be placed exactly where it has a schedule: a sequence gives the indices, and sorting by
-- the indices gives a sequence.
use Rattle.std.proofs.Common.{◌≡◌, ℕ, ◌+◌, ◌*◌, ◌<◌, ◌≤◌, true, List, [], ◌∷◌, refl, ap, inl, inr, arith, ◌⊎◌, Contains}
use Rattle.std.proofs.lemmas.Bool.{cases_lt}
use Rattle.hv_lists.proofs.Contained.{at_head, in_tail}
use Rattle.hv_plan.specs.Trees.{Item, Act, Task, Pre, Tree, Reached, IsPrimitive, IsTree}
use Rattle.hv_order.specs.Meanings.{Choice, AreOrders}
use Rattle.hv_order.specs.Networks.{Network, HasDerivation}
use Rattle.hv_order.specs.Precedence.{IsEnd}
use Rattle.hv_order.specs.Sequences.{IsLinearization, Passes, Placed}
use Rattle.hv_order.specs.Schedules.{begins, ends, IsSchedule, HasSchedule}
use Rattle.hv_order.specs.Laws.{ScheduleLaw}
use Rattle.hv_order.proofs.Members.{code}
use Rattle.hv_order.proofs.Ancestry
use Rattle.hv_order.proofs.Ancestry.{reached_pre}
use Rattle.hv_order.proofs.End.{end_law}
use Rattle.hv_order.proofs.Derivations.{derivation}
use Rattle.hv_order.proofs.Precedence.{to_order, from_order, transitive, above_pre_step}
use Rattle.hv_order.proofs.Clocks.{clock, passes_bound}
use Rattle.hv_order.proofs.Ranks.{rank, rank_less}
use Rattle.hv_order.proofs.Sorting.{Less, by_place, by_rank, by_code, less_place, sorted, IsSorted, sorted_sorted, sorted_has, sorted_from, sorted_distinct, sorted_earlier}

-- actions stand between the states, precondition steps at them
abbrev place_of : (ℕ → ℕ) → Item → ℕ
place_of at (Act k) = 2 * k + 1
place_of at (Task v) = 0
place_of at (Pre v) = 2 * at v

-- what stands later begins no earlier
later_act : (at order : _) (j : ℕ) (y : Item) → IsPrimitive y → Less (place_of at) order (Act j) y → j + 1 ≤ begins at y
later_act at order j (Act k) s (by_place a) = omega arith
later_act at order j (Act k) s (by_rank a b) = let e : j ≡ k = omega arith in let f : order (Act j) ≡ order (Act k) = ap (λ n. order (Act n)) e in absurd (omega arith)
later_act at order j (Act k) s (by_code a b c) =
    let e : j ≡ k = omega arith in
    let same : code (Act j) ≡ code (Act k) = ap (λ n. code (Act n)) e in
    absurd (omega arith)
later_act at order j (Task v) s h = absurd s
later_act at order j (Pre v) s h = let a = less_place (place_of at) order h in omega arith

later_pre : (at : ℕ → ℕ) (order : Item → ℕ) (v : ℕ) (y : Item) → IsPrimitive y → Less (place_of at) order (Pre v) y → at v ≤ begins at y
later_pre at order v (Act k) s h = let a = less_place (place_of at) order h in omega arith
later_pre at order v (Task u) s h = absurd s
later_pre at order v (Pre u) s h = let a = less_place (place_of at) order h in omega arith

-- a step that lies between s and f
record Between (at : ℕ → ℕ) (s f : ℕ) (x : Item) : Type 0 where
  primitive : IsPrimitive x
  from : s ≤ begins at x
  until : ends at x ≤ f

-- a sorted list of steps can be run
sorted_passes :
    (o : Choice) (at : ℕ → ℕ) (order : Item → ℕ) (s f : ℕ) (q : List Item) → s ≤ f
    → IsSorted (place_of at) order q → ((x : Item) → Contains q x → Between at s f x)
    → ((v : ℕ) → Contains q (Pre v) → (o.line v).true_at (at v) ≡ true) → Passes o s q f
sorted_passes o at order s f [] le sort between holds = le
sorted_passes o at order s f (Act j ∷ q) le sort between holds =
    let (before_rest, rest) = sort in
    let here = between (Act j) (at_head (Act j) q (Act j) refl) in
    (here.from, sorted_passes o at order (j + 1) f q here.until rest (λ x m. later x m) (λ v m. holds v (in_tail (Act j) q (Pre v) m)))
  where
    later : (x : Item) → Contains q x → Between at (j + 1) f x
    later x m =
        let (before_rest, rest) = sort in
        let r = between x (in_tail (Act j) q x m) in
        record { primitive = r.primitive; from = later_act at order j x r.primitive (before_rest x m); until = r.until }
sorted_passes o at order s f (Task v ∷ q) le sort between holds = (between (Task v) (at_head (Task v) q (Task v) refl)).primitive
sorted_passes o at order s f (Pre v ∷ q) le sort between holds =
    let (before_rest, rest) = sort in
    let here = between (Pre v) (at_head (Pre v) q (Pre v) refl) in
    (at v, here.from, holds v (at_head (Pre v) q (Pre v) refl), sorted_passes o at order (at v) f q here.until rest (λ x m. later x m) (λ u m. holds u (in_tail (Pre v) q (Pre u) m)))
  where
    later : (x : Item) → Contains q x → Between at (at v) f x
    later x m =
        let (before_rest, rest) = sort in
        let r = between x (in_tail (Pre v) q x m) in
        record { primitive = r.primitive; from = later_pre at order v x r.primitive (before_rest x m); until = r.until }

-- one step before another in place
ends_place : (at : ℕ → ℕ) (x y : Item) → IsPrimitive x → IsPrimitive y → ends at x ≤ begins at y → place_of at x ≤ place_of at y
ends_place at (Act j) (Act k) s r h = omega arith
ends_place at (Act j) (Pre v) s r h = omega arith
ends_place at (Pre u) (Act k) s r h = omega arith
ends_place at (Pre u) (Pre v) s r h = omega arith
ends_place at (Task u) y s r h = absurd s
ends_place at (Act j) (Task v) s r h = absurd r
ends_place at (Pre j) (Task v) s r h = absurd r

by_both : (place order : Item → ℕ) (x y : Item) → place x ≤ place y → order x < order y → Less place order x y
by_both place order x y a b = by_case (cases_lt (place x) (place y))
  where
    by_case : (place x < place y) ⊎ (place y ≤ place x) → Less place order x y
    by_case (inl h) = by_place h
    by_case (inr h) = by_rank (omega arith) b

-- where a precondition step belongs to the tree, its line does
pub line_of_pre : (t : Tree) → IsTree t → (v : ℕ) → Reached t (Pre v) → Reached t (Task v)
line_of_pre t tree v r = record {
  ancestor = r.ancestor;
  is_initial = r.is_initial;
  below = above_pre_step t tree r.ancestor v (tree.initial_kind r.ancestor r.is_initial) r.below;
}

module _ (t : Tree) (tree : IsTree t) (o : Choice) (orders : AreOrders t o) where
  -- a sequence of a network that can be run
  record Sequenced (n : Network) (s f : ℕ) : Type 0 where
    sequence : List Item
    linearizes : IsLinearization n sequence
    passes : Passes o s sequence f

  module _ (n : Network) (at : ℕ → ℕ) (s f : ℕ) (end : IsEnd t o n) (schedule : IsSchedule t o at s f) (le : s ≤ f) where
    order_of : Item → ℕ
    order_of x = rank n.pairs x n.items

    pair_before : (x y z : Item) → Contains n.pairs (z, x) → Contains n.pairs (x, y) → Contains n.pairs (z, y)
    pair_before x y z first second =
        end.paired z y (end.first_in z x first) (end.second_in x y second)
        (from_order t o z y (transitive t tree o orders z x y (to_order t o z x (end.precede z x first)) (to_order t o x y (end.precede x y second))))

    order_less : (x y : Item) → Contains n.pairs (x, y) → order_of x < order_of y
    unfolding order_of
    order_less x y m =
        rank_less n.pairs x x y n.items (λ z k j. pair_before x y z j m) (end.first_in x y m)
        (λ j. Ancestry.irreflexive t tree o orders x x (end.precede x x j) refl) m

    in_place : (x y : Item) → Contains n.pairs (x, y) → Less (place_of at) order_of x y
    in_place x y m =
        let first = end.first_in x y m in
        let second = end.second_in x y m in
        let step_first = end.primitive x first in
        let step_second = end.primitive y second in
        let over = schedule.order x y step_first step_second (end.reached x first) (end.reached y second) (end.precede x y m) in
        by_both (place_of at) order_of x y (ends_place at x y step_first step_second over) (order_less x y m)

    between : (x : Item) → Contains n.items x → Between at s f x
    between x m =
        let step = end.primitive x m in
        let reached = end.reached x m in
        record { primitive = step; from = schedule.from x step reached; until = schedule.until x step reached }

    sequenced : Sequenced n s f
    sequenced =
        let sort = sorted_sorted (place_of at) order_of n.items in
        record {
          sequence = sorted (place_of at) order_of n.items;
          linearizes = record {
            distinct = sorted_distinct (place_of at) order_of _ sort;
            covers = λ x m. sorted_has (place_of at) order_of x n.items m;
            within = λ x m. sorted_from (place_of at) order_of x n.items m;
            keeps = λ x y m.
                sorted_earlier (place_of at) order_of x y _ sort
                (sorted_has (place_of at) order_of x n.items (end.first_in x y m))
                (sorted_has (place_of at) order_of y n.items (end.second_in x y m))
                (in_place x y m);
          };
          passes =
              sorted_passes o at order_of s f _ le sort
              (λ x m. between x (sorted_from (place_of at) order_of x n.items m))
              (λ v m. schedule.holds v (line_of_pre t tree v (end.reached (Pre v) (sorted_from (place_of at) order_of (Pre v) n.items m))));
        }

  -- a schedule gives a sequence of any derivation's end
  pub placed_from : (d : HasDerivation t o) (s f : ℕ) → HasSchedule t o s f → Placed t o s f
  placed_from d s f h =
      let end = end_law t o d.lines d.end tree orders d.derives in
      let q = sequenced d.end h.at s f end h.schedule h.ordered in
      record { lines = d.lines; end = d.end; sequence = q.sequence; derives = d.derives; linearizes = q.linearizes; passes = q.passes }

  -- and a sequence gives a schedule
  pub schedule_from : (s f : ℕ) → Placed t o s f → HasSchedule t o s f
  schedule_from s f p =
      let end = end_law t o p.lines p.end tree orders p.derives in
      let c = clock o p.sequence s f p.linearizes.distinct p.passes in
      let stands = λ (x : Item) (i : IsPrimitive x) (r : Reached t x). p.linearizes.covers x (end.complete x i r) in
      record {
        at = c.at;
        schedule = record {
          holds = λ v r. c.holds v (stands (Pre v) tt (reached_pre t v r));
          from = λ x i r. c.from x (stands x i r);
          until = λ x i r. c.until x (stands x i r);
          order = λ x y i j r k h.
              c.order x y (p.linearizes.keeps x y (end.paired x y (end.complete x i r) (end.complete y j k) h));
        };
        ordered = passes_bound o p.sequence s f p.passes;
      }

pub schedule_law : ScheduleLaw
schedule_law t o depth s f tree orders within = (
  (λ p. schedule_from t tree o orders s f p),
  (λ h. placed_from t tree o orders (derivation t tree o orders depth within) s f h),
)
