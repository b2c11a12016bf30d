-- The states in which an executable sequence has the precondition steps are a schedule.
use Rattle.std.proofs.Common.{◌≡◌, ℕ, suc, ◌+◌, ◌≤◌, true, false, List, [], ◌∷◌, refl, sym, subst, inl, inr, arith, Contains, zero}
use Rattle.std.specs.Prelude.{if◌then◌else◌, ◌==◌}
use Rattle.hv_lists.specs.Lists.{Once}
use Rattle.hv_lists.proofs.Contained.{at_head, in_tail, none_in_empty}
use Rattle.hv_lists.proofs.EachOnce.{once_head, once_tail}
use Rattle.hv_plan.specs.Trees.{Item, Act, Task, Pre, Reached, IsPrimitive}
use Rattle.hv_order.specs.Meanings.{Choice}
use Rattle.hv_order.specs.Sequences.{Earlier, Executes, index_in}
use Rattle.hv_order.specs.Schedules.{begins, ends}
use Rattle.hv_order.specs.Laws.{IndexLaw, SequenceWindowLaw}
use Rattle.hv_order.proofs.Members.{SameNumber, equal_numbers, other_numbers, number_cases, number_test, act_not_pre, pre_same}
use Rattle.hv_order.proofs.Ancestry.{reached_pre}
use Rattle.hv_order.proofs.End.{end_law}
use Rattle.hv_order.proofs.Clocks.{passes_bound}
use Rattle.hv_order.proofs.Executing.{passes_of}
use Rattle.hv_order.proofs.Window.{window_law}

other_number : (v u : ℕ) → (v ≡ u → ⊥) → (v == u) ≡ false
other_number v u other = tell (number_cases v u)
  where
    tell : SameNumber v u → (v == u) ≡ false
    tell (equal_numbers same e) = absurd (other same)
    tell (other_numbers n e) = e

executes_bound : (o : Choice) (q : List Item) (s f : ℕ) → Executes o s q f → s ≤ f
executes_bound o q s f e = passes_bound o q s f (passes_of o q s f e)

-- indices that fit a sequence
record Indices (o : Choice) (q : List Item) (s f : ℕ) (at : ℕ → ℕ) : Type 0 where
  holds : (v : ℕ) → Contains q (Pre v) → (o.line v).true_at (at v) ≡ true
  from : (x : Item) → Contains q x → s ≤ begins at x
  until : (x : Item) → Contains q x → ends at x ≤ f
  order : (x y : Item) → Earlier x y q → ends at x ≤ begins at y

indices_act : (o : Choice) (j : ℕ) (q : List Item) (s f : ℕ) (at : ℕ → ℕ) → j ≡ s → s + 1 ≤ f → Indices o q (s + 1) f at → Indices o (Act j ∷ q) s f at
indices_act o j q s f at same bound c = record { holds = holds; from = from; until = until; order = order }
  where
    holds : (v : ℕ) → Contains (Act j ∷ q) (Pre v) → (o.line v).true_at (at v) ≡ true
    holds v (zero, lt, e) = absurd (act_not_pre j v e)
    holds v (suc i, lt, e) = c.holds v (i, omega (arith, lt), e)

    from : (x : Item) → Contains (Act j ∷ q) x → s ≤ begins at x
    from x (zero, lt, e) = let first : x ≡ Act j = sym e in let a : s ≤ j = omega arith in rw first a
    from x (suc i, lt, e) = let h = c.from x (i, omega (arith, lt), e) in omega arith

    until : (x : Item) → Contains (Act j ∷ q) x → ends at x ≤ f
    until x (zero, lt, e) = let first : x ≡ Act j = sym e in let a : j + 1 ≤ f = omega arith in rw first a
    until x (suc i, lt, e) = c.until x (i, omega (arith, lt), e)

    order : (x y : Item) → Earlier x y (Act j ∷ q) → ends at x ≤ begins at y
    order x y (inl first) =
        let (here, later) = first in
        let h = c.from y later in
        let a : j + 1 ≤ begins at y = omega arith in
        rw here a
    order x y (inr e) = c.order x y e

indices_pre : (o : Choice) (v : ℕ) (q : List Item) (s f : ℕ) (at : ℕ → ℕ) → at v ≡ s → s ≤ f → (o.line v).true_at s ≡ true → Indices o q s f at → Indices o (Pre v ∷ q) s f at
indices_pre o v q s f at own bound t c = record { holds = holds; from = from; until = until; order = order }
  where
    holds : (u : ℕ) → Contains (Pre v ∷ q) (Pre u) → (o.line u).true_at (at u) ≡ true
    holds u (zero, lt, e) =
        let P : ℕ → Type 0 = λ w. (o.line w).true_at (at w) ≡ true in
        subst P (pre_same v u e) (rw own t)
    holds u (suc i, lt, e) = c.holds u (i, omega (arith, lt), e)

    from : (x : Item) → Contains (Pre v ∷ q) x → s ≤ begins at x
    from x (zero, lt, e) = let first : x ≡ Pre v = sym e in let a : s ≤ at v = omega arith in rw first a
    from x (suc i, lt, e) = c.from x (i, omega (arith, lt), e)

    until : (x : Item) → Contains (Pre v ∷ q) x → ends at x ≤ f
    until x (zero, lt, e) = let first : x ≡ Pre v = sym e in let a : at v ≤ f = omega arith in rw first a
    until x (suc i, lt, e) = c.until x (i, omega (arith, lt), e)

    order : (x y : Item) → Earlier x y (Pre v ∷ q) → ends at x ≤ begins at y
    order x y (inl first) =
        let (here, later) = first in
        let h = c.from y later in
        let a : at v ≤ begins at y = omega arith in
        rw here a
    order x y (inr e) = c.order x y e

-- those that count the actions before each step
indices : (o : Choice) (q : List Item) (s f : ℕ) (at : ℕ → ℕ) → Once q → Executes o s q f → ((v : ℕ) → Contains q (Pre v) → at v ≡ s + index_in q v) → Indices o q s f at
indices o [] s f at distinct runs is = record { holds = λ v m. absurd (none_in_empty (Pre v) m); from = λ x m. absurd (none_in_empty x m); until = λ x m. absurd (none_in_empty x m); order = λ x y e. absurd e }
indices o (Act j ∷ q) s f at distinct runs is =
    let (same, rest) = runs in
    indices_act o j q s f at same (executes_bound o q (s + 1) f rest)
    (indices o q (s + 1) f at (once_tail (Act j) q distinct) rest (λ v m. let h : at v ≡ s + suc (index_in q v) = is v (in_tail (Act j) q (Pre v) m) in omega arith))
indices o (Task v ∷ q) s f at distinct runs is = absurd runs
indices o (Pre v ∷ q) s f at distinct runs is =
    let (holds, rest) = runs in
    indices_pre o v q s f at own (executes_bound o q s f rest) holds (indices o q s f at (once_tail (Pre v) q distinct) rest (λ u m. later u m))
  where
    own : at v ≡ s
    own =
        let h : at v ≡ s + (if v == v then 0 else index_in q v) = is v (at_head (Pre v) q (Pre v) refl) in
        let i : at v ≡ s + 0 = rw (number_test v) at h in
        omega arith

    later : (u : ℕ) → Contains q (Pre u) → at u ≡ s + index_in q u
    later u m =
        let h : at u ≡ s + (if v == u then 0 else index_in q u) = is u (in_tail (Pre v) q (Pre u) m) in
        let n : (v == u) ≡ false = other_number v u (λ e. once_head (Pre v) q distinct (subst (λ w. Contains q (Pre w)) (sym e) m)) in
        rw n at h

pub index_law : IndexLaw
index_law t o n h tree orders =
    let end = end_law t o h.lines h.end tree orders h.derives in
    let c = indices o h.sequence 0 n (index_in h.sequence) h.linearizes.distinct h.executes (λ v m. omega arith) in
    let stands = λ (x : Item) (i : IsPrimitive x) (r : Reached t x). h.linearizes.covers x (end.complete x i r) in
    record {
      holds = λ v r. c.holds v (stands (Pre v) tt (reached_pre t v r));
      from = λ x i r. c.from x (stands x i r);
      until = λ x i r. c.until x (stands x i r);
      order = λ x y i j r k p.
          c.order x y (h.linearizes.keeps x y (end.paired x y (end.complete x i r) (end.complete y j k) p));
    }

pub sequence_window_law : SequenceWindowLaw
sequence_window_law t v o depth n h tree rv orders within =
    window_law t v (record { choice = o; at = index_in h.sequence }) depth 0 n tree rv orders within (index_law t o n h tree orders)
