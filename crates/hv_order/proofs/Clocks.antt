-- A sequence that can be run gives each precondition step an index.
use Rattle.std.proofs.Common.{◌≡◌, ℕ, ◌+◌, ◌≤◌, true, List, [], ◌∷◌, refl, sym, ap, subst, inl, inr, arith, Contains, zero, suc}
use Rattle.std.specs.Prelude.{if◌then◌else◌, ◌==◌}
use Rattle.hv_lists.specs.Lists.{Once}
use Rattle.hv_lists.proofs.Contained.{at_head, in_tail, none_in_empty}
use Rattle.hv_lists.proofs.EachOnce.{once_head, once_tail}
use Rattle.hv_plan.specs.Trees.{Item, Act, Task, Pre}
use Rattle.hv_order.specs.Meanings.{Choice}
use Rattle.hv_order.specs.Sequences.{Earlier, Passes}
use Rattle.hv_order.specs.Schedules.{begins, ends}
use Rattle.hv_order.proofs.Members.{act_not_pre, pre_same, SameNumber, equal_numbers, other_numbers, number_cases, number_test}

-- one more value of a function
pub at_line : {X : Type 0} → ℕ → X → (ℕ → X) → ℕ → X
at_line v x f u = if u == v then x else f u

pub at_line_here : {X : Type 0} (v : ℕ) (x : X) (f : ℕ → X) → at_line v x f v ≡ x
unfolding at_line
at_line_here v x f = rw (number_test v)

pub at_line_else : {X : Type 0} (v u : ℕ) (x : X) (f : ℕ → X) → (u ≡ v → ⊥) → at_line v x f u ≡ f u
unfolding at_line
at_line_else v u x f n = tell (number_cases u v)
  where
    tell : SameNumber u v → (if u == v then x else f u) ≡ f u
    tell (equal_numbers same e) = absurd (n same)
    tell (other_numbers other e) = rw e

pub passes_bound : (o : Choice) (q : List Item) (s f : ℕ) → Passes o s q f → s ≤ f
passes_bound o [] s f passes = passes
passes_bound o (Act j ∷ q) s f passes = let (late, rest) = passes in let bound = passes_bound o q (j + 1) f rest in omega arith
passes_bound o (Task v ∷ q) s f passes = absurd passes
passes_bound o (Pre v ∷ q) s f passes = let (at, late, holds, rest) = passes in let bound = passes_bound o q at f rest in omega arith

-- indices that fit a sequence
pub record Clock (o : Choice) (q : List Item) (s f : ℕ) : Type 0 where
  pub at : ℕ → ℕ
  pub holds : (v : ℕ) → Contains q (Pre v) → (o.line v).true_at (at v) ≡ true
  pub from : (x : Item) → Contains q x → s ≤ begins at x
  pub until : (x : Item) → Contains q x → ends at x ≤ f
  pub order : (x y : Item) → Earlier x y q → ends at x ≤ begins at y

begins_else : (at : ℕ → ℕ) (v k : ℕ) (x : Item) → (x ≡ Pre v → ⊥) → begins (at_line v k at) x ≡ begins at x
begins_else at v k (Act j) n = refl
begins_else at v k (Task u) n = refl
begins_else at v k (Pre u) n = at_line_else v u k at (λ e. n (ap Pre e))

ends_else : (at : ℕ → ℕ) (v k : ℕ) (x : Item) → (x ≡ Pre v → ⊥) → ends (at_line v k at) x ≡ ends at x
ends_else at v k (Act j) n = refl
ends_else at v k (Task u) n = refl
ends_else at v k (Pre u) n = at_line_else v u k at (λ e. n (ap Pre e))

earlier_left : (x y : Item) (q : List Item) → Earlier x y q → Contains q x
earlier_left x y [] e = absurd e
earlier_left x y (z ∷ q) (inl h) = let (here, later) = h in at_head z q x here
earlier_left x y (z ∷ q) (inr h) = in_tail z q x (earlier_left x y q h)

earlier_right : (x y : Item) (q : List Item) → Earlier x y q → Contains q y
earlier_right x y [] e = absurd e
earlier_right x y (z ∷ q) (inl h) = let (here, later) = h in in_tail z q y later
earlier_right x y (z ∷ q) (inr h) = in_tail z q y (earlier_right x y q h)

member_not : (x z : Item) (q : List Item) → (Contains q z → ⊥) → Contains q x → x ≡ z → ⊥
member_not x z q n m e = n (subst (λ w. Contains q w) e m)

clock_act : (o : Choice) (j : ℕ) (q : List Item) (s f : ℕ) → s ≤ j → j + 1 ≤ f → Clock o q (j + 1) f → Clock o (Act j ∷ q) s f
clock_act o j q s f a b c = record {
  at = c.at;
  holds = λ v m. holds v m;
  from = λ x m. from x m;
  until = λ x m. until x m;
  order = λ x y e. order x y e;
}
  where
    holds : (v : ℕ) → Contains (Act j ∷ q) (Pre v) → (o.line v).true_at (c.at v) ≡ true
    holds v (zero, lt, e) = absurd (act_not_pre j v e)
    holds v (suc i, lt, e) = c.holds v (i, omega (arith, lt), e)

    from : (x : Item) → Contains (Act j ∷ q) x → s ≤ begins c.at x
    from x (zero, lt, e) = let same : x ≡ Act j = sym e in rw same a
    from x (suc i, lt, e) = let h = c.from x (i, omega (arith, lt), e) in omega arith

    until : (x : Item) → Contains (Act j ∷ q) x → ends c.at x ≤ f
    until x (zero, lt, e) = let same : x ≡ Act j = sym e in rw same b
    until x (suc i, lt, e) = c.until x (i, omega (arith, lt), e)

    order : (x y : Item) → Earlier x y (Act j ∷ q) → ends c.at x ≤ begins c.at y
    order x y (inl first) = let (here, later) = first in rw here (c.from y later)
    order x y (inr e) = c.order x y e

clock_pre : (o : Choice) (v : ℕ) (k : ℕ) (q : List Item) (s f : ℕ) → s ≤ k → k ≤ f → (o.line v).true_at k ≡ true → (Contains q (Pre v) → ⊥) → Clock o q k f → Clock o (Pre v ∷ q) s f
clock_pre o v k q s f a b t n c = record { at = at_line v k c.at; holds = holds; from = from; until = until; order = order }
  where
    holds : (u : ℕ) → Contains (Pre v ∷ q) (Pre u) → (o.line u).true_at (at_line v k c.at u) ≡ true
    holds u (zero, lt, e) =
        let same_v : v ≡ u = pre_same v u e in
        let P : ℕ → Type 0 = λ w. (o.line w).true_at (at_line v k c.at w) ≡ true in
        subst P same_v (rw (at_line_here v k c.at) t)
    holds u (suc i, lt, there) =
        let m : Contains q (Pre u) = (i, omega (arith, lt), there) in
        rw (at_line_else v u k c.at (λ e. n (subst (λ w. Contains q (Pre w)) e m))) (c.holds u m)

    begins_v : begins (at_line v k c.at) (Pre v) ≡ k
    begins_v = at_line_here v k c.at

    ends_v : ends (at_line v k c.at) (Pre v) ≡ k
    ends_v = at_line_here v k c.at

    from : (x : Item) → Contains (Pre v ∷ q) x → s ≤ begins (at_line v k c.at) x
    from x (zero, lt, e) = let same : x ≡ Pre v = sym e in rw (same, begins_v) a
    from x (suc i, lt, e) = let m : Contains q x = (i, omega (arith, lt), e) in let h = c.from x m in rw (begins_else c.at v k x (member_not x (Pre v) q n m)) (omega arith)

    until : (x : Item) → Contains (Pre v ∷ q) x → ends (at_line v k c.at) x ≤ f
    until x (zero, lt, e) = let same : x ≡ Pre v = sym e in rw (same, ends_v) b
    until x (suc i, lt, e) = let m : Contains q x = (i, omega (arith, lt), e) in rw (ends_else c.at v k x (member_not x (Pre v) q n m)) (c.until x m)

    order : (x y : Item) → Earlier x y (Pre v ∷ q) → ends (at_line v k c.at) x ≤ begins (at_line v k c.at) y
    order x y (inl first) = let (here, later) = first in rw (here, ends_v, begins_else c.at v k y (member_not y (Pre v) q n later)) (c.from y later)
    order x y (inr e) =
        rw (ends_else c.at v k x (member_not x (Pre v) q n (earlier_left x y q e)), begins_else c.at v k y (member_not y (Pre v) q n (earlier_right x y q e))) (c.order x y e)

-- a sequence that can be run has indices
pub clock : (o : Choice) (q : List Item) (s f : ℕ) → Once q → Passes o s q f → Clock o q s f
clock o [] s f d r = record { at = λ v. 0; holds = λ v m. absurd (none_in_empty (Pre v) m); from = λ x m. absurd (none_in_empty x m); until = λ x m. absurd (none_in_empty x m); order = λ x y e. absurd e }
clock o (Act j ∷ q) s f distinct passes =
    let (late, rest) = passes in
    clock_act o j q s f late (passes_bound o q (j + 1) f rest) (clock o q (j + 1) f (once_tail (Act j) q distinct) rest)
clock o (Task v ∷ q) s f distinct passes = absurd passes
clock o (Pre v ∷ q) s f distinct passes =
    let (at, late, holds, rest) = passes in
    clock_pre o v at q s f late (passes_bound o q at f rest) holds (once_head (Pre v) q distinct) (clock o q at f (once_tail (Pre v) q distinct) rest)
