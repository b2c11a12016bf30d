-- The check of a certificate: a choice has an executable sequence with the given indices exactly where
-- each node keeps the rules.
use Rattle.std.proofs.Common.{◌≡◌, ℕ, zero, suc, ◌+◌, ◌<◌, ◌≤◌, true, List, [], ◌∷◌, refl, subst, arith, Contains}
use Rattle.std.specs.Prelude.{◌&&◌, ◌==◌}
use Rattle.hv_lists.proofs.Bools.{and_both}
use Rattle.hv_plan.specs.Trees.{Item, Act, Task, Pre, Tree, AtOrBelow, itself, its_pre, its_child, Reached, IsPrimitive, IsSubtask, IsTree}
use Rattle.hv_order.specs.Meanings.{Choice, AreOrders}
use Rattle.hv_order.specs.Precedence.{Precedes, of_pre, of_line, of_root}
use Rattle.hv_order.specs.Networks.{Network, Leads, initial_network, decomposition}
use Rattle.hv_order.specs.Sequences.{Executes, HasSequence, HasSequenceAt, index_in}
use Rattle.hv_order.specs.Schedules.{begins, ends, IsSchedule}
use Rattle.hv_order.specs.Certificates.{subtask_start, AreFinishes, KeepsRules}
use Rattle.hv_order.specs.Laws.{CheckLaw}
use Rattle.hv_order.proofs.Members.{and_left, and_right, number_from, number_test}
use Rattle.hv_order.proofs.Ancestry.{under, reached_initial, reached_below, reached_child, reached_pre}
use Rattle.hv_order.proofs.SubtaskStarts.{FirstStep, first_step}
use Rattle.hv_order.proofs.Derivations.{derivation}
use Rattle.hv_order.proofs.SchedulesSequences.{line_of_pre, placed_from}
use Rattle.hv_order.proofs.Solutions.{sequence_of}
use Rattle.hv_order.proofs.Indices.{index_law}

-- the same choice with each precondition pinned to one index: it is true there, if it was, and
-- nowhere else
abbrev pinned_choice : Choice → (ℕ → ℕ) → Choice
pinned_choice o at =
    record {
      root = o.root;
      line = λ v. record { before = (o.line v).before; true_at = λ k. (o.line v).true_at k && (k == at v) };
    }

-- a schedule of the pinned choice is one of the choice itself, at the pinned indices
module _ (t : Tree) (o : Choice) (at : ℕ → ℕ) where
  to_pinned : (x y : Item) → Precedes t o x y → Precedes t (pinned_choice o at) x y
  to_pinned x y (of_pre r m p) = of_pre r m p
  to_pinned x y (of_line r m k h p q) = of_line r m k h p q
  to_pinned x y (of_root m k h p q) = of_root m k h p q

  from_pinned : (x y : Item) → Precedes t (pinned_choice o at) x y → Precedes t o x y
  from_pinned x y (of_pre r m p) = of_pre r m p
  from_pinned x y (of_line r m k h p q) = of_line r m k h p q
  from_pinned x y (of_root m k h p q) = of_root m k h p q

  pinned_orders : AreOrders t o → AreOrders t (pinned_choice o at)
  pinned_orders a = record { of_root = a.of_root; of_lines = λ v r. a.of_lines v r }

  pin : (s f : ℕ) → IsSchedule t o at s f → IsSchedule t (pinned_choice o at) at s f
  pin s f w = record {
    holds = λ v r. and_both ((o.line v).true_at (at v)) (at v == at v) (w.holds v r) (number_test (at v));
    from = w.from;
    until = w.until;
    order = λ x y i j r k h. w.order x y i j r k (from_pinned x y h);
  }

  leads : (lines : List ℕ) (from to : Network) → Leads t (pinned_choice o at) from lines to → Leads t o from lines to
  leads [] from to e = e
  leads (v ∷ vs) from to l = let (is, rest) = l in (is, leads vs (decomposition t o v from) to rest)

  executes : (q : List Item) (k n : ℕ) → Executes (pinned_choice o at) k q n → Executes o k q n
  executes [] k n e = e
  executes (Act j ∷ q) k n e = let (same, rest) = e in (same, executes q (k + 1) n rest)
  executes (Task v ∷ q) k n e = absurd e
  executes (Pre v ∷ q) k n e =
      let (holds, rest) = e in
      (and_left ((o.line v).true_at k) (k == at v) holds, executes q k n rest)

  -- a sequence of the pinned choice is one of the choice itself, with the pinned indices
  sequence_at : (n : ℕ) → IsTree t → AreOrders t o → HasSequence t (pinned_choice o at) n → HasSequenceAt t o at n
  sequence_at n tree orders h = record {
    found = record {
      lines = h.lines;
      end = h.end;
      sequence = h.sequence;
      derives = record {
        leads = leads h.lines (initial_network t o) h.end h.derives.leads;
        once = h.derives.once;
        all = h.derives.all;
        done = h.derives.done;
      };
      linearizes = h.linearizes;
      executes = executes h.sequence 0 n h.executes;
    };
    indices = λ v r.
        let k = index_in h.sequence v in
        let schedule = index_law t (pinned_choice o at) n h tree (pinned_orders orders) in
        number_from k (at v) (and_right ((o.line v).true_at k) (k == at v) (schedule.holds v r));
  }

-- a schedule says no more than the indices of the lines of the tree
module _ (t : Tree) (tree : IsTree t) (o : Choice) (at at' : ℕ → ℕ) (same : (v : ℕ) → Reached t (Task v) → at' v ≡ at v) where
  same_begins : (x : Item) → Reached t x → begins at' x ≡ begins at x
  same_begins (Act k) r = refl
  same_begins (Task k) r = refl
  same_begins (Pre k) r = same k (line_of_pre t tree k r)

  same_ends : (x : Item) → Reached t x → ends at' x ≡ ends at x
  same_ends (Act k) r = refl
  same_ends (Task k) r = refl
  same_ends (Pre k) r = same k (line_of_pre t tree k r)

  pub same_schedule : (s f : ℕ) → IsSchedule t o at' s f → IsSchedule t o at s f
  same_schedule s f w = record {
    holds = λ v r. subst (λ k. (o.line v).true_at k ≡ true) (same v r) (w.holds v r);
    from = λ x i r. let e = w.from x i r in rw (← same_begins x r) e;
    until = λ x i r. let e = w.until x i r in rw (← same_ends x r) e;
    order = λ x y i j r k h. let e = w.order x y i j r k h in rw (← same_ends x r, ← same_begins y k) e;
  }

module _ (t : Tree) (tree : IsTree t) (o : Choice) (at : ℕ → ℕ) (finish : Item → ℕ) (fin : AreFinishes t at finish) (n : ℕ) where
  -- the finish is the least bound of the ends below
  finish_least : (depth : ℕ) (x : Item) (g : ℕ) → IsSubtask x → ((u : ℕ) → x ≡ Task u → u < depth) → ((z : Item) → IsPrimitive z → AtOrBelow t x z → ends at z ≤ g) → finish x ≤ g
  finish_least depth (Act k) g c low h = let a = fin.act k in let b = h (Act k) tt itself in omega arith
  finish_least depth (Pre k) g c low h = absurd c
  finish_least zero (Task v) g c low h = absurd (let a = low v refl in omega arith)
  finish_least (suc depth) (Task v) g c low h =
      fin.least v g (h (Pre v) tt (its_pre itself)) (λ x m. finish_least depth x g (tree.child_kind v x m) (smaller x m) (λ z i p. h z i (under t (Task v) x (its_child itself m) p)))
    where
      smaller : (x : Item) → Contains (t.children v) x → (u : ℕ) → x ≡ Task u → u < depth
      smaller x m u e =
          let a = tree.lower v u (let P : Item → Type 0 = λ w. Contains (t.children v) w in subst P e m) in
          let b = low v refl in
          omega arith

  number_of : Item → ℕ
  number_of (Act k) = 0
  number_of (Task v) = suc v
  number_of (Pre v) = 0

  enough : (x : Item) (u : ℕ) → x ≡ Task u → u < number_of x
  unfolding number_of
  enough (Act k) u e = absurd (let h : Act k ≡ Task u = e in cc)
  enough (Pre k) u e = absurd (let h : Pre k ≡ Task u = e in cc)
  enough (Task v) u e = let h : v ≡ u = cc in omega arith

  finish_below : (x : Item) (g : ℕ) → IsSubtask x → ((z : Item) → IsPrimitive z → AtOrBelow t x z → ends at z ≤ g) → finish x ≤ g
  finish_below x g c h = finish_least (number_of x) x g c (enough x) h

  -- indices that serve the tree keep the rules
  kept : IsSchedule t o at 0 n → KeepsRules t o at finish n
  kept w = record {
    holds = w.holds;
    from = λ v x r m. from v x r m (first_step t at x (tree.child_kind v x m));
    order = λ v x y r m k h. order v x y r m k h (first_step t at y (tree.child_kind v y k));
    until = λ x m. finish_below x n (tree.initial_kind x m) (λ z i p. w.until z i (reached_below t x (reached_initial t m) p));
    root_order = λ x y m k h. root_over x y m k h (first_step t at y (tree.initial_kind y k));
  }
    where
      from : (v : ℕ) (x : Item) → Reached t (Task v) → Contains (t.children v) x → FirstStep t at x → at v ≤ subtask_start at x
      from v x r m s =
          let a = w.order (Pre v) s.step tt s.is_step (reached_pre t v r) (reached_below t x (reached_child t v x r m) s.below) (of_pre r m s.below) in
          let e = s.begin in
          omega arith

      order : (v : ℕ) (x y : Item) → Reached t (Task v) → Contains (t.children v) x → Contains (t.children v) y → (o.line v).before x y ≡ true → FirstStep t at y → finish x ≤ subtask_start at y
      order v x y r m k h s =
          finish_below x (subtask_start at y) (tree.child_kind v x m) (λ z i p.
          let a = w.order z s.step i s.is_step (reached_below t x (reached_child t v x r m) p) (reached_below t y (reached_child t v y r k) s.below) (of_line r m k h p s.below) in
          let e = s.begin in
          omega arith)

      root_over : (x y : Item) → Contains t.initial_tasks x → Contains t.initial_tasks y → o.root.before x y ≡ true → FirstStep t at y → finish x ≤ subtask_start at y
      root_over x y m k h s =
          finish_below x (subtask_start at y) (tree.initial_kind x m) (λ z i p.
          let a = w.order z s.step i s.is_step (reached_below t x (reached_initial t m) p) (reached_below t y (reached_initial t k) s.below) (of_root m k h p s.below) in
          let e = s.begin in
          omega arith)

  -- and rules that are kept give a schedule
  module _ (kept : KeepsRules t o at finish n) where
    low_of : Item → ℕ
    low_of (Act k) = k
    low_of (Task v) = at v
    low_of (Pre v) = at v

    high_of : Item → ℕ
    high_of (Act k) = finish (Act k)
    high_of (Task v) = finish (Task v)
    high_of (Pre v) = at v

    low_child : (x : Item) → IsSubtask x → low_of x ≡ subtask_start at x
    unfolding low_of
    low_child (Act k) c = refl
    low_child (Task k) c = refl
    low_child (Pre k) c = absurd c

    high_child : (x : Item) → IsSubtask x → high_of x ≡ finish x
    unfolding high_of
    high_child (Act k) c = refl
    high_child (Task k) c = refl
    high_child (Pre k) c = absurd c

    -- z lies between the start and the finish of x
    record Within (x z : Item) : Type 0 where
      late : low_of x ≤ low_of z
      early : high_of z ≤ high_of x

    -- the step z lies between two states
    record Between (a b : ℕ) (z : Item) : Type 0 where
      late : a ≤ begins at z
      early : ends at z ≤ b

    spread : (x z : Item) → Reached t x → AtOrBelow t x z → Within x z
    unfolding low_of high_of
    spread x z r itself = record { late = omega arith; early = omega arith }
    spread x z r (its_pre {v = v} p) =
        let line = spread x (Task v) r p in
        let line_late = line.late in let line_early = line.early in
        let own = fin.own v in
        record { late = omega arith; early = omega arith }
    spread x z r (its_child {v = v} p m) =
        let line = spread x (Task v) r p in
        let line_late = line.late in let line_early = line.early in
        let child_late = kept.from v z (reached_below t x r p) m in
        let child_early = fin.child v z m in
        let low_is = low_child z (tree.child_kind v z m) in
        let high_is = high_child z (tree.child_kind v z m) in
        record { late = omega arith; early = omega arith }

    step_between : (z : Item) → IsPrimitive z → Between (low_of z) (high_of z) z
    unfolding low_of high_of
    step_between (Act k) i = record { late = omega arith; early = let act = fin.act k in omega arith }
    step_between (Task v) i = absurd i
    step_between (Pre v) i = record { late = omega arith; early = omega arith }

    below_between : (x z : Item) → Reached t x → IsSubtask x → IsPrimitive z → AtOrBelow t x z → Between (subtask_start at x) (finish x) z
    below_between x z r c i p =
        let within = spread x z r p in
        let within_late = within.late in let within_early = within.early in
        let step = step_between z i in
        let step_late = step.late in let step_early = step.early in
        let low_is = low_child x c in
        let high_is = high_child x c in
        record { late = omega arith; early = omega arith }

    in_order : (x y : Item) → IsPrimitive x → IsPrimitive y → Precedes t o x y → ends at x ≤ begins at y
    in_order x y i j (of_pre {v = v} {c = c} r m p) =
        let behind = kept.from v c r m in
        let second = below_between c y (reached_child t v c r m) (tree.child_kind v c m) j p in
        let second_late = second.late in
        omega arith
    in_order x y i j (of_line {v = v} {c = c} {d = d} r m k h p q) =
        let over = kept.order v c d r m k h in
        let first = below_between c x (reached_child t v c r m) (tree.child_kind v c m) i p in
        let second = below_between d y (reached_child t v d r k) (tree.child_kind v d k) j q in
        let first_early = first.early in let second_late = second.late in
        omega arith
    in_order x y i j (of_root {c = c} {d = d} m k h p q) =
        let over = kept.root_order c d m k h in
        let first = below_between c x (reached_initial t m) (tree.initial_kind c m) i p in
        let second = below_between d y (reached_initial t k) (tree.initial_kind d k) j q in
        let first_early = first.early in let second_late = second.late in
        omega arith

    kept_schedule : IsSchedule t o at 0 n
    kept_schedule = record {
      holds = kept.holds;
      from = λ x i r. omega arith;
      until = λ x i r.
          let within = below_between r.ancestor x (reached_initial t r.is_initial) (tree.initial_kind r.ancestor r.is_initial) i r.below in
          let early = within.early in
          let bound = kept.until r.ancestor r.is_initial in
          omega arith;
      order = λ x y i j r k h. in_order x y i j h;
    }

pub check_law : CheckLaw
check_law t o at finish depth n tree orders fin within all = (
  (λ h.
      let schedule = index_law t o n h.found tree orders in
      kept t tree o at finish fin n (same_schedule t tree o at (index_in h.found.sequence) h.indices 0 n schedule)),
  (λ rules.
      let schedule = pin t o at 0 n (kept_schedule t tree o at finish fin n rules) in
      let d = derivation t tree (pinned_choice o at) (pinned_orders t o at orders) depth within in
      sequence_at t o at n tree orders
      (sequence_of t (pinned_choice o at) n tree (pinned_orders t o at orders) all
      (placed_from t tree (pinned_choice o at) (pinned_orders t o at orders) d 0 n (record { at = at; schedule = schedule; ordered = omega arith })))),
)
