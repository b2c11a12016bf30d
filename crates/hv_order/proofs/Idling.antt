-- Nodes that finish where they start, whatever the start, and the rows of such nodes.
use Rattle.std.proofs.Common.{◌≡◌, ℕ, zero, suc, ◌+◌, ◌<◌, ◌≤◌, ◌⊎◌, List, refl, sym, ap, subst, inl, inr, arith, Some, length, get_or}
use Rattle.std.proofs.lemmas.Bool.{cases_lt}
use Rattle.std.specs.Global.{Vec}
use Rattle.hv_plan.specs.declared.tree.Child.{Child}
use Rattle.hv_plan.specs.declared.tree.Child.TheVariants as children
use Rattle.hv_order.specs.Tables.{IsLeast}
use Rattle.hv_order.specs.inside.Arrangements.{Arrangement}
use Rattle.hv_order.specs.inside.Children.{child_at, ChildFits}
use Rattle.hv_order.specs.inside.Facts.{Facts, FitsWith, IsRunOf, IsFirstStretch}
use Rattle.hv_order.specs.inside.Idle.{IsIdle, IsIdleBy, IsIdleChild, HoldsThroughout}
use Rattle.hv_order.specs.inside.Nodes.{AreNodes}
use Rattle.hv_order.specs.inside.Runs.{IsRow, AreApart, IsRowOf, AreRows, AreFew, idle_runs, runs_of}
use Rattle.hv_order.specs.declared.trial.Run.{Run}
use Rattle.hv_order.specs.declared.trial.Stretch.{Stretch}
use Rattle.hv_order.specs.declared.runs.Row.{Row}
use Rattle.hv_order.specs.declared.runs.Row.TheVariants as kinds
use Rattle.hv_order.proofs.RunLemmas.{row_at}

-- what is true from the first state to the last is true in each
pub throughout : (q : Facts) (c : Arrangement) (upto : ℕ) (r : Stretch) → IsFirstStretch (q.holds c) 0 upto r → r.first ≡ 0 → q.last ≤ r.last → HoldsThroughout q c
throughout q c upto r is first last k le = is.holds k (omega (arith, first)) (omega (arith, last, le))

child_fits : (q : Facts) (x : Child) (s : ℕ) → s ≤ q.last → IsIdleChild q x → ChildFits q.fits x s s
child_fits q (children.Action k) s le idle = absurd idle
child_fits q (children.Node v) s le idle = (idle s le).reached

-- with this candidate all stands where it starts
fits_at : (q : Facts) (c : Arrangement) → IsIdleBy q c → (s : ℕ) → s ≤ q.last → FitsWith q s c s
fits_at q c idle s le = record {
  at = s;
  late = omega arith;
  early = omega arith;
  holds = idle.holds s le;
  together = record {
    start = λ j. s;
    finish = λ j. s;
    fits = λ j lt. child_fits q (child_at c.children j) s le (idle.children j lt);
    from = λ j lt. omega arith;
    until = λ j lt. omega arith;
    order = λ i j a b before. omega arith;
  };
}

-- a node with a candidate whose precondition is true in each state, and whose children finish where
-- they start, does so: and nothing finishes earlier
pub idle_by : (q : Facts) → AreNodes q → (v : ℕ) (c : Arrangement) → q.is_candidate v c → IsIdleBy q c → IsIdle q v
idle_by q are v c is idle s le =
    let (with_one, by_one) = are.by_one v s s in
    record {
      reached = by_one (record { candidate = c; is_candidate = is; fits = fits_at q c idle s le });
      within = le;
      least = λ g h. are.fits.climbs v s g h;
    }

-- such runs are a row
idle_row : (Fit : ℕ → ℕ → Type 0) (n : ℕ) → ((x : ℕ) → x ≤ n → IsLeast (Fit x) n (Some x)) → (s count : ℕ) → s + count ≡ n + 1 → IsRow Fit n s (idle_runs s count)
idle_row Fit n least s zero e = let done : s ≡ n + 1 = omega (arith, e) in done
idle_row Fit n least s (suc count) e = (first, idle_row Fit n least (s + 1) count (omega (arith, e)))
  where
    first : IsRunOf Fit n s (record { last = s; finish = Some s })
    first = record {
      begun = (let same : s ≤ s = omega arith in same);
      within = (let le : s ≤ n = omega (arith, e) in le);
      least = λ x a b. let upto : x ≤ s = b in let same : s ≡ x = omega (arith, a, upto) in let P : ℕ → Type 0 = λ y. IsLeast (Fit y) n (Some s) in subst P same (least s (omega (arith, e)));
    }

idle_apart : (s count : ℕ) → AreApart (idle_runs s count)
idle_apart s zero = tt
idle_apart s (suc zero) = (tt, tt)
idle_apart s (suc (suc count)) = (λ e. let same : s ≡ s + 1 = (let i : Some s ≡ Some (s + 1) = e in cc) in absurd (omega (arith, same)), idle_apart (s + 1) (suc count))

idle_count : (s count : ℕ) → length (idle_runs s count) ≡ count
idle_count s zero = refl
idle_count s (suc count) = ap suc (idle_count (s + 1) count)

pub idle_is_row : (q : Facts) (v : ℕ) → IsIdle q v → IsRowOf q v kinds.Idle
idle_is_row q v idle = record { runs = idle_row (q.fits v) q.last idle 0 (suc q.last) (omega arith); apart = idle_apart 0 (suc q.last) }

-- and each start in such a row has a run of its own
idle_here : (Fit : ℕ → ℕ → Type 0) (n s count x : ℕ) → IsRow Fit n s (idle_runs s count) → s ≤ x → x < s + count → IsRunOf Fit n x (record { last = x; finish = Some x })
idle_here Fit n s zero x is le lt = absurd (omega (arith, le, lt))
idle_here Fit n s (suc count) x is le lt = by_order (cases_lt s x) (λ behind. idle_here Fit n (s + 1) count x is.1 (omega (arith, behind)) (omega (arith, lt)))
  where
    by_order : (s < x) ⊎ (x ≤ s) → (s < x → IsRunOf Fit n x (record { last = x; finish = Some x })) → IsRunOf Fit n x (record { last = x; finish = Some x })
    by_order (inl behind) later = later behind
    by_order (inr here) later =
        let same : s ≡ x = omega (arith, here, le) in
        let P : ℕ → Type 0 = λ y. IsRunOf Fit n y (record { last = y; finish = Some y }) in
        subst P same is.0

pub idle_run : (q : Facts) (v s : ℕ) → IsRowOf q v kinds.Idle → s ≤ q.last → IsRunOf (q.fits v) q.last s (record { last = s; finish = Some s })
idle_run q v s row le = idle_here (q.fits v) q.last 0 (suc q.last) s row.runs (omega arith) (omega (arith, le))

pub idle_node : (q : Facts) (v : ℕ) → IsRowOf q v kinds.Idle → IsIdle q v
idle_node q v row s le = let same : s ≤ s = omega arith in (idle_run q v s row le).least s same same

-- one look finds it
pub idle_few : (n : ℕ) → AreFew (runs_of n kinds.Idle) 1
idle_few n =
    let many = idle_count 0 (suc n) in
    record { one = omega arith; few = (omega (arith, many), tt) }

-- a child with such a row
pub idle_child : (q : Facts) (rows : List Row) (v : ℕ) (r : Row) → AreRows q rows → v < length rows → r ≡ get_or rows v r → r ≡ kinds.Idle → IsIdle q v
idle_child q rows v r are lt at is =
    idle_node q v (subst (IsRowOf q v) is (row_at q rows v r are lt at))

-- one child more
pub idle_more : (q : Facts) (cs : List Child) (i : ℕ) → ((j : ℕ) → j < i → IsIdleChild q (child_at cs j)) → IsIdleChild q (child_at cs i) → (j : ℕ) → j < i + 1 → IsIdleChild q (child_at cs j)
idle_more q cs i earlier here j lt = by_order (cases_lt j i)
  where
    by_order : (j < i) ⊎ (i ≤ j) → IsIdleChild q (child_at cs j)
    by_order (inl before) = earlier j before
    by_order (inr behind) =
        let same : i ≡ j = omega (arith, behind, lt) in
        let P : ℕ → Type 0 = λ k. IsIdleChild q (child_at cs k) in
        subst P same here

-- how many runs a row stands for
pub idle_as_many : (n k : ℕ) (r : Row) → r ≡ kinds.Idle → k ≡ n + 1 → k ≡ length (runs_of n r)
idle_as_many n k r is e =
    let many : length (idle_runs 0 (suc n)) ≡ suc n = idle_count 0 (suc n) in
    let there : k ≡ length (idle_runs 0 (suc n)) = omega (arith, e, many) in
    let P : Row → Type 0 = λ u. k ≡ length (runs_of n u) in
    subst P (sym is) there

pub kept_as_many : (n k : ℕ) (r : Row) (runs : Vec Run) → r ≡ kinds.Runs runs → k ≡ length runs.items → k ≡ length (runs_of n r)
kept_as_many n k r runs is e =
    let P : Row → Type 0 = λ u. k ≡ length (runs_of n u) in
    subst P (sym is) e
