-- A candidate's subtasks laid out by the rows, each no later than in any way that is known.
use Rattle.std.proofs.Common.{◌≡◌, ◌≢◌, ℕ, zero, suc, ◌+◌, ◌≤◌, ◌<◌, List, [], ◌∷◌, refl, sym, ap, ◌∙◌, subst, inl, inr, arith, ◌⊎◌, length, get_or-set_same, get_or-set_other, length-set, Contains}
use Rattle.std.specs.Prelude.{max, slice_index}
use Rattle.std.specs.List.{slice_set}
use Rattle.std.proofs.lemmas.Bool.{cases_lt}
use Rattle.std.proofs.lemmas.List.Elements.{Contains-get_or}
use Rattle.hv_lists.proofs.Contained.{at_head, in_tail}
use Rattle.hv_order.specs.Tables.{IsLeastAt}
use Rattle.hv_order.specs.inside.Layouts.{start_behind, IsInOrder}
use Rattle.hv_order.specs.inside.Children.{child_at, ChildFits}
use Rattle.hv_order.specs.inside.Arrangements.{Arrangement, listed_before}
use Rattle.hv_order.specs.inside.Facts.{Facts, AreFits}
use Rattle.hv_order.specs.inside.Frames.{IsArranged}
use Rattle.hv_order.specs.inside.Begun.{CanBeOver, AreLaidOut}
use Rattle.hv_order.proofs.ChildrenFit.{child_climbs, child_earlier}
use Rattle.hv_order.proofs.Layouts.{behind_at, behind_each}
use Rattle.hv_order.proofs.Trials.{start_under, still_under}
use Rattle.hv_order.proofs.RunLemmas.{same_or}

-- j is among the first i of an order
abbrev pub IsDone : List ℕ → ℕ → ℕ → Type 0
IsDone order i j = (p : ℕ) × (p < i) × (slice_index order p ≡ j)

-- the first i subtasks of a candidate's order are laid out, none later than in a way to be over by f
pub record IsPart (q : Facts) (c : Arrangement) (at f i : ℕ) (starts finishes : List ℕ) : Type 0 where
  pub starts_room : length starts ≡ length c.children
  pub finishes_room : length finishes ≡ length c.children
  pub under : (j : ℕ) → slice_index finishes j ≤ q.last
  pub fits : (j : ℕ) → IsDone c.order i j → IsLeastAt (ChildFits q.fits (child_at c.children j) (slice_index starts j)) q.last (slice_index finishes j)
  pub from : (j : ℕ) → IsDone c.order i j → at ≤ slice_index starts j
  pub order : (j k : ℕ) → IsDone c.order i j → IsDone c.order i k → q.before c j k → slice_index finishes j ≤ slice_index starts k
  pub ahead : (w : CanBeOver q c at f) (j : ℕ) → IsDone c.order i j → slice_index finishes j ≤ w.together.finish j

-- a later subtask of an order does not come before an earlier one
in_order_at : (Before : ℕ → ℕ → Type 0) (xs : List ℕ) → IsInOrder Before xs → (i j : ℕ) → i < j → j < length xs → Before (slice_index xs j) (slice_index xs i) → ⊥
in_order_at Before [] is i j lt within h = omega arith
in_order_at Before (x ∷ xs) is zero zero lt within h = omega arith
in_order_at Before (x ∷ xs) is zero (suc j) lt within h = is.0 (slice_index xs j) (Contains-get_or xs j 0 (omega arith)) h
in_order_at Before (x ∷ xs) is (suc i) zero lt within h = omega arith
in_order_at Before (x ∷ xs) is (suc i) (suc j) lt within h = in_order_at Before xs is.1 i j (omega arith) (omega arith) h

-- a start is no later than needs be
behind_least : (fs : List ℕ) (at : ℕ) (is : List ℕ) (g : ℕ) → at ≤ g → ((i : ℕ) → Contains is i → slice_index fs i ≤ g) → start_behind fs at is ≤ g
behind_least fs at [] g a h = a
behind_least fs at (k ∷ is) g a h = let c = h k (at_head k is k refl) in behind_least fs (max at (slice_index fs k)) is g (omega arith) (λ i m. h i (in_tail k is i m))

-- nothing is laid out yet
pub no_part : (q : Facts) (c : Arrangement) (at f : ℕ) (ss fs : List ℕ) → length ss ≡ length c.children → length fs ≡ length c.children → ((j : ℕ) → slice_index fs j ≤ 0) → IsPart q c at f 0 ss fs
no_part q c at f ss fs a b zeros = record {
  starts_room = a;
  finishes_room = b;
  under = λ j. let z = zeros j in omega arith;
  fits = λ j (p, under, e). absurd (omega (arith, under));
  from = λ j (p, under, e). absurd (omega (arith, under));
  order = λ j k (p, under, e) d h. absurd (omega (arith, under));
  ahead = λ w j (p, under, e). absurd (omega (arith, under));
}

module _ (q : Facts) (c : Arrangement) (are : AreFits q.fits) (arranged : IsArranged q c) (at f : ℕ) where
  -- all are laid out
  pub whole_part : (i : ℕ) (ss fs : List ℕ) → IsPart q c at f i ss fs → length c.order ≤ i → CanBeOver q c at f → AreLaidOut q c at f ss fs
  whole_part i ss fs part all w = record {
    as_many = part.starts_room;
    fits = λ j is. part.fits j (done j is);
    from = λ j is. part.from j (done j is);
    until = λ j is. let a = part.ahead w j (done j is) in let b = w.together.until j is in omega arith;
    order = λ j k is_j is_k h. part.order j k (done j is_j) (done k is_k) h;
  }
    where
      done : (j : ℕ) → j < length c.children → IsDone c.order i j
      done j is = let (p, under, e) = arranged.order.has j is in (p, omega (arith, under), same_or c.order p 0 j under ∙ e)

  module _ (i : ℕ) (lt : i < length c.order) (ss fs : List ℕ) (part : IsPart q c at f i ss fs) where
    abbrev next : ℕ
    next = slice_index c.order i

    abbrev start : ℕ
    start = start_behind fs at (listed_before c.direct next)

    abbrev Fit : ℕ → ℕ → ℕ → Type 0
    Fit j = ChildFits q.fits (child_at c.children j)

    pub is_next : next < length c.children
    is_next = arranged.order.only next (Contains-get_or c.order i 0 lt)

    done_is : (k : ℕ) → IsDone c.order i k → k < length c.children
    done_is k (p, under, e) = let P : ℕ → Type 0 = λ u. u < length c.children in subst P e (arranged.order.only (slice_index c.order p) (Contains-get_or c.order p 0 (omega (arith, under, lt))))

    apart : (k : ℕ) → IsDone c.order i k → k ≢ next
    apart k (p, under, e) same = arranged.order.distinct p i 0 under lt (e ∙ same)

    unforced : (k : ℕ) → IsDone c.order i k → q.before c next k → ⊥
    unforced k (p, under, e) h = in_order_at (q.before c) c.order arranged.order.in_order p i under lt (let P : ℕ → Type 0 = λ u. q.before c next u in subst P (sym e) h)

    known : (k : ℕ) → k < length c.children → q.before c k next → IsDone c.order i k
    known k is comes = let (p, under, e) = arranged.order.has k is in by_place p under (same_or c.order p 0 k under ∙ e) (cases_lt p i) (cases_lt i p)
      where
        by_place : (p : ℕ) → p < length c.order → slice_index c.order p ≡ k → (p < i) ⊎ (i ≤ p) → (i < p) ⊎ (p ≤ i) → IsDone c.order i k
        by_place p under e (inl a) b = (p, a, e)
        by_place p under e (inr a) (inl b) = absurd (in_order_at (q.before c) c.order arranged.order.in_order i p b under (let P : ℕ → Type 0 = λ u. q.before c u next in subst P (sym e) comes))
        by_place p under e (inr a) (inr b) =
            let same : i ≡ p = omega (arith, a, b) in
            let here : k ≡ next = sym e ∙ ap (slice_index c.order) (sym same) in
            absurd (arranged.strict next (let P : ℕ → Type 0 = λ u. q.before c u next in subst P here comes))

    -- no way starts the next any earlier
    start_ahead : (w : CanBeOver q c at f) → start ≤ w.together.start next
    start_ahead w =
        let a = w.together.from next is_next in
        let b = w.late in
        behind_least fs at (listed_before c.direct next) (w.together.start next) (omega arith)
        (λ k m.
        let (k_is, comes) = (arranged.directs next is_next).sound k m in
        let over = w.together.order k next k_is is_next comes in
        let early = part.ahead w k (known k k_is comes) in
        omega arith)

    pub start_small : CanBeOver q c at f → start ≤ q.last
    start_small w =
        let a = w.late in
        let b = w.early in
        let d = w.within in
        start_under fs at q.last (listed_before c.direct next) (omega arith) part.under

    fits_ahead : (w : CanBeOver q c at f) → Fit next start (w.together.finish next)
    fits_ahead w = child_earlier q.fits are (child_at c.children next) (w.together.start next) start (w.together.finish next) (start_ahead w) (w.together.fits next is_next)

    pub some_finish : CanBeOver q c at f → ((g : ℕ) → g ≤ q.last → Fit next start g → ⊥) → ⊥
    some_finish w none = let a = w.together.until next is_next in let b = w.within in none (w.together.finish next) (omega arith) (fits_ahead w)

    -- the start is behind all that come before
    behind_all : (k : ℕ) → k < length c.children → q.before c k next → slice_index fs k ≤ start
    behind_all k is comes = by_place ((arranged.directs next is_next).whole k is comes)
      where
        by_place : Contains (listed_before c.direct next) k ⊎ ((r : ℕ) × Contains (listed_before c.direct next) r × q.before c k r) → slice_index fs k ≤ start
        by_place (inl m) = behind_each fs at (listed_before c.direct next) k m
        by_place (inr (r, m, before)) =
            let (r_is, r_comes) = (arranged.directs next is_next).sound r m in
            let r_done = known r r_is r_comes in
            let a = part.order k r (known k is comes) r_done before in
            let b = child_climbs q.fits are (child_at c.children r) (slice_index ss r) (slice_index fs r) (part.fits r r_done).reached in
            let d = behind_each fs at (listed_before c.direct next) r m in
            omega arith

    -- what holds of those laid out, and of the next
    each : (P : ℕ → Type 0) → P next → ((k : ℕ) → IsDone c.order i k → P k) → (k : ℕ) → IsDone c.order (i + 1) k → P k
    each P here before k (p, under, e) = by_place (cases_lt p i)
      where
        by_place : (p < i) ⊎ (i ≤ p) → P k
        by_place (inl a) = before k (p, a, e)
        by_place (inr a) = let same : i ≡ p = omega (arith, a, under) in subst P (ap (slice_index c.order) same ∙ e) here

    module _ (g : ℕ) (least : IsLeastAt (Fit next start) q.last g) where
      abbrev ss' : List ℕ
      ss' = slice_set ss next start

      abbrev fs' : List ℕ
      fs' = slice_set fs next g

      start_here : slice_index ss' next ≡ start
      start_here = get_or-set_same ss next start 0 (let r = part.starts_room in let is = is_next in omega arith)

      start_else : (k : ℕ) → IsDone c.order i k → slice_index ss' k ≡ slice_index ss k
      start_else k d = get_or-set_other ss next k start 0 (apart k d)

      finish_here : slice_index fs' next ≡ g
      finish_here = get_or-set_same fs next g 0 (let r = part.finishes_room in let is = is_next in omega arith)

      finish_else : (k : ℕ) → IsDone c.order i k → slice_index fs' k ≡ slice_index fs k
      finish_else k d = get_or-set_other fs next k g 0 (apart k d)

      abbrev Fits : ℕ → Type 0
      Fits k = IsLeastAt (Fit k (slice_index ss' k)) q.last (slice_index fs' k)

      more_fits : (k : ℕ) → IsDone c.order (i + 1) k → Fits k
      more_fits = each Fits
          (let P : ℕ → ℕ → Type 0 = λ u v. IsLeastAt (Fit next u) q.last v in subst (λ u. P u (slice_index fs' next)) (sym start_here) (subst (P start) (sym finish_here) least))
          (λ k d. let P : ℕ → ℕ → Type 0 = λ u v. IsLeastAt (Fit k u) q.last v in subst (λ u. P u (slice_index fs' k)) (sym (start_else k d)) (subst (P (slice_index ss k)) (sym (finish_else k d)) (part.fits k d)))

      behind_start : at ≤ start
      behind_start = behind_at fs at (listed_before c.direct next)

      more_from : (k : ℕ) → IsDone c.order (i + 1) k → at ≤ slice_index ss' k
      more_from = each (λ k. at ≤ slice_index ss' k) (let e = start_here in let b = behind_start in omega arith) (λ k d. let e = start_else k d in let b = part.from k d in omega arith)

      from_next : (k : ℕ) → IsDone c.order (i + 1) k → q.before c next k → slice_index fs' next ≤ slice_index ss' k
      from_next = each (λ k. q.before c next k → slice_index fs' next ≤ slice_index ss' k) (λ h. absurd (arranged.strict next h)) (λ k d h. absurd (unforced k d h))

      from_done : (j : ℕ) → IsDone c.order i j → (k : ℕ) → IsDone c.order (i + 1) k → q.before c j k → slice_index fs' j ≤ slice_index ss' k
      from_done j d = each (λ k. q.before c j k → slice_index fs' j ≤ slice_index ss' k)
          (λ h. let e = start_here in let a = finish_else j d in let b = behind_all j (done_is j d) h in omega arith)
          (λ k n h. let e = start_else k n in let a = finish_else j d in let b = part.order j k d n h in omega arith)

      more_order : (j : ℕ) → IsDone c.order (i + 1) j → (k : ℕ) → IsDone c.order (i + 1) k → q.before c j k → slice_index fs' j ≤ slice_index ss' k
      more_order = each (λ j. (k : ℕ) → IsDone c.order (i + 1) k → q.before c j k → slice_index fs' j ≤ slice_index ss' k) from_next from_done

      more_ahead : (w : CanBeOver q c at f) (k : ℕ) → IsDone c.order (i + 1) k → slice_index fs' k ≤ w.together.finish k
      more_ahead w = each (λ k. slice_index fs' k ≤ w.together.finish k)
          (let e = finish_here in let a = least.least (w.together.finish next) (fits_ahead w) in omega arith)
          (λ k d. let e = finish_else k d in let a = part.ahead w k d in omega arith)

      pub more_part : IsPart q c at f (i + 1) ss' fs'
      more_part = record {
        starts_room = length-set ss next start ∙ part.starts_room;
        finishes_room = length-set fs next g ∙ part.finishes_room;
        under = still_under fs next g q.last part.under least.within;
        fits = more_fits;
        from = more_from;
        order = λ j k d n h. more_order j d k n h;
        ahead = more_ahead;
      }
