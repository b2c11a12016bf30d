-- How long the best of a node's candidates is kept.
use Rattle.std.proofs.Common.{◌≡◌, ℕ, zero, suc, ◌≤◌, ◌<◌, ◌⊎◌, List, [], ◌∷◌, refl, sym, ap, ◌∙◌, subst, inl, inr, arith, Option, Some, None, length, Contains}
use Rattle.std.specs.Prelude.{slice_index, max, min, MatchOption}
use Rattle.hv_lists.specs.Lists.{Once}
use Rattle.hv_lists.proofs.Contained.{at_head, in_tail, none_in_empty}
use Rattle.hv_lists.proofs.EachOnce.{once_head, once_tail}
use Rattle.hv_order.specs.Tables.{IsLeast}
use Rattle.hv_order.specs.inside.Choosing.{cap_under, newer}
use Rattle.hv_order.specs.inside.Layouts.{Lays, PlacedTogether, IsInOrder, AreDirect}
use Rattle.hv_order.specs.inside.Children.{child_at, ChildFits}
use Rattle.hv_order.specs.inside.Arrangements.{Arrangement, arrangement_of}
use Rattle.hv_order.specs.inside.Facts.{Facts, AreFits, FitsWith}
use Rattle.hv_order.specs.inside.Arrangements.{listed_before}
use Rattle.hv_order.specs.inside.Trials.{finish_of, HasFinish, IsAlike, IsTrialOf, IsTrialAs, IsWhole, ComesTo}
use Rattle.hv_order.specs.inside.Frames.{IsArranged, IsTrying, IsLeastWith, IsLeastOf, AreLeastOf, IsWonBy, Won, IsBest}
use Rattle.hv_order.specs.declared.trial.Trial.{Trial}
use Rattle.hv_order.specs.declared.trial.Best.{Best}
use Rattle.hv_order.specs.declared.trial.Arranged.{Arranged}
use Rattle.hv_order.proofs.Choosing.{one_tried}
use Rattle.hv_order.proofs.ChildrenFit.{child_climbs, child_earlier}
use Rattle.hv_order.proofs.Layouts.{laid_is_least}
use Rattle.hv_order.proofs.Intervals.{IsKnown, serves_later}

-- what fits from a start fits from an earlier one
pub fits_earlier : (q : Facts) (c : Arrangement) (s s' f : ℕ) → s' ≤ s → FitsWith q s c f → FitsWith q s' c f
fits_earlier q c s s' f le w = let a = w.late in record { at = w.at; late = omega arith; early = w.early; holds = w.holds; together = w.together }

-- a member of a list has a place there
record HasPlace (xs : List ℕ) (x : ℕ) : Type 0 where
  place : ℕ
  within : place < length xs
  is : slice_index xs place ≡ x

place_of : (xs : List ℕ) (x : ℕ) → Contains xs x → HasPlace xs x
place_of [] x m = absurd (none_in_empty x m)
place_of (y ∷ ys) x (zero, lt, e) = record { place = zero; within = omega arith; is = e }
place_of (y ∷ ys) x (suc k, lt, e) = let p = place_of ys x (k, omega (arith, lt), e) in let w = p.within in record { place = suc p.place; within = omega arith; is = p.is }

-- one number has one least finish
one_least : (P : ℕ → Type 0) (n f : ℕ) (r : Option ℕ) → IsLeast P n (Some f) → IsLeast P n r → r ≡ Some f
one_least P n f None a b = absurd (b f a.within a.reached)
one_least P n f (Some g) a b = let c = a.least g b.reached in let d = b.least f a.reached in let e : g ≡ f = omega arith in ap Some e

-- in an order that is allowed, those directly before one are laid out when its turn comes
all_known : (Is : ℕ → Type 0) (Before : ℕ → ℕ → Type 0) (strict : (j : ℕ) → Before j j → ⊥) (direct : ℕ → List ℕ) (directs : (j : ℕ) → Is j → AreDirect Is Before j (direct j)) (rest done : List ℕ) → IsInOrder Before rest → Once rest → ((j : ℕ) → Contains rest j → Is j) → ((j : ℕ) → Is j → Contains rest j ⊎ Contains done j) → ((j : ℕ) → Contains rest j → Contains done j → ⊥) → IsKnown direct done rest
all_known Is Before strict direct directs [] done ordered distinct sub all new = tt
all_known Is Before strict direct directs (j ∷ js) done ordered distinct sub all new =
    let (first, others) = ordered in
    (known, new j (at_head j js j refl), all_known Is Before strict direct directs js (j ∷ done) others (once_tail j js distinct) (λ i m. sub i (in_tail j js i m)) (λ i is. moved i (all i is)) apart)
  where
    known : (i : ℕ) → Contains (direct j) i → Contains done i
    known i m = let (is, comes) = (directs j (sub j (at_head j js j refl))).sound i m in by_place comes (all i is)
      where
        by_place : Before i j → Contains (j ∷ js) i ⊎ Contains done i → Contains done i
        by_place comes (inl (zero, lt, e)) = absurd (strict j (let P : ℕ → Type 0 = λ u. Before u j in subst P (sym e) comes))
        by_place comes (inl (suc k, lt, e)) = let (first, others) = ordered in absurd (first i (k, omega (arith, lt), e) comes)
        by_place comes (inr l) = l

    moved : (i : ℕ) → Contains (j ∷ js) i ⊎ Contains done i → Contains js i ⊎ Contains (j ∷ done) i
    moved i (inl (zero, lt, e)) = inr (at_head j done i (sym e))
    moved i (inl (suc k, lt, e)) = inl (k, omega (arith, lt), e)
    moved i (inr m) = inr (in_tail j done i m)

    apart : (i : ℕ) → Contains js i → Contains (j ∷ done) i → ⊥
    apart i m (zero, lt, e) = once_head j js distinct (let P : ℕ → Type 0 = λ u. Contains js u in subst P (sym e) m)
    apart i m (suc k, lt, e) = new i (in_tail j js i m) (k, omega (arith, lt), e)

module _ (q : Facts) (fits : AreFits q.fits) (s : ℕ) (c : Arranged) (arranged : IsArranged q (arrangement_of c)) (t : Trial) (is : IsTrying q s c t) where
  abbrev arrangement : Arrangement
  arrangement = arrangement_of c

  abbrev Is : ℕ → Type 0
  Is j = j < length c.children.items

  abbrev FitOf : ℕ → ℕ → ℕ → Type 0
  FitOf j = ChildFits q.fits (child_at c.children.items j)

  abbrev Row : ℕ → ℕ → Option ℕ → Type 0
  Row j from o = HasFinish q t.cap c.children.items j from o

  -- what the whole layout behind an index gives
  together : (at f : ℕ) → at ≤ t.cap → Lays Row (listed_before c.sequencing.value.direct) at is.zeros at c.sequencing.value.order.items (Some f) → length is.zeros ≡ length c.children.items → PlacedTogether Is (q.before arrangement) FitOf at f × (at ≤ f)
  together at f early lays room =
      let least : IsLeast (λ g. PlacedTogether Is (q.before arrangement) FitOf at g × (at ≤ g)) t.cap (Some f) = laid_is_least Is (q.before arrangement) FitOf arranged.strict (λ j. child_climbs q.fits fits (child_at c.children.items j)) (λ j. child_earlier q.fits fits (child_at c.children.items j)) t.cap Row (λ j a r k h. h) (listed_before c.sequencing.value.direct) arranged.directs at early is.zeros c.sequencing.value.order.items (Some f) (λ j k. rw room k) arranged.order lays in
      least.reached

  -- a whole layout gives its finish from each start up to which it stays alike
  lasts : (u : Trial) (b : Best) → IsTrialOf q t.cap c.children.items c.sequencing.value.order.items c.sequencing.value.direct is.zeros u → u.at ≡ t.at → u.last ≤ t.last → length c.sequencing.value.order.items ≤ u.placed → b.last ≡ min u.last b.finish → Lays Row (listed_before c.sequencing.value.direct) t.at is.zeros t.at c.sequencing.value.order.items (Some b.finish) → IsWonBy q s arrangement b
  lasts u b trial at_is shorter whole last_is lays =
      let under = is.under in
      let cap_at = under.at in
      let cap_last = under.cap in
      let room : length is.zeros ≡ length c.children.items = sym is.trial.room ∙ is.room in
      let least : IsLeastWith q s arrangement t.cap (Some b.finish) = is.gives (Some b.finish) lays in
      let under_cap = least.within in
      let first = (together t.at b.finish cap_at lays room).1 in
      let begun : t.at ≤ u.last = rw at_is at trial.begun in
      let later : t.at ≤ b.last = omega arith in
      let end : b.last ≤ b.finish = omega arith in
      let shift = serves_later Is FitOf (λ j. child_climbs q.fits fits (child_at c.children.items j)) t.cap Row (λ j a r k h. h) (listed_before c.sequencing.value.direct) t.at b.last later held c.sequencing.value.order.items [] is.zeros t.at b.finish (λ i m. absurd (none_in_empty i m)) (λ j m. (arranged.order.only j m, rw room (arranged.order.only j m))) (all_known Is (q.before arrangement) arranged.strict (listed_before c.sequencing.value.direct) arranged.directs c.sequencing.value.order.items [] arranged.order.in_order arranged.order.distinct arranged.order.only (λ j k. inl (arranged.order.has j k)) (λ j m l. none_in_empty j l)) end lays in
      let late : max b.last t.at ≡ b.last = omega arith in
      let there = together b.last b.finish (omega arith) (rw late at shift) room in
      let a = is.late in
      record {
        late = omega arith;
        within = omega arith;
        fits = record { at = b.last; late = omega arith; early = there.1; holds = is.holds b.last later (omega arith); together = there.0 };
      }
    where
      held : (j : ℕ) → Is j → listed_before c.sequencing.value.direct j ≡ [] → (r : Option ℕ) → Row j t.at r → Row j b.last r
      held j k none r row =
          let p = place_of c.sequencing.value.order.items j (arranged.order.has j k) in
          let w = p.within in
          let all : IsAlike (Row j) t.at u.last = rw (at_is, p.is) at (trial.alike p.place (omega arith) (rw p.is none)) in
          let f = all.0 in
          let alike = all.1 in
          let begun : t.at ≤ u.last = rw at_is at trial.begun in
          let room : length is.zeros ≡ length c.children.items = sym is.trial.room ∙ is.room in
          let first = (together t.at b.finish is.under.at lays room).1 in
          let same : r ≡ Some f = one_least (FitOf j t.at) t.cap f r (alike t.at (omega arith) begun) row in
          rw same (alike b.last (omega arith) (omega arith))

  -- so the best of a candidate is its own
  pub won_by_layout : (u : Trial) (o : Option Best) → IsTrialAs q c.children.items c.sequencing.value.order.items c.sequencing.value.direct t u → u.at ≡ t.at → u.last ≤ t.last → ComesTo q c.children.items c.sequencing.value.order.items c.sequencing.value.direct t o → IsWhole c.sequencing.value.order.items u o → Won q s arrangement o
  won_by_layout u None on at_is shorter comes whole b e = absurd (let k : None ≡ Some b = e in cc)
  won_by_layout u (Some d) on at_is shorter comes whole b e =
      let k : d ≡ b = (let r : Some d ≡ Some b = e in cc) in
      subst (IsWonBy q s arrangement) k (lasts u d (on is.zeros is.trial) at_is shorter whole.0 whole.1 (comes is.zeros is.trial))

-- the winner, after a candidate was tried
pub won_by : (q : Facts) (s : ℕ) (best o : Option Best) (winner c w : Arranged) → Won q s (arrangement_of winner) best → Won q s (arrangement_of c) o → MatchOption o (w ≡ winner) (λ b. w ≡ c) → Won q s (arrangement_of w) (newer best o)
won_by q s best None winner c w won own same b e = rw same (won b e)
won_by q s best (Some d) winner c w won own same b e = rw same (own b e)

-- one candidate more, tried under the cap
pub one_more : (q : Facts) (s : ℕ) (all : List Arrangement) (c : Arrangement) (left : List Arrangement) (best o : Option Best) (cap : ℕ) → cap_under q.last (finish_of best) ≡ Some cap → IsLeastWith q s c cap (finish_of o) → Won q s c o → IsBest q s all (c ∷ left) best → IsBest q s all left (newer best o)
one_more q s all c left best None cap e least own far = record {
  tried = one_tried all (FitsWith q s) q.last c left (finish_of best) cap None e far.tried least;
  won = far.won;
}
one_more q s all c left best (Some d) cap e least own far = record {
  tried = one_tried all (FitsWith q s) q.last c left (finish_of best) cap (Some d.finish) e far.tried least;
  won = λ b r. (c, far.tried.sub c (at_head c left c refl), own b r);
}

-- the least finish of all candidates is that for each start up to which it is kept
pub kept : (q : Facts) (s : ℕ) (all left : List Arrangement) (best : Option Best) → IsBest q s all left best → IsLeastOf q s all (finish_of best) → AreLeastOf q s all best
kept q s all left None is least = λ x a g le w. least g le (record { candidate = w.candidate; listed = w.listed; gives = fits_earlier q w.candidate x s g a w.gives })
kept q s all left (Some b) is least = λ x a h.
    let (c, m, won) = is.won b refl in
    record {
      reached = record { candidate = c; listed = m; gives = fits_earlier q c b.last x b.finish h won.fits };
      within = least.within;
      least = λ g w. least.least g (record { candidate = w.candidate; listed = w.listed; gives = fits_earlier q w.candidate x s g a w.gives });
    }
