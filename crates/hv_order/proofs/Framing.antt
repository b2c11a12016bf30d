-- A candidate's layout gives its least finish.
use Rattle.std.proofs.Common.{◌≡◌, ℕ, zero, suc, ◌≤◌, ◌<◌, refl, inl, inr, arith, ◌⊎◌, Option, Some, None, length, subst}
use Rattle.std.proofs.lemmas.Bool.{cases_lt}
use Rattle.std.specs.Prelude.{slice_index, replicate}
use Rattle.hv_order.specs.Tables.{IsLeast}
use Rattle.hv_order.specs.inside.Layouts.{PlacedTogether}
use Rattle.hv_plan.specs.declared.tree.Child.{Child}
use Rattle.hv_plan.specs.declared.tree.Child.TheVariants as children
use Rattle.hv_order.specs.Finishes.{ActionFits}
use Rattle.hv_order.specs.inside.Children.{child_at, ChildFits, IsLatestStart}
use Rattle.hv_order.specs.inside.Arrangements.{Arrangement, arrangement_of}
use Rattle.hv_order.specs.inside.Facts.{Facts, AreFits, IsFirstTrue, IsFirstStretch, FitsWith}
use Rattle.hv_order.specs.inside.Arrangements.{listed_before}
use Rattle.hv_order.specs.inside.Trials.{HasFinish, IsTrialOf, IsTrialAs, IsUnderCap}
use Rattle.hv_order.specs.inside.Frames.{IsArranged, IsTrying}
use Rattle.hv_order.specs.declared.trial.Trial.{Trial}
use Rattle.hv_order.specs.declared.trial.Stretch.{Stretch}
use Rattle.hv_order.specs.declared.trial.Arranged.{Arranged}
use Rattle.hv_order.proofs.ChildrenFit.{child_climbs, child_earlier}
use Rattle.hv_order.proofs.Layouts.{laid_is_least}

module _ (q : Facts) (fits : AreFits q.fits) (s : ℕ) (c : Arranged) (arranged : IsArranged q (arrangement_of c)) (cap : ℕ) where
  abbrev arrangement : Arrangement
  arrangement = arrangement_of c

  abbrev Is : ℕ → Type 0
  Is j = j < length c.children.items

  abbrev FitOf : ℕ → ℕ → ℕ → Type 0
  FitOf j = ChildFits q.fits (child_at c.children.items j)

  -- true nowhere where all children can still begin
  pub none_true : (latest : ℕ) → IsLatestStart c.children.items cap latest → IsFirstTrue (q.holds arrangement) s latest None → IsLeast (FitsWith q s arrangement) cap None
  none_true latest is none = λ g a w.
      let e = w.early in
      none w.at w.late (is.bound w.at (omega (arith, e, a)) (λ j k lt child. begins w j k lt child)) w.holds
    where
      begins : {g : ℕ} (w : FitsWith q s arrangement g) (j k : ℕ) → j < length c.children.items → child_at c.children.items j ≡ children.Action k → w.at ≤ k
      begins w j k lt child =
          let P : Child → Type 0 = λ x. ChildFits q.fits x (w.together.start j) (w.together.finish j) in
          let there : ActionFits k (w.together.start j) (w.together.finish j) = subst P child (w.together.fits j lt) in
          let from = w.together.from j lt in
          let begin = there.0 in
          omega (arith, from, begin)

  -- what is true first up to there is so up to the cap
  pub up_to_cap : (latest : ℕ) (r : Stretch) → IsLatestStart c.children.items cap latest → IsFirstStretch (q.holds arrangement) s latest r → IsFirstStretch (q.holds arrangement) s cap r
  up_to_cap latest r is first_is = record {
    behind = first_is.behind;
    within = (let a = first_is.within in let b = is.within in omega (arith, a, b));
    begun = first_is.begun;
    none_before = first_is.none_before;
    holds = first_is.holds;
  }

  -- behind the first true index no placing is lost
  earlier : (at at' f : ℕ) → at ≤ at' → PlacedTogether Is (q.before arrangement) FitOf at' f → PlacedTogether Is (q.before arrangement) FitOf at f
  earlier at at' f le w = record {
    start = w.start;
    finish = w.finish;
    fits = w.fits;
    from = λ j is. let a = w.from j is in omega arith;
    until = w.until;
    order = w.order;
  }

  first : (r : Stretch) (k : ℕ) → IsFirstStretch (q.holds arrangement) s cap r → s ≤ k → q.holds arrangement k → r.first ≤ k
  first r k is late holds = by_order (cases_lt k r.first)
    where
      by_order : (k < r.first) ⊎ (r.first ≤ k) → r.first ≤ k
      by_order (inl a) = absurd (is.none_before k late a holds)
      by_order (inr a) = a

  by_index : (r : Stretch) (o : Option ℕ) → IsFirstStretch (q.holds arrangement) s cap r → IsLeast (λ f. PlacedTogether Is (q.before arrangement) FitOf r.first f × (r.first ≤ f)) cap o → IsLeast (FitsWith q s arrangement) cap o
  by_index r None is none = λ g a w. none g a (earlier r.first w.at g (first r w.at is w.late w.holds) w.together, (let b = first r w.at is w.late w.holds in let e = w.early in omega arith))
  by_index r (Some f) is some = record {
    reached = record { at = r.first; late = is.behind; early = some.reached.1; holds = is.holds r.first (omega arith) is.begun; together = some.reached.0 };
    within = some.within;
    least = λ g w. some.least g (earlier r.first w.at g (first r w.at is w.late w.holds) w.together, (let b = first r w.at is w.late w.holds in let e = w.early in omega arith));
  }

  -- nothing is laid out yet
  pub begun : (r : Stretch) (t : Trial) → IsFirstStretch (q.holds arrangement) s cap r → cap ≤ q.last → t.at ≡ r.first → t.last ≡ r.last → t.cap ≡ cap → t.placed ≡ 0 → t.latest ≡ t.at → length t.finishes.items ≡ length c.children.items → ((i : ℕ) → slice_index t.finishes.items i ≤ 0) → IsTrying q s c t
  begun r t is within at_is last_is cap_is placed latest room nothing = record {
    under = record { cap = rw cap_is within; at = rw (cap_is, at_is) is.within; finishes = λ i. let a = nothing i in omega arith };
    late = rw at_is is.behind;
    holds = λ k a b. is.holds k (rw at_is at a) (rw last_is at b);
    zeros = t.finishes.items;
    room = room;
    trial = record { room = refl; begun = rw (at_is, last_is) is.begun; alike = λ i lt. absurd (omega (arith, placed)); rest = λ o h. rw (placed, latest) at h };
    gives = λ o lays. rw cap_is (by_index r o is (laid_is_least Is (q.before arrangement) FitOf arranged.strict (λ j. child_climbs q.fits fits (child_at c.children.items j)) (λ j. child_earlier q.fits fits (child_at c.children.items j)) cap (HasFinish q cap c.children.items) (λ j a r k h. h) (listed_before c.sequencing.value.direct) arranged.directs r.first is.within t.finishes.items c.sequencing.value.order.items o (λ j k. rw room k) arranged.order (rw (cap_is, at_is) at lays)));
  }

-- a list of zeros has nothing above zero
pub zeros_under : (n i : ℕ) → slice_index (replicate n 0) i ≤ 0
zeros_under zero i = omega arith
zeros_under (suc n) zero = omega arith
zeros_under (suc n) (suc i) = zeros_under n i

-- the layout goes on
pub still_trying :
    (q : Facts) (s : ℕ) (c : Arranged) (t u : Trial) → IsTrying q s c t
    → IsTrialAs q c.children.items c.sequencing.value.order.items c.sequencing.value.direct t u
    → IsUnderCap q u → length u.finishes.items ≡ length c.children.items → u.at ≡ t.at → u.last ≤ t.last
    → u.cap ≡ t.cap → IsTrying q s c u
still_trying q s c t u is on under room at_is shorter cap_is = record {
  under = under;
  late = rw at_is is.late;
  holds = λ k a b. is.holds k (rw at_is at a) (omega arith);
  zeros = is.zeros;
  room = room;
  trial =
      let there : (k : ℕ) → k ≡ t.cap → IsTrialOf q k c.children.items c.sequencing.value.order.items c.sequencing.value.direct is.zeros u =
      λ k e. rw e (on is.zeros is.trial) in
      there u.cap cap_is;
  gives = λ o lays. rw cap_is (is.gives o (rw (cap_is, at_is) at lays));
}
