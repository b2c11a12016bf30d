-- Where the precondition of a candidate of a plan's node is first true.
use Rattle.std.proofs.Common.{◌≡◌, ℕ, suc, ◌+◌, ◌<◌, ◌≤◌, ◌⊎◌, inl, inr, true, false, length, sym, ◌∙◌, subst, arith, Option, Some, None, MatchOption}
use Rattle.std.specs.Prelude.{min, max}
use Rattle.std.proofs.lemmas.Bool.{cases_lt}
use Rattle.hv_world.specs.Worlds.{Method}
use Rattle.hv_state.specs.Atoms.{Atoms}
use Rattle.hv_state.specs.Plans.{StateAt}
use Rattle.hv_state.specs.Truth.{True}
use Rattle.hv_state.specs.Changes as changes
use Rattle.hv_state.specs.Changes.{AreFalse}
use Rattle.hv_match.specs.Candidates.{method_at}
use Rattle.hv_order.specs.Settings.{Setting, HoldsAt}
use Rattle.hv_order.specs.inside.Arrangements.{Arrangement}
use Rattle.hv_order.specs.inside.Facts.{IsFirstTrue}
use Rattle.hv_order.specs.inside.PlanFacts.{HoldsFor}
use Rattle.hv_order.specs.inside.PlanNodes.{IsRange}
use Rattle.hv_order.specs.declared.trial.Stretch.{Stretch}
use Rattle.hv_order.proofs.Members.{not_true}
use Rattle.hv_order.proofs.Possibles.{stays_past}

module _ (q : Setting) (c : Arrangement) (from upto : ℕ) where
  -- a node without a method has no candidate
  pub none_holds : method_at q.plan.world q.tree c.node ≡ None → IsFirstTrue (HoldsFor q c) from upto None
  none_holds e = λ k low high h.
      let P : Option Method → Type 0 = λ o. MatchOption o ⊥ (λ m. HoldsAt q m c.objects k) in
      subst P e h

  module _ (m : Method) (has_method : method_at q.plan.world q.tree c.node ≡ Some m) where
    holds_at : (k : ℕ) → HoldsFor q c k → HoldsAt q m c.objects k
    holds_at k h = let P : Option Method → Type 0 = λ o. MatchOption o ⊥ (λ m. HoldsAt q m c.objects k) in subst P has_method h

    holds_for : (k : ℕ) → HoldsAt q m c.objects k → HoldsFor q c k
    holds_for k h = let P : Option Method → Type 0 = λ o. MatchOption o ⊥ (λ m. HoldsAt q m c.objects k) in subst P (sym has_method) h

    -- where preconditions do not count, it holds in the whole range
    pub range_holds : q.is_with ≡ false → (o : Option Stretch) → IsRange from upto o → IsFirstTrue (HoldsFor q c) from upto o
    range_holds off None past = λ k low high h. omega arith
    range_holds off (Some r) (first, last, some) = record {
      behind = omega arith;
      within = omega arith;
      begun = omega arith;
      none_before = λ k low less h. omega arith;
      holds = λ k low high. holds_for k (λ on. not_true (sym off ∙ on));
    }

    abbrev True_at : ℕ → Type 0
    True_at k = True q.plan.world.typing (StateAt q.plan k) m.precondition c.objects

    to_last : (k : ℕ) → length q.plan.actions ≤ k → True_at k → True_at (length q.plan.actions)
    to_last k past h = let P : Atoms → Type 0 = λ S. True q.plan.world.typing S m.precondition c.objects in subst P (stays_past q k past) h

    from_last : (k : ℕ) → length q.plan.actions ≤ k → True_at (length q.plan.actions) → True_at k
    from_last k past h = let P : Atoms → Type 0 = λ S. True q.plan.world.typing S m.precondition c.objects in subst P (sym (stays_past q k past)) h

    module _ (on : q.is_with ≡ true) where
      pub nowhere_true : AreFalse q.plan m.precondition c.objects (min from (length q.plan.actions)) (min upto (length q.plan.actions) + 1) → IsFirstTrue (HoldsFor q c) from upto None
      nowhere_true none = λ k low high h. by k low high (holds_at k h on) (cases_lt k (length q.plan.actions))
        where
          by : (k : ℕ) → from ≤ k → k ≤ upto → True_at k → (k < length q.plan.actions) ⊎ (length q.plan.actions ≤ k) → ⊥
          by k low high h (inl before) = none k (omega arith) (omega arith) h
          by k low high h (inr past) = none (length q.plan.actions) (omega arith) (omega arith) (to_last k past h)

      pub first_true : from ≤ upto → (i j : ℕ) (r : Stretch) → r.first ≡ max from i → r.last ≡ max from j → changes.IsFirstTrue q.plan m.precondition c.objects (min from (length q.plan.actions)) (min upto (length q.plan.actions)) i j → IsFirstTrue (HoldsFor q c) from upto (Some r)
      first_true some i j r first_is last_is w =
          let after = w.after in
          let within = w.within in
          let order = w.order in
          let end = w.next.within in
          record {
            behind = omega arith;
            within = omega arith;
            begun = omega arith;
            none_before = λ k low less h. w.before k (omega arith) (omega arith) (holds_at k h on);
            holds = λ k low high. holds_for k (λ e. by k low high after within order end first_is last_is (cases_lt k (suc (length q.plan.actions))));
          }
        where
          by : (k : ℕ) → r.first ≤ k → k ≤ r.last → min from (length q.plan.actions) ≤ i → i ≤ min upto (length q.plan.actions) → i ≤ j → j + 1 ≤ length q.plan.actions + 1 → r.first ≡ max from i → r.last ≡ max from j → (k < suc (length q.plan.actions)) ⊎ (suc (length q.plan.actions) ≤ k) → True_at k
          by k low high after within order end first_is last_is (inl before) = w.stays k (omega arith) (omega arith)
          by k low high after within order end first_is last_is (inr past) = from_last k (omega arith) (w.stays (length q.plan.actions) (omega arith) (omega arith))
