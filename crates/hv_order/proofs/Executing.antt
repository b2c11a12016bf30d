-- A sequence of all actions of the plan executes exactly where it can be run: no state is left out.
use Rattle.std.proofs.Common.{◌≡◌, ℕ, ◌+◌, ◌<◌, ◌≤◌, true, List, [], ◌∷◌, sym, ap, subst, inl, inr, arith, ◌⊎◌, Contains, zero, suc}
use Rattle.std.proofs.lemmas.Bool.{cases_lt}
use Rattle.hv_lists.proofs.Contained.{none_in_empty}
use Rattle.hv_plan.specs.Trees.{Item, Act, Task, Pre}
use Rattle.hv_order.specs.Meanings.{Choice}
use Rattle.hv_order.specs.Sequences.{Executes, Passes}
use Rattle.hv_order.proofs.Members.{act_same, act_not_pre}
use Rattle.hv_order.proofs.Clocks.{passes_bound}

-- a sequence that can be run from s on has no action before s
passes_from : (o : Choice) (q : List Item) (s f k : ℕ) → Passes o s q f → Contains q (Act k) → s ≤ k
passes_from o [] s f k passes m = absurd (none_in_empty (Act k) m)
passes_from o (Act j ∷ q) s f k passes (zero, lt, e) = let (late, rest) = passes in let same : k ≡ j = act_same k j (sym e) in omega arith
passes_from o (Act j ∷ q) s f k passes (suc i, lt, e) = let (late, rest) = passes in let later = passes_from o q (j + 1) f k rest (i, omega (arith, lt), e) in omega arith
passes_from o (Task v ∷ q) s f k passes m = absurd passes
passes_from o (Pre v ∷ q) s f k passes (zero, lt, e) = absurd (act_not_pre k v (sym e))
passes_from o (Pre v ∷ q) s f k passes (suc i, lt, e) = let (at, late, holds, rest) = passes in let later = passes_from o q at f k rest (i, omega (arith, lt), e) in omega arith

mem_behind_act : (k j : ℕ) (q : List Item) → (k ≡ j → ⊥) → Contains (Act j ∷ q) (Act k) → Contains q (Act k)
mem_behind_act k j q other (zero, lt, e) = absurd (other (act_same k j (sym e)))
mem_behind_act k j q other (suc i, lt, e) = (i, omega (arith, lt), e)

mem_behind_pre : (k v : ℕ) (q : List Item) → Contains (Pre v ∷ q) (Act k) → Contains q (Act k)
mem_behind_pre k v q (zero, lt, e) = absurd (act_not_pre k v (sym e))
mem_behind_pre k v q (suc i, lt, e) = (i, omega (arith, lt), e)

-- the first item begins where the sequence does, or action s would be left out
first_at : (o : Choice) (q : List Item) (s at next f : ℕ) → s ≤ at → at ≤ next → next ≤ f → Passes o next q f → ((k : ℕ) → s ≤ k → k < at → Contains q (Act k)) → at ≡ s
first_at o q s at next f late after bound rest all = by_order (cases_lt s at)
  where
    by_order : (s < at) ⊎ (at ≤ s) → at ≡ s
    by_order (inl h) =
        let left_out = passes_from o q next f s rest (all s (omega arith) h) in
        absurd (omega arith)
    by_order (inr h) = omega arith

pub executes_from : (o : Choice) (q : List Item) (s f : ℕ) → Passes o s q f → ((k : ℕ) → s ≤ k → k < f → Contains q (Act k)) → Executes o s q f
executes_from o [] s f passes all = by_order (cases_lt s f)
  where
    by_order : (s < f) ⊎ (f ≤ s) → s ≡ f
    by_order (inl h) = absurd (none_in_empty (Act s) (all s (omega arith) h))
    by_order (inr h) = omega arith
executes_from o (Act j ∷ q) s f passes all =
    let (late, rest) = passes in
    let bound = passes_bound o q (j + 1) f rest in
    let here : j ≡ s = first_at o q s j (j + 1) f late (omega arith) bound rest (λ k a b. mem_behind_act k j q (λ h. omega arith) (all k a (omega arith))) in
    (here, subst (λ n. Executes o n q f) (ap (λ n. n + 1) here) (executes_from o q (j + 1) f rest (λ k a b. mem_behind_act k j q (λ h. omega arith) (all k (omega arith) b))))
executes_from o (Task v ∷ q) s f passes all = absurd passes
executes_from o (Pre v ∷ q) s f passes all =
    let (at, late, holds, rest) = passes in
    let bound = passes_bound o q at f rest in
    let here : at ≡ s = first_at o q s at at f late (omega arith) bound rest (λ k a b. mem_behind_pre k v q (all k a (omega arith))) in
    (subst (λ n. (o.line v).true_at n ≡ true) here holds, subst (λ n. Executes o n q f) here (executes_from o q at f rest (λ k a b. mem_behind_pre k v q (all k (omega arith) b))))

pub passes_of : (o : Choice) (q : List Item) (s f : ℕ) → Executes o s q f → Passes o s q f
passes_of o [] s f same = omega arith
passes_of o (Act j ∷ q) s f executes =
    let (here, rest) = executes in
    let at : j ≡ s = here in
    (omega arith, passes_of o q (j + 1) f (subst (λ n. Executes o n q f) (ap (λ n. n + 1) (sym at)) rest))
passes_of o (Task v ∷ q) s f executes = absurd executes
passes_of o (Pre v ∷ q) s f executes = let (holds, rest) = executes in (s, omega arith, holds, passes_of o q s f rest)
