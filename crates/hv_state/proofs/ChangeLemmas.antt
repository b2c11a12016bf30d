-- What changes tell of the states of a plan.
use Rattle.std.proofs.Common.{◌≡◌, ◌<◌, ◌≤◌, ◌+◌, ◌++◌, ◌↔◌, ◌⊎◌, inl, inr, ℕ, zero, suc, Bool, true, false, IsTrue, nat_le, List, [], ◌∷◌, Option, None, Some, if◌then◌else◌, refl, sym, ◌∙◌, subst, arith}
use Rattle.std.proofs.lemmas.Bool.{cases_lt}
use Rattle.hv_lists.proofs.Bools.{if_true, if_false}
use Rattle.hv_world.specs.Types.{Typing}
use Rattle.hv_world.specs.Values.{Formula, Formulas, holds, and, or, not, imply, forall, exists, equal, no_formulas, more_formulas}
use Rattle.hv_world.specs.Bindings.{GroundAtom, atom_under}
use Rattle.hv_state.specs.Atoms.{Atoms}
use Rattle.hv_state.specs.Truth.{ForEach, ForSome, True, AllTrue, SomeTrue}
use Rattle.hv_state.specs.Plans.{Plan, StateAt}
use Rattle.hv_state.specs.Changes.{Change, Stays, AreChanges, none_yet, stays, turns, told_from, told, TrueAfter, Mentions, SomeMention}

-- one change more
pub told_push : (o : Option Bool) (k : ℕ) (cs : List Change) (c : Change) → told_from o k (cs ++ c ∷ []) ≡ (if nat_le c.0 k then Some c.1 else told_from o k cs)
told_push o k [] c = refl
told_push o k (d ∷ cs) c = told_push (if nat_le d.0 k then Some d.1 else o) k cs c

pub is_from : (n k : ℕ) → n ≤ k → nat_le n k ≡ true
is_from n k le = grind arith

pub is_late : (n k : ℕ) → k < n → nat_le n k ≡ false
is_late n k lt = grind arith

module _ (p : Plan) (g : GroundAtom) where
  -- behind the last change nothing is told anew
  pub late : (n : ℕ) (cs : List Change) → AreChanges p g n cs → (k : ℕ) → n ≤ k → told k cs ≡ told n cs
  late _ _ none_yet k le = refl
  late _ _ (stays {n} {cs} are same) k le = late n cs are k (omega (arith, le)) ∙ sym (late n cs are (suc n) (omega arith))
  late _ _ (turns {n} {cs} {b} are out is) k le =
      told_push None k cs (suc n, b) ∙ if_true (nat_le (suc n) k) (Some b) (told k cs) (is_from (suc n) k le)
      ∙ sym (told_push None (suc n) cs (suc n, b) ∙ if_true (nat_le (suc n) (suc n)) (Some b) (told (suc n) cs) (is_from (suc n) (suc n) (omega arith)))

  abbrev pub Says : ℕ → Option Bool → Type 0
  Says k None = StateAt p 0 g ↔ StateAt p k g
  Says k (Some b) = IsTrue b ↔ StateAt p k g

  carry : (n : ℕ) (o : Option Bool) → Says n o → StateAt p n g ↔ StateAt p (suc n) g → Says (suc n) o
  carry n None h e = (λ m. e.0 (h.0 m), λ m. h.1 (e.1 m))
  carry n (Some b) h e = (λ m. e.0 (h.0 m), λ m. h.1 (e.1 m))

  -- the last change up to an index, or else the start, tells what is true there
  pub tells : (n : ℕ) (cs : List Change) → AreChanges p g n cs → (k : ℕ) → k ≤ n → Says k (told k cs)
  tells _ _ none_yet k le = let here : 0 ≡ k = omega (arith, le) in subst (λ j. Says j None) here (λ m. m, λ m. m)
  tells _ _ (stays {n} {cs} are same) k le = by (tells n cs are) (cases_lt n k)
    where
      by : ((j : ℕ) → j ≤ n → Says j (told j cs)) → (n < k) ⊎ (k ≤ n) → Says k (told k cs)
      by so_far (inr within) = so_far k within
      by so_far (inl past) =
          let here : suc n ≡ k = omega (arith, past, le) in
          subst (λ j. Says j (told j cs)) here (subst (Says (suc n)) (sym (late n cs are (suc n) (omega arith))) (carry n (told n cs) (so_far n (omega arith)) same))
  tells _ _ (turns {n} {cs} {b} are out is) k le = by (tells n cs are) (cases_lt n k)
    where
      by : ((j : ℕ) → j ≤ n → Says j (told j cs)) → (n < k) ⊎ (k ≤ n) → Says k (told k (cs ++ (suc n, b) ∷ []))
      by so_far (inr within) =
          subst (Says k) (sym (told_push None k cs (suc n, b) ∙ if_false (nat_le (suc n) k) (Some b) (told k cs) (is_late (suc n) k (omega (arith, within))))) (so_far k within)
      by so_far (inl past) =
          let here : suc n ≡ k = omega (arith, past, le) in
          subst (λ j. Says j (told j (cs ++ (suc n, b) ∷ []))) here
          (subst (Says (suc n)) (sym (told_push None (suc n) cs (suc n, b) ∙ if_true (nat_le (suc n) (suc n)) (Some b) (told (suc n) cs) (is_from (suc n) (suc n) (omega arith)))) is)

-- truth depends on the atoms that the formula speaks of, and on no others
each_half : (w : Typing) (A P Q : List ℕ → Type 0) → ((env : List ℕ) → A env → P env → Q env) → (ts : List ℕ) (env : List ℕ) → ForEach w A ts env → ForEach w P ts env → ForEach w Q ts env
each_half w A P Q h [] env a m = h env a m
each_half w A P Q h (t ∷ ts) env a m = λ o of. each_half w A P Q h ts (env ++ o ∷ []) (a o of) (m o of)

some_half : (w : Typing) (A P Q : List ℕ → Type 0) → ((env : List ℕ) → A env → P env → Q env) → (ts : List ℕ) (env : List ℕ) → ForEach w A ts env → ForSome w P ts env → ForSome w Q ts env
some_half w A P Q h [] env a m = h env a m
some_half w A P Q h (t ∷ ts) env a (o, of, m) = (o, of, some_half w A P Q h ts (env ++ o ∷ []) (a o of) m)

module _ (w : Typing) (S T : Atoms) where
  abbrev Agree : (GroundAtom → Type 0) → Type 0
  Agree M = (g : GroundAtom) → M g → S g ↔ T g

  each_agree : (M : GroundAtom → List ℕ → Type 0) (ts : List ℕ) (env : List ℕ) → Agree (λ g. ForSome w (M g) ts env) → ForEach w (λ e. Agree (λ g. M g e)) ts env
  each_agree M [] env h = h
  each_agree M (t ∷ ts) env h = λ o of. each_agree M ts (env ++ o ∷ []) (λ g m. h g (o, of, m))

  mutual
    pub agreed : (f : Formula) (env : List ℕ) → Agree (λ g. Mentions w g f env) → True w S f env ↔ True w T f env
    agreed (holds a) env h = h (atom_under env a) refl
    agreed (and fs) env h = all_agreed fs env h
    agreed (or fs) env h = some_agreed fs env h
    agreed (not f) env h = let e = agreed f env h in (λ m n. m (e.1 n), λ m n. m (e.0 n))
    agreed (imply f k) env h =
        let e = agreed f env (λ g m. h g (inl m)) in
        let i = agreed k env (λ g m. h g (inr m)) in
        (λ m n. i.0 (m (e.1 n)), λ m n. i.1 (m (e.0 n)))
    agreed (forall ts f) env h =
        let all = each_agree (λ g. Mentions w g f) ts env h in
        (each_half w _ (True w S f) (True w T f) (λ e a. (agreed f e a).0) ts env all, each_half w _ (True w T f) (True w S f) (λ e a. (agreed f e a).1) ts env all)
    agreed (exists ts f) env h =
        let all = each_agree (λ g. Mentions w g f) ts env h in
        (some_half w _ (True w S f) (True w T f) (λ e a. (agreed f e a).0) ts env all, some_half w _ (True w T f) (True w S f) (λ e a. (agreed f e a).1) ts env all)
    agreed (equal s t) env h = (λ m. m, λ m. m)

    all_agreed : (fs : Formulas) (env : List ℕ) → Agree (λ g. SomeMention w g fs env) → AllTrue w S fs env ↔ AllTrue w T fs env
    all_agreed no_formulas env h = (λ m. m, λ m. m)
    all_agreed (more_formulas f fs) env h =
        let e = agreed f env (λ g m. h g (inl m)) in
        let i = all_agreed fs env (λ g m. h g (inr m)) in
        (λ m. (e.0 m.0, i.0 m.1), λ m. (e.1 m.0, i.1 m.1))

    some_agreed : (fs : Formulas) (env : List ℕ) → Agree (λ g. SomeMention w g fs env) → SomeTrue w S fs env ↔ SomeTrue w T fs env
    some_agreed no_formulas env h = (λ m. m, λ m. m)
    some_agreed (more_formulas f fs) env h =
        let e = agreed f env (λ g m. h g (inl m)) in
        let i = some_agreed fs env (λ g m. h g (inr m)) in
        (λ m. elim m [ inl a ↦ inl (e.0 a) | inr b ↦ inr (i.0 b) ], λ m. elim m [ inl a ↦ inl (e.1 a) | inr b ↦ inr (i.1 b) ])

-- as long as no atom changes that a formula speaks of, its truth stays
module _ (p : Plan) (f : Formula) (env : List ℕ) (k : ℕ) where
  pub unchanged : (n j : ℕ) → j ≡ k + n → ((i : ℕ) (g : GroundAtom) → k ≤ i → i < j → Mentions p.world.typing g f env → Stays p g i)
      → True p.world.typing (StateAt p k) f env ↔ True p.world.typing (StateAt p j) f env
  unchanged zero j e h = let here : k ≡ j = omega (arith, e) in subst (λ i. True p.world.typing (StateAt p k) f env ↔ True p.world.typing (StateAt p i) f env) here (λ m. m, λ m. m)
  unchanged (suc n) j e h =
      let before = unchanged n (k + n) refl (λ i g from to. h i g from (omega (arith, to, e))) in
      let step = agreed p.world.typing (StateAt p (k + n)) (StateAt p (suc (k + n))) f env (λ g m. h (k + n) g (omega arith) (omega (arith, e)) m) in
      let here : suc (k + n) ≡ j = omega (arith, e) in
      subst (λ i. True p.world.typing (StateAt p k) f env ↔ True p.world.typing (StateAt p i) f env) here (λ m. step.0 (before.0 m), λ m. before.1 (step.1 m))

-- what is true after k actions, by the changes
abbrev Told : Plan → GroundAtom → Option Bool → Type 0
Told p g o = elim o [ None ↦ StateAt p 0 g | Some b ↦ IsTrue b ]

pub told_is : (p : Plan) (g : GroundAtom) (n : ℕ) (cs : List Change) → AreChanges p g n cs → (k : ℕ) → k ≤ n → TrueAfter (StateAt p 0) (λ _. cs) k g ↔ StateAt p k g
told_is p g n cs are k le = by (told k cs) (tells p g n cs are k le)
  where
    by : (o : Option Bool) → Says p g k o → Told p g o ↔ StateAt p k g
    by None h = h
    by (Some b) h = h
