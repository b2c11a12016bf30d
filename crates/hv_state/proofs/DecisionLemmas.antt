-- Truth is decided: a formula is true in a state, or it is not.
use Rattle.std.proofs.Common.{◌≡◌, ◌<◌, ◌≤◌, ◌++◌, ◌⊎◌, inl, inr, ℕ, zero, suc, Bool, true, false, true≢false, bytes_eq, List, [], ◌∷◌, Option, None, Some, slice_get, take, refl, sym, ap, subst, arith}
use Rattle.std.specs.Cmp.Lexicographic.{bytes_decides}
use Rattle.std.proofs.lemmas.Bool.{cases_eq, cases_lt}
use Rattle.hv_world.specs.Types.{Typing, Of}
use Rattle.hv_world.specs.Bindings.{GroundAtom, GroundAction, atom_under, object_of}
use Rattle.hv_world.specs.Effects.{SomeMakes, Adds, Deletes}
use Rattle.hv_world.specs.Worlds.{World, Action}
use Rattle.hv_world.specs.Values.{Formula, Formulas, holds, and, or, not, imply, forall, exists, equal, no_formulas, more_formulas, Effect, Effects, becomes, for_each, no_effects, more_effects}
use Rattle.hv_state.specs.Atoms.{Atoms, After, atoms_under, row_of}
use Rattle.hv_state.specs.Truth.{IsDecided, ForEach, ForSome, True, AllTrue, SomeTrue}
use Rattle.hv_state.specs.Plans.{Plan, AfterAction, AfterActions, Start, StateAt}
use Rattle.hv_state.specs.inside.Makings.{IsMadeBy, IsMadeBySome}
use Rattle.hv_state.proofs.MadeLemmas.{made_is}
use Rattle.hv_state.proofs.NoteLemmas.{decided}
use Rattle.hv_state.proofs.StateLemmas.{same_atom}

both : (A B : Type 0) → IsDecided A → IsDecided B → IsDecided (A × B)
both A B (inl a) (inl b) = inl (a, b)
both A B (inl a) (inr n) = inr (λ m. n m.1)
both A B (inr n) b = inr (λ m. n m.0)

one : (A B : Type 0) → IsDecided A → IsDecided B → IsDecided (A ⊎ B)
one A B (inl a) b = inl (inl a)
one A B (inr n) (inl b) = inl (inr b)
one A B (inr n) (inr m) = inr (λ s. elim s [ inl a ↦ n a | inr b ↦ m b ])

leads : (A B : Type 0) → IsDecided A → IsDecided B → IsDecided (A → B)
leads A B (inl a) (inl b) = inl (λ x. b)
leads A B (inl a) (inr n) = inr (λ f. n (f a))
leads A B (inr n) b = inl (λ x. absurd (n x))

fails : (A : Type 0) → IsDecided A → IsDecided (A → ⊥)
fails A (inl a) = inr (λ n. n a)
fails A (inr n) = inl n

-- what is decided of each number is decided of all below a bound, and of some
module _ (Q : ℕ → Type 0) (each : (o : ℕ) → IsDecided (Q o)) where
  all_below : (n : ℕ) → IsDecided ((o : ℕ) → o < n → Q o)
  all_below zero = inl (λ o lt. absurd (omega (arith, lt)))
  all_below (suc n) = by (each n) (all_below n)
    where
      by : IsDecided (Q n) → IsDecided ((o : ℕ) → o < n → Q o) → IsDecided ((o : ℕ) → o < suc n → Q o)
      by (inr out) rest = inr (λ all. out (all n (omega arith)))
      by (inl here) (inr out) = inr (λ all. out (λ o lt. all o (omega (arith, lt))))
      by (inl here) (inl all) = inl (λ o lt. at o lt (cases_lt o n))
        where
          at : (o : ℕ) → o < suc n → (o < n) ⊎ (n ≤ o) → Q o
          at o lt (inl below) = all o below
          at o lt (inr behind) = let same : n ≡ o = omega (arith, lt, behind) in subst Q same here

  some_below : (n : ℕ) → IsDecided ((o : ℕ) × (o < n) × Q o)
  some_below zero = inr (λ m. omega (arith, m.1))
  some_below (suc n) = by (each n) (some_below n)
    where
      by : IsDecided (Q n) → IsDecided ((o : ℕ) × (o < n) × Q o) → IsDecided ((o : ℕ) × (o < suc n) × Q o)
      by (inl here) rest = inl (n, omega arith, here)
      by (inr out) (inl m) = inl (m.0, omega (arith, m.1), m.2)
      by (inr out) (inr none) = inr (λ m. at m.0 m.1 m.2 (cases_lt m.0 n))
        where
          at : (o : ℕ) → o < suc n → Q o → (o < n) ⊎ (n ≤ o) → ⊥
          at o lt q (inl below) = none (o, below, q)
          at o lt q (inr behind) = let same : o ≡ n = omega (arith, lt, behind) in out (subst Q same q)

-- truth by atoms that are decided, over types that are
module _ (w : Typing) (types : (o t : ℕ) → IsDecided (Of w o t)) where
  module _ (P : List ℕ → Type 0) (decides : (env : List ℕ) → IsDecided (P env)) where
    each_decided : (ts env : List ℕ) → IsDecided (ForEach w P ts env)
    each_decided [] env = decides env
    each_decided (t ∷ ts) env = by (all_below (λ o. Of w o t → ForEach w P ts (env ++ o ∷ [])) (λ o. leads (Of w o t) (ForEach w P ts (env ++ o ∷ [])) (types o t) (each_decided ts (env ++ o ∷ []))) w.objects)
      where
        by : IsDecided ((o : ℕ) → o < w.objects → Of w o t → ForEach w P ts (env ++ o ∷ [])) → IsDecided (ForEach w P (t ∷ ts) env)
        by (inl all) = inl (λ o of. all o of.0 of)
        by (inr out) = inr (λ all. out (λ o lt of. all o of))

    choice_decided : (ts env : List ℕ) → IsDecided (ForSome w P ts env)
    choice_decided [] env = decides env
    choice_decided (t ∷ ts) env = by (some_below (λ o. Of w o t × ForSome w P ts (env ++ o ∷ [])) (λ o. both (Of w o t) (ForSome w P ts (env ++ o ∷ [])) (types o t) (choice_decided ts (env ++ o ∷ []))) w.objects)
      where
        by : IsDecided ((o : ℕ) × (o < w.objects) × (Of w o t × ForSome w P ts (env ++ o ∷ []))) → IsDecided (ForSome w P (t ∷ ts) env)
        by (inl m) = inl (m.0, m.2.0, m.2.1)
        by (inr out) = inr (λ m. out (m.0, m.1.0, (m.1, m.2)))

  module _ (S : Atoms) (atoms : (g : GroundAtom) → IsDecided (S g)) where
    mutual
      pub true_decided : (f : Formula) (env : List ℕ) → IsDecided (True w S f env)
      true_decided (holds a) env = atoms (atom_under env a)
      true_decided (and fs) env = all_decided fs env
      true_decided (or fs) env = some_decided fs env
      true_decided (not f) env = fails (True w S f env) (true_decided f env)
      true_decided (imply f k) env = leads (True w S f env) (True w S k env) (true_decided f env) (true_decided k env)
      true_decided (forall ts f) env = each_decided (True w S f) (λ e. true_decided f e) ts env
      true_decided (exists ts f) env = choice_decided (True w S f) (λ e. true_decided f e) ts env
      true_decided (equal s t) env = cases_eq (object_of env s) (object_of env t)

      all_decided : (fs : Formulas) (env : List ℕ) → IsDecided (AllTrue w S fs env)
      all_decided no_formulas env = inl tt
      all_decided (more_formulas f fs) env = both (True w S f env) (AllTrue w S fs env) (true_decided f env) (all_decided fs env)

      some_decided : (fs : Formulas) (env : List ℕ) → IsDecided (SomeTrue w S fs env)
      some_decided no_formulas env = inr (λ m. m)
      some_decided (more_formulas f fs) env = one (True w S f env) (SomeTrue w S fs env) (true_decided f env) (some_decided fs env)

-- whether truth values are the same, and whether atoms are
same_value : (a b : Bool) → IsDecided (a ≡ b)
same_value true true = inl refl
same_value true false = inr true≢false
same_value false true = inr (λ e. true≢false (sym e))
same_value false false = inl refl

same_atoms : (g h : GroundAtom) → IsDecided (g ≡ h)
same_atoms g h = by (bytes_eq (row_of g) (row_of h)) (bytes_decides (row_of g) (row_of h)).0 (bytes_decides (row_of g) (row_of h)).1
  where
    by : (b : Bool) → (b ≡ true → row_of g ≡ row_of h) → (row_of g ≡ row_of h → b ≡ true) → IsDecided (g ≡ h)
    by true is back = inl (same_atom g h (is refl))
    by false is back = inr (λ e. true≢false (sym (back (ap row_of e))))

-- what effects make true or false, over types that are decided
module _ (w : Typing) (types : (o t : ℕ) → IsDecided (Of w o t)) (b : Bool) (g : GroundAtom) where
  mutual
    made_decided : (e : Effect) (env : List ℕ) → IsDecided (IsMadeBy w b g e env)
    made_decided (becomes c a) env = both (c ≡ b) (atom_under env a ≡ g) (same_value c b) (same_atoms (atom_under env a) g)
    made_decided (for_each ts es) env = choice_decided w types (IsMadeBySome w b g es) (λ e. some_made_decided es e) ts env

    some_made_decided : (es : Effects) (env : List ℕ) → IsDecided (IsMadeBySome w b g es env)
    some_made_decided no_effects env = inr (λ m. m)
    some_made_decided (more_effects e es) env = one (IsMadeBy w b g e env) (IsMadeBySome w b g es env) (made_decided e env) (some_made_decided es env)

  effects_decided : (env : List ℕ) (es : Effects) → IsDecided (SomeMakes w b env es g)
  effects_decided env es = elim (some_made_decided es env) [ inl m ↦ inl ((made_is w b env es g).0 m) | inr out ↦ inr (λ m. out ((made_is w b env es g).1 m)) ]

-- which atoms are true is decided at the start, and after each action
after_decided : (S deletes adds : Atoms) (g : GroundAtom) → IsDecided (S g) → IsDecided (deletes g) → IsDecided (adds g) → IsDecided (After S deletes adds g)
after_decided S deletes adds g was gone come = one (S g × (deletes g → ⊥)) (adds g) (both (S g) (deletes g → ⊥) was (fails (deletes g) gone)) come

module _ (w : World) (types : (o t : ℕ) → IsDecided (Of w.typing o t)) where
  action_decided : (S : Atoms) → ((g : GroundAtom) → IsDecided (S g)) → (a : GroundAction) (g : GroundAtom) → IsDecided (AfterAction w S a g)
  action_decided S atoms a g = by (slice_get w.actions a.action)
    where
      Done : Option Action → Atoms
      Done found = elim found [ None ↦ S | Some x ↦ After S (Deletes w.typing a.objects x.effect) (Adds w.typing a.objects x.effect) ]

      by : (found : Option Action) → IsDecided (Done found g)
      by None = atoms g
      by (Some x) =
          after_decided S (Deletes w.typing a.objects x.effect) (Adds w.typing a.objects x.effect) g (atoms g) (effects_decided w.typing types false g a.objects x.effect) (effects_decided w.typing types true g a.objects x.effect)

  actions_decided : (as' : List GroundAction) (S : Atoms) → ((g : GroundAtom) → IsDecided (S g)) → (g : GroundAtom) → IsDecided (AfterActions w S as' g)
  actions_decided [] S atoms g = atoms g
  actions_decided (a ∷ rest) S atoms g = actions_decided rest (AfterAction w S a) (λ h. action_decided S atoms a h) g

pub state_decided : (p : Plan) → ((o t : ℕ) → IsDecided (Of p.world.typing o t)) → (k : ℕ) (g : GroundAtom) → IsDecided (StateAt p k g)
state_decided p types k g = actions_decided p.world types (take k p.actions) (Start p.world) (λ h. decided (atoms_under [] p.world.init) h) g
