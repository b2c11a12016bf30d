-- A formula that does not speak of a variable says the same whichever object the variable has.
use Rattle.std.proofs.Common.{◌≡◌, ◌++◌, inl, inr, ℕ, zero, suc, Bool, true, List, [], ◌∷◌, length, map, Option, Some, None, is_some, is_none, slice_get, slice_index_or, option_map, refl, sym, ap, ◌∙◌, subst, arith}
use Rattle.std.specs.List.{All}
use Rattle.std.proofs.lemmas.List.{append_assoc, append-nil}
use Rattle.std.proofs.lemmas.List.Elements.{All-head, All-tail}
use Rattle.hv_world.specs.Bindings.{GroundAtom, object_number, object_of, atom_under}
use Rattle.hv_world.specs.Types.{Typing}
use Rattle.hv_world.specs.Values.{Term, object, variable, Atom, Formula, Formulas, holds, and, or, not, imply, forall, exists, equal, no_formulas, more_formulas}
use Rattle.hv_world.specs.Values.{Effect, Effects, becomes, for_each, no_effects, more_effects}
use Rattle.hv_world.specs.declared.id.ObjectId.{ObjectId}
use Rattle.hv_state.specs.Atoms.{Atoms}
use Rattle.hv_state.specs.Changes.{Mentions, SomeMention}
use Rattle.hv_state.specs.Truth.{True, AllTrue, SomeTrue, ForEach, ForSome}
use Rattle.hv_state.specs.inside.Lacks.{IsOther, Lacks, LackAll, EffectLacks, EffectsLack}
use Rattle.hv_state.specs.inside.Makings.{IsMadeBy, IsMadeBySome}

-- a variable that has an object before the next, or none with it, is another
at_end : (env : List ℕ) (v z : ℕ) → v ≡ length env → (slice_get env v ≡ None) × (slice_get (env ++ z ∷ []) v ≡ Some z)
at_end [] zero z e = (refl, refl)
at_end [] (suc v) z e = absurd (omega (arith, e))
at_end (x ∷ xs) zero z e = absurd (omega (arith, e))
at_end (x ∷ xs) (suc v) z e = at_end xs v z (omega (arith, e))

pub has_one : (env : List ℕ) (v : ℕ) (found : Option ObjectId) → option_map object_number found ≡ slice_get env v → is_some found ≡ true → v ≡ length env → ⊥
has_one env v None e t is = absurd cc
has_one env v (Some o) e t is = let none : slice_get env v ≡ None = (at_end env v 0 is).0 in absurd cc

pub has_none : (env : List ℕ) (v z : ℕ) (found : Option ObjectId) → option_map object_number found ≡ slice_get (env ++ z ∷ []) v → is_none found ≡ true → v ≡ length env → ⊥
has_none env v z (Some o) e t is = absurd cc
has_none env v z None e t is = let some : slice_get (env ++ z ∷ []) v ≡ Some z = (at_end env v z is).1 in absurd cc

-- another variable has the same object
same_at : (env : List ℕ) (v n m : ℕ) (more : List ℕ) → (v ≡ length env → ⊥) → slice_index_or ((env ++ n ∷ []) ++ more) v 0 ≡ slice_index_or ((env ++ m ∷ []) ++ more) v 0
same_at [] zero n m more other = absurd (other refl)
same_at [] (suc v) n m more other = refl
same_at (x ∷ xs) zero n m more other = refl
same_at (x ∷ xs) (suc v) n m more other = same_at xs v n m more (λ e. other (ap suc e))

module _ (env : List ℕ) (n m : ℕ) (more : List ℕ) where
  same_object : (t : Term) → IsOther (length env) t → object_of ((env ++ n ∷ []) ++ more) t ≡ object_of ((env ++ m ∷ []) ++ more) t
  same_object (object o) other = refl
  same_object (variable v) other = same_at env v n m more other

  same_objects : (ts : List Term) → All (IsOther (length env)) ts → map (object_of ((env ++ n ∷ []) ++ more)) ts ≡ map (object_of ((env ++ m ∷ []) ++ more)) ts
  same_objects [] all = refl
  same_objects (t ∷ ts) all =
      let first = same_object t (All-head (IsOther (length env)) t ts all) in
      let others = same_objects ts (All-tail (IsOther (length env)) t ts all) in
      λ i. first i ∷ others i

  same_atom : (a : Atom) → All (IsOther (length env)) a.terms → atom_under ((env ++ n ∷ []) ++ more) a ≡ atom_under ((env ++ m ∷ []) ++ more) a
  same_atom a all = ap (λ os. record { predicate = a.predicate; objects = os }) (same_objects a.terms all)

-- what is so behind some objects is so behind others
module _ (w : Typing) (P : List ℕ → Type 0) (A B : List ℕ) (same : (more : List ℕ) → P (A ++ more) → P (B ++ more)) where
  each_through : (ts more : List ℕ) → ForEach w P ts (A ++ more) → ForEach w P ts (B ++ more)
  each_through [] more h = same more h
  each_through (t ∷ ts) more h = λ o of. subst (ForEach w P ts) (sym (append_assoc B more (o ∷ []))) (each_through ts (more ++ o ∷ []) (subst (ForEach w P ts) (append_assoc A more (o ∷ [])) (h o of)))

  some_through : (ts more : List ℕ) → ForSome w P ts (A ++ more) → ForSome w P ts (B ++ more)
  some_through [] more h = same more h
  some_through (t ∷ ts) more (o, of, h) = (o, of, subst (ForSome w P ts) (sym (append_assoc B more (o ∷ []))) (some_through ts (more ++ o ∷ []) (subst (ForSome w P ts) (append_assoc A more (o ∷ [])) h)))

module _ (w : Typing) (S : Atoms) (env : List ℕ) where
  mutual
    true_still : (f : Formula) → Lacks (length env) f → (n m : ℕ) (more : List ℕ) → True w S f ((env ++ n ∷ []) ++ more) → True w S f ((env ++ m ∷ []) ++ more)
    true_still (holds a) l n m more h = subst S (same_atom env n m more a l) h
    true_still (and fs) l n m more h = all_still fs l n m more h
    true_still (or fs) l n m more h = some_still fs l n m more h
    true_still (not f) l n m more h = λ t. h (true_still f l m n more t)
    true_still (imply f g) l n m more h = λ t. true_still g l.1 n m more (h (true_still f l.0 m n more t))
    true_still (forall ts f) l n m more h = each_through w (True w S f) (env ++ n ∷ []) (env ++ m ∷ []) (λ rest. true_still f l n m rest) ts more h
    true_still (exists ts f) l n m more h = some_through w (True w S f) (env ++ n ∷ []) (env ++ m ∷ []) (λ rest. true_still f l n m rest) ts more h
    true_still (equal s t) l n m more h = sym (same_object env n m more s l.0) ∙ h ∙ same_object env n m more t l.1

    all_still : (fs : Formulas) → LackAll (length env) fs → (n m : ℕ) (more : List ℕ) → AllTrue w S fs ((env ++ n ∷ []) ++ more) → AllTrue w S fs ((env ++ m ∷ []) ++ more)
    all_still no_formulas l n m more h = h
    all_still (more_formulas f fs) l n m more h = (true_still f l.0 n m more h.0, all_still fs l.1 n m more h.1)

    some_still : (fs : Formulas) → LackAll (length env) fs → (n m : ℕ) (more : List ℕ) → SomeTrue w S fs ((env ++ n ∷ []) ++ more) → SomeTrue w S fs ((env ++ m ∷ []) ++ more)
    some_still no_formulas l n m more h = absurd h
    some_still (more_formulas f fs) l n m more (inl h) = inl (true_still f l.0 n m more h)
    some_still (more_formulas f fs) l n m more (inr h) = inr (some_still fs l.1 n m more h)

  pub each_still : (f : Formula) → Lacks (length env) f → (ts : List ℕ) (n m : ℕ) → ForEach w (True w S f) ts (env ++ n ∷ []) → ForEach w (True w S f) ts (env ++ m ∷ [])
  each_still f l ts n m h =
      subst (ForEach w (True w S f) ts) (append-nil (env ++ m ∷ []))
      (each_through w (True w S f) (env ++ n ∷ []) (env ++ m ∷ []) (λ more. true_still f l n m more) ts [] (subst (ForEach w (True w S f) ts) (sym (append-nil (env ++ n ∷ []))) h))

  pub for_some_still : (f : Formula) → Lacks (length env) f → (ts : List ℕ) (n m : ℕ) → ForSome w (True w S f) ts (env ++ n ∷ []) → ForSome w (True w S f) ts (env ++ m ∷ [])
  for_some_still f l ts n m h =
      subst (ForSome w (True w S f) ts) (append-nil (env ++ m ∷ []))
      (some_through w (True w S f) (env ++ n ∷ []) (env ++ m ∷ []) (λ more. true_still f l n m more) ts [] (subst (ForSome w (True w S f) ts) (sym (append-nil (env ++ n ∷ []))) h))

-- and it speaks of the same atoms
module _ (w : Typing) (g : GroundAtom) (env : List ℕ) where
  mutual
    mentions_still : (f : Formula) → Lacks (length env) f → (n m : ℕ) (more : List ℕ) → Mentions w g f ((env ++ n ∷ []) ++ more) → Mentions w g f ((env ++ m ∷ []) ++ more)
    mentions_still (holds a) l n m more h = sym (same_atom env n m more a l) ∙ h
    mentions_still (and fs) l n m more h = some_mention_still fs l n m more h
    mentions_still (or fs) l n m more h = some_mention_still fs l n m more h
    mentions_still (not f) l n m more h = mentions_still f l n m more h
    mentions_still (imply f h) l n m more (inl k) = inl (mentions_still f l.0 n m more k)
    mentions_still (imply f h) l n m more (inr k) = inr (mentions_still h l.1 n m more k)
    mentions_still (forall ts f) l n m more h = some_through w (Mentions w g f) (env ++ n ∷ []) (env ++ m ∷ []) (λ rest. mentions_still f l n m rest) ts more h
    mentions_still (exists ts f) l n m more h = some_through w (Mentions w g f) (env ++ n ∷ []) (env ++ m ∷ []) (λ rest. mentions_still f l n m rest) ts more h
    mentions_still (equal s t) l n m more h = absurd h

    some_mention_still : (fs : Formulas) → LackAll (length env) fs → (n m : ℕ) (more : List ℕ) → SomeMention w g fs ((env ++ n ∷ []) ++ more) → SomeMention w g fs ((env ++ m ∷ []) ++ more)
    some_mention_still no_formulas l n m more h = absurd h
    some_mention_still (more_formulas f fs) l n m more (inl h) = inl (mentions_still f l.0 n m more h)
    some_mention_still (more_formulas f fs) l n m more (inr h) = inr (some_mention_still fs l.1 n m more h)

  pub for_some_mention_still : (f : Formula) → Lacks (length env) f → (ts : List ℕ) (n m : ℕ) → ForSome w (Mentions w g f) ts (env ++ n ∷ []) → ForSome w (Mentions w g f) ts (env ++ m ∷ [])
  for_some_mention_still f l ts n m h =
      subst (ForSome w (Mentions w g f) ts) (append-nil (env ++ m ∷ []))
      (some_through w (Mentions w g f) (env ++ n ∷ []) (env ++ m ∷ []) (λ more. mentions_still f l n m more) ts [] (subst (ForSome w (Mentions w g f) ts) (sym (append-nil (env ++ n ∷ []))) h))

-- an effect that does not speak of a variable makes the same atoms so
module _ (w : Typing) (b : Bool) (g : GroundAtom) (env : List ℕ) where
  mutual
    made_still : (e : Effect) → EffectLacks (length env) e → (n m : ℕ) (more : List ℕ) → IsMadeBy w b g e ((env ++ n ∷ []) ++ more) → IsMadeBy w b g e ((env ++ m ∷ []) ++ more)
    made_still (becomes c a) l n m more h = (h.0, sym (same_atom env n m more a l) ∙ h.1)
    made_still (for_each ts es) l n m more h = some_through w (IsMadeBySome w b g es) (env ++ n ∷ []) (env ++ m ∷ []) (λ rest. some_made_still es l n m rest) ts more h

    some_made_still : (es : Effects) → EffectsLack (length env) es → (n m : ℕ) (more : List ℕ) → IsMadeBySome w b g es ((env ++ n ∷ []) ++ more) → IsMadeBySome w b g es ((env ++ m ∷ []) ++ more)
    some_made_still no_effects l n m more h = absurd h
    some_made_still (more_effects e es) l n m more (inl h) = inl (made_still e l.0 n m more h)
    some_made_still (more_effects e es) l n m more (inr h) = inr (some_made_still es l.1 n m more h)

  pub for_some_made_still : (es : Effects) → EffectsLack (length env) es → (ts : List ℕ) (n m : ℕ) → ForSome w (IsMadeBySome w b g es) ts (env ++ n ∷ []) → ForSome w (IsMadeBySome w b g es) ts (env ++ m ∷ [])
  for_some_made_still es l ts n m h =
      subst (ForSome w (IsMadeBySome w b g es) ts) (append-nil (env ++ m ∷ []))
      (some_through w (IsMadeBySome w b g es) (env ++ n ∷ []) (env ++ m ∷ []) (λ more. some_made_still es l n m more) ts [] (subst (ForSome w (IsMadeBySome w b g es) ts) (sym (append-nil (env ++ n ∷ []))) h))
