-- Objects with which an atom is false that a formula needs.
use Rattle.std.proofs.Common.{◌≡◌, ◌<◌, ◌≤◌, ◌++◌, inl, inr, ℕ, zero, suc, true, List, [], ◌∷◌, length, map, Option, Some, None, is_some, is_none, slice_get, slice_index_or, option_map, IfSome, IsSomeAnd, get_or, refl, sym, ap, ◌∙◌, subst, arith}
use Rattle.std.specs.List.{All, Contains}
use Rattle.std.proofs.lemmas.List.Elements.{All-contains, All-head, All-tail, Contains-append_left, Contains-append_right, Contains-append_cases}
use Rattle.hv_lists.proofs.Contained.{none_in_empty}
use Rattle.hv_world.specs.Bindings.{GroundAtom, object_number, object_of, atom_under, ground_atom}
use Rattle.hv_world.specs.Types.{Typing}
use Rattle.hv_world.specs.Values.{Atom, Formula, Formulas, holds, and, or, not, imply, forall, exists, equal, no_formulas, more_formulas, formulas_of}
use Rattle.hv_world.specs.Views.{term_view, formula_view}
use Rattle.hv_world.specs.declared.formula.Formula as code_formula
use Rattle.hv_world.specs.declared.formula.Term as code_term
use Rattle.hv_world.specs.declared.id.ObjectId.{ObjectId}
use Rattle.hv_state.specs.Atoms.{Atoms, IsPassedOver}
use Rattle.hv_state.specs.Needed.{needed, needed_alone, of_parts}
use Rattle.hv_state.specs.Truth.{True, SomeTrue, ForEach, ForSome}
use Rattle.hv_state.specs.inside.Gaps.{denied, denied_alone, IsBound, EndsIn, IsGuide, IsGap}
use Rattle.hv_state.specs.declared.gap.Gap.{Gap}
use Rattle.hv_state.proofs.NeededLemmas.{needed_true}

-- behind what is there
pub nothing_behind : {X : Type 0} (xs : List X) → xs ++ [] ≡ xs
nothing_behind [] = refl
nothing_behind (x ∷ xs) = ap (λ ys. x ∷ ys) (nothing_behind xs)

pub one_and_more : {X : Type 0} (xs : List X) (y : X) (ys : List X) → (xs ++ y ∷ []) ++ ys ≡ xs ++ y ∷ ys
one_and_more [] y ys = refl
one_and_more (x ∷ xs) y ys = ap (λ zs. x ∷ zs) (one_and_more xs y ys)

-- a variable that has an object keeps it
there : (env : List ℕ) (v o : ℕ) → slice_get env v ≡ Some o → (more : List ℕ) → slice_index_or (env ++ more) v 0 ≡ slice_index_or env v 0
there [] v o e more = absurd cc
there (x ∷ xs) zero o e more = refl
there (x ∷ xs) (suc v) o e more = there xs v o e more

pub bound_variable : (env : List ℕ) (v : ℕ) (found : Option ObjectId) → option_map object_number found ≡ slice_get env v → is_some found ≡ true → (more : List ℕ) → slice_index_or (env ++ more) v 0 ≡ slice_index_or env v 0
bound_variable env v None e t more = absurd cc
bound_variable env v (Some o) e t more = there env v o.0 (sym e) more

-- and one that gets one with the next has it then
next_at : (env : List ℕ) (v z o : ℕ) → slice_get env v ≡ None → slice_get (env ++ z ∷ []) v ≡ Some o → (n : ℕ) (more : List ℕ) → slice_index_or ((env ++ n ∷ []) ++ more) v 0 ≡ n
next_at [] zero z o none some n more = refl
next_at [] (suc v) z o none some n more = absurd cc
next_at (x ∷ xs) zero z o none some n more = absurd cc
next_at (x ∷ xs) (suc v) z o none some n more = next_at xs v z o none some n more

pub next_variable : (env : List ℕ) (v z : ℕ) (before behind : Option ObjectId) → option_map object_number before ≡ slice_get env v → option_map object_number behind ≡ slice_get (env ++ z ∷ []) v → is_none before ≡ true → is_some behind ≡ true → (n : ℕ) (more : List ℕ) → slice_index_or ((env ++ n ∷ []) ++ more) v 0 ≡ n
next_variable env v z (Some o) behind e f none some n more = absurd cc
next_variable env v z None None e f none some n more = absurd cc
next_variable env v z None (Some o) e f none some n more = next_at env v z o.0 (sym e) (sym f) n more

-- terms that stand for objects, and behind them the next variable
all_same : (env : List ℕ) (ts : List code_term.Term) → All (λ t. IsBound env (term_view t)) ts → (more : List ℕ) → map (object_of (env ++ more)) (map term_view ts) ≡ map (object_of env) (map term_view ts)
all_same env [] all more = refl
all_same env (t ∷ ts) all more =
    let first : object_of (env ++ more) (term_view t) ≡ object_of env (term_view t) = All-head (λ u. IsBound env (term_view u)) t ts all more in
    let others : map (object_of (env ++ more)) (map term_view ts) ≡ map (object_of env) (map term_view ts) = all_same env ts (All-tail (λ u. IsBound env (term_view u)) t ts all) more in
    λ i. first i ∷ others i

map_push_terms : (env : List ℕ) (ts : List code_term.Term) (t : code_term.Term) → map (object_of env) (map term_view (ts ++ t ∷ [])) ≡ map (object_of env) (map term_view ts) ++ object_of env (term_view t) ∷ []
map_push_terms env [] t = refl
map_push_terms env (u ∷ ts) t = ap (λ xs. object_of env (term_view u) ∷ xs) (map_push_terms env ts t)

pub ends : (env : List ℕ) (terms before : List code_term.Term) (last : code_term.Term) → terms ≡ before ++ last ∷ [] → All (λ t. IsBound env (term_view t)) before → ((n : ℕ) (more : List ℕ) → object_of ((env ++ n ∷ []) ++ more) (term_view last) ≡ n)
    → (os : List ℕ) × ((n : ℕ) (more : List ℕ) → map (object_of ((env ++ n ∷ []) ++ more)) (map term_view terms) ≡ os ++ n ∷ [])
ends env terms before last e all next = (map (object_of env) (map term_view before), so)
  where
    so : (n : ℕ) (more : List ℕ) → map (object_of ((env ++ n ∷ []) ++ more)) (map term_view terms) ≡ map (object_of env) (map term_view before) ++ n ∷ []
    so n more =
        let inner = (env ++ n ∷ []) ++ more in
        let split : map (object_of inner) (map term_view terms) ≡ map (object_of inner) (map term_view before) ++ object_of inner (term_view last) ∷ [] = ap (λ ts. map (object_of inner) (map term_view ts)) e ∙ map_push_terms inner before last in
        let firsts : map (object_of inner) (map term_view before) ≡ map (object_of env) (map term_view before) = subst (λ xs. map (object_of xs) (map term_view before) ≡ map (object_of env) (map term_view before)) (sym (one_and_more env n more)) (all_same env before all (n ∷ more)) in
        let at : object_of inner (term_view last) ≡ n = next n more in
        split ∙ (λ i. firsts i ++ at i ∷ [])

-- an atom of a part
pub alone_is_needed : (f : Formula) (a : Atom) → Contains (needed_alone f) a → Contains (needed f) a
alone_is_needed (holds b) a m = m
alone_is_needed (and fs) a m = absurd (none_in_empty a m)
alone_is_needed (or fs) a m = m
alone_is_needed (not f) a m = m
alone_is_needed (imply f g) a m = m
alone_is_needed (forall ts f) a m = m
alone_is_needed (exists ts f) a m = m
alone_is_needed (equal s t) a m = m

pub alone_is_denied : (f : Formula) (a : Atom) → Contains (denied_alone f) a → Contains (denied f) a
alone_is_denied (holds b) a m = m
alone_is_denied (and fs) a m = m
alone_is_denied (or fs) a m = absurd (none_in_empty a m)
alone_is_denied (not f) a m = m
alone_is_denied (imply f g) a m = absurd (none_in_empty a m)
alone_is_denied (forall ts f) a m = m
alone_is_denied (exists ts f) a m = m
alone_is_denied (equal s t) a m = m

pub part_has : (alone : Formula → List Atom) (xs : List code_formula.Formula) (k : ℕ) (x : code_formula.Formula) → k < length xs → x ≡ get_or xs k x → (a : Atom) → Contains (alone (formula_view x)) a → Contains (of_parts alone (formulas_of (map formula_view xs))) a
part_has alone [] k x lt e a m = absurd (omega arith)
part_has alone (y ∷ ys) zero x lt e a m = Contains-append_left (alone (formula_view y)) (of_parts alone (formulas_of (map formula_view ys))) a (subst (λ z. Contains (alone (formula_view z)) a) e m)
part_has alone (y ∷ ys) (suc k) x lt e a m = Contains-append_right (alone (formula_view y)) (of_parts alone (formulas_of (map formula_view ys))) a (part_has alone ys k x (omega arith) e a m)

-- what an atom decides that is false
module _ (w : Typing) (S : Atoms) (env : List ℕ) (a : Atom) (lacks : S (atom_under env a) → ⊥) where
  pub not_true : (f : Formula) → Contains (needed f) a → True w S f env → ⊥
  not_true f m h = lacks (All-contains (λ b. S (atom_under env b)) (needed f) a (needed_true w S env f h) m)

  alone_true : (f : Formula) → Contains (denied_alone f) a → True w S f env
  alone_true (holds b) m = absurd (none_in_empty a m)
  alone_true (and fs) m = absurd (none_in_empty a m)
  alone_true (or fs) m = absurd (none_in_empty a m)
  alone_true (not f) m = not_true f m
  alone_true (imply f g) m = absurd (none_in_empty a m)
  alone_true (forall ts f) m = absurd (none_in_empty a m)
  alone_true (exists ts f) m = absurd (none_in_empty a m)
  alone_true (equal s t) m = absurd (none_in_empty a m)

  some_true : (fs : Formulas) → Contains (of_parts denied_alone fs) a → SomeTrue w S fs env
  some_true no_formulas m = absurd (none_in_empty a m)
  some_true (more_formulas f fs) m = elim (Contains-append_cases (denied_alone f) (of_parts denied_alone fs) a m) [ inl first ↦ inl (alone_true f first) | inr others ↦ inr (some_true fs others) ]

  pub is_true : (f : Formula) → Contains (denied f) a → True w S f env
  is_true (holds b) m = absurd (none_in_empty a m)
  is_true (and fs) m = absurd (none_in_empty a m)
  is_true (or fs) m = some_true fs m
  is_true (not f) m = not_true f m
  is_true (imply f g) m = λ h. absurd (not_true f m h)
  is_true (forall ts f) m = absurd (none_in_empty a m)
  is_true (exists ts f) m = absurd (none_in_empty a m)
  is_true (equal s t) m = absurd (none_in_empty a m)

-- for all choices, or none
pub each_where : (w : Typing) (P : List ℕ → Type 0) (ts env : List ℕ) → ((more : List ℕ) → P (env ++ more)) → ForEach w P ts env
each_where w P [] env h = subst P (nothing_behind env) (h [])
each_where w P (t ∷ ts) env h = λ o of. each_where w P ts (env ++ o ∷ []) (λ more. subst P (sym (one_and_more env o more)) (h (o ∷ more)))

pub none_where : (w : Typing) (P : List ℕ → Type 0) (ts env : List ℕ) → ((more : List ℕ) → P (env ++ more) → ⊥) → ForSome w P ts env → ⊥
none_where w P [] env h p = h [] (subst P (sym (nothing_behind env)) p)
none_where w P (t ∷ ts) env h (o, of, rest) = none_where w P ts (env ++ o ∷ []) (λ more p. h (o ∷ more) (subst P (one_and_more env o more) p)) rest

-- an atom that ends in the next variable is false with the numbers that are passed over
pub behind_object : (S : Atoms) (env : List ℕ) (a : Atom) (o until : ℕ) (read : GroundAtom) → EndsIn env a → read ≡ atom_under (env ++ o ∷ []) a → IsPassedOver S read until → (n : ℕ) → o ≤ n → n < until → (more : List ℕ) → S (atom_under ((env ++ n ∷ []) ++ more) a) → ⊥
behind_object S env a o until read (os, ends) is passed n le lt more h =
    let predicate : a.predicate ≡ read.predicate = sym (ap (λ (g : GroundAtom). g.predicate) is) in
    let objects : read.objects ≡ os ++ o ∷ [] = ap (λ (g : GroundAtom). g.objects) is ∙ ap (λ e. map (object_of e) a.terms) (sym (nothing_behind (env ++ o ∷ []))) ∙ ends o [] in
    passed os o n objects le lt (subst S (λ i. ground_atom (predicate i) (ends n more i)) h)

-- a formula is true, or not, with an object that is passed over
module _ {R : Type 0} (view : R → Atom) (guide : Option R) (w : Typing) (S : Atoms) (env : List ℕ) (f : Formula) (gap : Gap) (in_gap : IsGap S env (option_map view guide) gap) (n : ℕ) (from : gap.from ≤ n) (under : n < gap.until) where
  pub passed_each : IfSome guide (λ a. IsGuide env (denied f) (view a)) → (ts : List ℕ) → ForEach w (True w S f) ts (env ++ n ∷ [])
  passed_each is ts = by guide is (in_gap n from under)
    where
      by : (o : Option R) → IfSome o (λ a. IsGuide env (denied f) (view a)) → IsSomeAnd (option_map view o) (λ a. (more : List ℕ) → S (atom_under ((env ++ n ∷ []) ++ more) a) → ⊥) → ForEach w (True w S f) ts (env ++ n ∷ [])
      by None h lacks = absurd lacks
      by (Some a) h lacks = each_where w (True w S f) ts (env ++ n ∷ []) (λ more. is_true w S ((env ++ n ∷ []) ++ more) (view a) (lacks more) f h.1)

  pub passed_none : IfSome guide (λ a. IsGuide env (needed f) (view a)) → (ts : List ℕ) → ForSome w (True w S f) ts (env ++ n ∷ []) → ⊥
  passed_none is ts = by guide is (in_gap n from under)
    where
      by : (o : Option R) → IfSome o (λ a. IsGuide env (needed f) (view a)) → IsSomeAnd (option_map view o) (λ a. (more : List ℕ) → S (atom_under ((env ++ n ∷ []) ++ more) a) → ⊥) → ForSome w (True w S f) ts (env ++ n ∷ []) → ⊥
      by None h lacks = absurd lacks
      by (Some a) h lacks = none_where w (True w S f) ts (env ++ n ∷ []) (λ more. not_true w S ((env ++ n ∷ []) ++ more) (view a) (lacks more) f h.1)
