-- Tests of lists, one place after another.
use Rattle.std.proofs.Common.{◌≡◌, ℕ, zero, suc, ◌+◌, ◌<◌, ◌≤◌, Bool, true, false, ◌&&◌, List, [], ◌∷◌, length, map, drop, nat_eq, get_or, refl, sym, ap, ◌∙◌, arith, ◌⊎◌, inl, inr, if◌then◌else◌, Option, eqb-true, eq-eqb, slice_index, Contains}
use Rattle.std.specs.Prelude.{◌↔◌}
use Rattle.std.proofs.lemmas.List.{get_or_default}
use Rattle.hv_world.specs.Values.{Term, Subtask}
use Rattle.hv_world.specs.Bindings.{object_number, object_of}
use Rattle.hv_world.specs.Views.{term_view, subtask_view, constraint_view}
use Rattle.hv_world.specs.declared.id.ObjectId.{ObjectId}
use Rattle.hv_world.specs.declared.formula.Term as code_term
use Rattle.hv_world.specs.declared.formula.Subtask as code_subtask
use Rattle.hv_world.specs.declared.formula.Constraint as code_constraint
use Rattle.hv_match.specs.inside.Puzzles.{Work, child_at, has, are_in, same_values, does, all_do, holds, all_hold}

-- the list from a place on, seen through f
pub from_place : {X Y : Type 0} (f : X → Y) (xs : List X) (i : ℕ) (d : X) → i < length xs → drop i (map f xs) ≡ f (get_or xs i d) ∷ drop (i + 1) (map f xs)
from_place f [] i d h = absurd (omega arith)
from_place f (x ∷ xs) zero d h = refl
from_place f (x ∷ xs) (suc i) d h = let e : suc i + 1 ≡ suc (i + 1) = omega arith in rw e (from_place f xs i d (omega arith))

pub from_here : {X : Type 0} (xs : List X) (i : ℕ) (d : X) → i < length xs → drop i xs ≡ get_or xs i d ∷ drop (i + 1) xs
from_here [] i d h = absurd (omega arith)
from_here (x ∷ xs) zero d h = refl
from_here (x ∷ xs) (suc i) d h = let e : suc i + 1 ≡ suc (i + 1) = omega arith in rw e (from_here xs i d (omega arith))

pub at_end : {X Y : Type 0} (f : X → Y) (xs : List X) (i : ℕ) → length xs ≤ i → drop i (map f xs) ≡ []
at_end f [] zero h = refl
at_end f [] (suc i) h = refl
at_end f (x ∷ xs) zero h = absurd (omega arith)
at_end f (x ∷ xs) (suc i) h = at_end f xs i (omega arith)

pub ends : {X : Type 0} (xs : List X) (i : ℕ) → length xs ≤ i → drop i xs ≡ []
ends [] zero h = refl
ends [] (suc i) h = refl
ends (x ∷ xs) zero h = absurd (omega arith)
ends (x ∷ xs) (suc i) h = ends xs i (omega arith)

-- a test of both that is over
pub false_first : (a b : Bool) → a ≡ false → (a && b) ≡ false
false_first true b e = cc
false_first false b e = refl

pub true_first : (a b : Bool) → a ≡ true → (a && b) ≡ b
true_first true b e = refl
true_first false b e = cc

pub differ : (a b : ℕ) → (a ≡ b → ⊥) → nat_eq a b ≡ false
differ a b n = go (nat_eq a b) refl
  where
    go : (t : Bool) → nat_eq a b ≡ t → t ≡ false
    go true e = absurd (n (eqb-true a b e))
    go false e = refl

pub left_over : {X Y : Type 0} (f : X → Y) (xs : List X) (i : ℕ) → i ≤ length xs → length (drop i (map f xs)) + i ≡ length xs
left_over f [] zero h = refl
left_over f [] (suc i) h = absurd (omega arith)
left_over f (x ∷ xs) zero h = let r = left_over f xs zero (omega arith) in omega (arith, r)
left_over f (x ∷ xs) (suc i) h = let r = left_over f xs i (omega arith) in omega (arith, r)

pub left : {X : Type 0} (xs : List X) (i : ℕ) → i ≤ length xs → length (drop i xs) + i ≡ length xs
left [] zero h = refl
left [] (suc i) h = absurd (omega arith)
left (x ∷ xs) zero h = omega arith
left (x ∷ xs) (suc i) h = let r = left xs i (omega arith) in omega (arith, r)

-- the objects of terms

module _ (B : List ℕ) (ts : List code_term.Term) (os : List ObjectId) (i : ℕ) where
  abbrev alike : ℕ → Bool
  alike j = same_values B (drop j (map term_view ts)) (drop j (map object_number os))

  alike_step : (d : code_term.Term) (e : ObjectId) → i < length ts → i < length os → alike i ≡ (nat_eq (object_of B (term_view (get_or ts i d))) (get_or os i e).0 && alike (i + 1))
  alike_step d e h k = rw (from_place term_view ts i d h, from_place object_number os i e k) refl

  pub alike_no : (d : code_term.Term) (e : ObjectId) → i < length ts → i < length os → (n : ℕ) → n ≡ object_of B (term_view (get_or ts i d)) → (n ≡ (get_or os i e).0 → ⊥) → alike i ≡ false
  alike_no d e h k n f t = alike_step d e h k ∙ false_first (nat_eq (object_of B (term_view (get_or ts i d))) (get_or os i e).0) (alike (i + 1)) (differ (object_of B (term_view (get_or ts i d))) (get_or os i e).0 (λ g. t (f ∙ g)))

  pub alike_yes : (d : code_term.Term) (e : ObjectId) → i < length ts → i < length os → (n : ℕ) → n ≡ object_of B (term_view (get_or ts i d)) → n ≡ (get_or os i e).0 → alike i ≡ alike (i + 1)
  alike_yes d e h k n f t = alike_step d e h k ∙ true_first (nat_eq (object_of B (term_view (get_or ts i d))) (get_or os i e).0) (alike (i + 1)) (eq-eqb (object_of B (term_view (get_or ts i d))) (get_or os i e).0 (sym f ∙ t))

  pub alike_end : i ≤ length ts → i ≤ length os → (length ts ≤ i) ⊎ (length os ≤ i) → alike i ≡ nat_eq (length ts) (length os)
  alike_end h k (inl e) = rw (at_end term_view ts i e) (go (drop i (map object_number os)) (left_over object_number os i k))
    where
      go : (xs : List ℕ) → length xs + i ≡ length os → same_values B [] xs ≡ nat_eq (length ts) (length os)
      go [] l = sym (eq-eqb (length ts) (length os) (omega (arith, l)))
      go (x ∷ xs) l = sym (differ (length ts) (length os) (λ g. omega (arith, l, g)))
  alike_end h k (inr e) = rw (at_end object_number os i e) (go (drop i (map term_view ts)) (left_over term_view ts i h))
    where
      go : (xs : List Term) → length xs + i ≡ length ts → same_values B xs [] ≡ nat_eq (length ts) (length os)
      go [] l = sym (eq-eqb (length ts) (length os) (omega (arith, l)))
      go (x ∷ xs) l = sym (differ (length ts) (length os) (λ g. omega (arith, l, g)))

-- constraints

module _ (B : List ℕ) (cs : List code_constraint.Constraint) (i : ℕ) where
  abbrev held : ℕ → Bool
  held j = all_hold B (drop j (map constraint_view cs))

  pub held_no : (d : code_constraint.Constraint) → i < length cs → (b : Bool) → b ≡ holds B (constraint_view (get_or cs i d)) → b ≡ false → held i ≡ false
  held_no d h b f t = rw (from_place constraint_view cs i d h) (false_first (holds B (constraint_view (get_or cs i d))) (held (i + 1)) (sym f ∙ t))

  pub held_yes : (d : code_constraint.Constraint) → i < length cs → (b : Bool) → b ≡ holds B (constraint_view (get_or cs i d)) → b ≡ true → held i ≡ held (i + 1)
  held_yes d h b f t = rw (from_place constraint_view cs i d h) (true_first (holds B (constraint_view (get_or cs i d))) (held (i + 1)) (sym f ∙ t))

-- among others

pub has_at : (x : ℕ) (xs : List ℕ) (i : ℕ) → i < length xs → slice_index xs i ≡ x → has x xs ≡ true
has_at x [] i h e = absurd (omega arith)
has_at x (y ∷ xs) zero h e = go (nat_eq y x) (eq-eqb y x e)
  where
    go : (b : Bool) → b ≡ true → (if b then true else has x xs) ≡ true
    go true e = refl
    go false e = cc
has_at x (y ∷ xs) (suc i) h e = go (nat_eq y x) (has_at x xs i (omega arith) e)
  where
    go : (b : Bool) → has x xs ≡ true → (if b then true else has x xs) ≡ true
    go true r = refl
    go false r = r

pub has_not : (x : ℕ) (xs : List ℕ) → ((i : ℕ) → i < length xs → slice_index xs i ≡ x → ⊥) → has x xs ≡ false
has_not x [] h = refl
has_not x (y ∷ xs) h = go (nat_eq y x) refl (has_not x xs (λ i lt e. h (suc i) (omega arith) e))
  where
    go : (b : Bool) → nat_eq y x ≡ b → has x xs ≡ false → (if b then true else has x xs) ≡ false
    go true e r = absurd (h 0 (omega arith) (eqb-true y x e))
    go false e r = r

pub has_is : (x : ℕ) (xs : List ℕ) (b : Bool) → (b ≡ true) ↔ Contains xs x → b ≡ has x xs
has_is x xs true d = let (i, lt, e) = d.0 refl in sym (has_at x xs i lt (get_or_default xs i 0 x lt ∙ e))
has_is x xs false d = sym (has_not x xs (λ i lt e. absurd (let f : false ≡ true = d.1 (i, lt, get_or_default xs i x 0 lt ∙ e) in cc)))

module _ {R : Type 0} (f : R → List ℕ) (vs : List ℕ) (rs : List R) (i : ℕ) where
  abbrev allowed : ℕ → Bool
  allowed j = are_in (drop j vs) (drop j (map f rs))

  pub allowed_no : (d : R) → i < length vs → i < length rs → (b : Bool) → b ≡ has (get_or vs i 0) (f (get_or rs i d)) → b ≡ false → allowed i ≡ false
  allowed_no d h k b is t = rw (from_here vs i 0 h, from_place f rs i d k) (false_first (has (get_or vs i 0) (f (get_or rs i d))) (allowed (i + 1)) (sym is ∙ t))

  pub allowed_yes : (d : R) → i < length vs → i < length rs → (b : Bool) → b ≡ has (get_or vs i 0) (f (get_or rs i d)) → b ≡ true → allowed i ≡ allowed (i + 1)
  allowed_yes d h k b is t = rw (from_here vs i 0 h, from_place f rs i d k) (true_first (has (get_or vs i 0) (f (get_or rs i d))) (allowed (i + 1)) (sym is ∙ t))

  pub allowed_end : i ≤ length vs → i ≤ length rs → (length vs ≤ i) ⊎ (length rs ≤ i) → allowed i ≡ nat_eq (length vs) (length rs)
  allowed_end h k (inl e) = rw (ends vs i e) (go (drop i (map f rs)) (left_over f rs i k))
    where
      go : (xs : List (List ℕ)) → length xs + i ≡ length rs → are_in [] xs ≡ nat_eq (length vs) (length rs)
      go [] l = sym (eq-eqb (length vs) (length rs) (omega (arith, l)))
      go (x ∷ xs) l = sym (differ (length vs) (length rs) (λ g. omega (arith, l, g)))
  allowed_end h k (inr e) = rw (at_end f rs i e) (go (drop i vs) (left vs i h))
    where
      go : (xs : List ℕ) → length xs + i ≡ length vs → are_in xs [] ≡ nat_eq (length vs) (length rs)
      go [] l = sym (eq-eqb (length vs) (length rs) (omega (arith, l)))
      go (x ∷ xs) l = sym (differ (length vs) (length rs) (λ g. omega (arith, l, g)))

-- children that do what subtasks say

module _ (cs : List (Option Work)) (B : List ℕ) (xs : List ℕ) (ss : List code_subtask.Subtask) (i : ℕ) where
  abbrev done : ℕ → Bool
  done j = all_do cs B (drop j xs) (drop j (map subtask_view ss))

  pub done_no : (d : code_subtask.Subtask) → i < length xs → i < length ss → (b : Bool) → b ≡ does (child_at cs (get_or xs i 0)) B (subtask_view (get_or ss i d)) → b ≡ false → done i ≡ false
  done_no d h k b f t = rw (from_here xs i 0 h, from_place subtask_view ss i d k) (false_first (does (child_at cs (get_or xs i 0)) B (subtask_view (get_or ss i d))) (done (i + 1)) (sym f ∙ t))

  pub done_yes : (d : code_subtask.Subtask) → i < length xs → i < length ss → (b : Bool) → b ≡ does (child_at cs (get_or xs i 0)) B (subtask_view (get_or ss i d)) → b ≡ true → done i ≡ done (i + 1)
  done_yes d h k b f t = rw (from_here xs i 0 h, from_place subtask_view ss i d k) (true_first (does (child_at cs (get_or xs i 0)) B (subtask_view (get_or ss i d))) (done (i + 1)) (sym f ∙ t))

  pub done_end : i ≤ length xs → i ≤ length ss → (length xs ≤ i) ⊎ (length ss ≤ i) → done i ≡ nat_eq (length xs) (length ss)
  done_end h k (inl e) = rw (ends xs i e) (go (drop i (map subtask_view ss)) (left_over subtask_view ss i k))
    where
      go : (ys : List Subtask) → length ys + i ≡ length ss → all_do cs B [] ys ≡ nat_eq (length xs) (length ss)
      go [] l = sym (eq-eqb (length xs) (length ss) (omega (arith, l)))
      go (y ∷ ys) l = sym (differ (length xs) (length ss) (λ g. omega (arith, l, g)))
  done_end h k (inr e) = rw (at_end subtask_view ss i e) (go (drop i xs) (left xs i h))
    where
      go : (ys : List ℕ) → length ys + i ≡ length xs → all_do cs B ys [] ≡ nat_eq (length xs) (length ss)
      go [] l = sym (eq-eqb (length xs) (length ss) (omega (arith, l)))
      go (y ∷ ys) l = sym (differ (length xs) (length ss) (λ g. omega (arith, l, g)))

-- objects that cannot be those of terms

pub differ_at : (B : List ℕ) (ts : List code_term.Term) (os : List ObjectId) (i : ℕ) (d : code_term.Term) (e : ObjectId) → i < length ts → i < length os
    → map (object_of B) (map term_view ts) ≡ map object_number os → object_of B (term_view (get_or ts i d)) ≡ (get_or os i e).0
differ_at B [] os i d e h k m = absurd (omega arith)
differ_at B (t ∷ ts) [] i d e h k m = absurd (omega arith)
differ_at B (t ∷ ts) (o ∷ os) zero d e h k m = cc
differ_at B (t ∷ ts) (o ∷ os) (suc i) d e h k m = let n : map (object_of B) (map term_view ts) ≡ map object_number os = cc in differ_at B ts os i d e (omega arith) (omega arith) n

pub same_length : (B : List ℕ) (ts : List code_term.Term) (os : List ObjectId) → map (object_of B) (map term_view ts) ≡ map object_number os → length ts ≡ length os
same_length B [] [] m = refl
same_length B [] (o ∷ os) m = cc
same_length B (t ∷ ts) [] m = cc
same_length B (t ∷ ts) (o ∷ os) m = let n : map (object_of B) (map term_view ts) ≡ map object_number os = cc in ap suc (same_length B ts os n)

-- choices of a parameter

pub range_choice : (os : List ObjectId) (i : ℕ) (d : ObjectId) → i < length os → drop i (map object_number os) ≡ (get_or os i d).0 ∷ drop (i + 1) (map object_number os)
range_choice os i d h = from_place object_number os i d h
