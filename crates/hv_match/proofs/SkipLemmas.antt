-- Objects of a parameter that need not be tried.
use Rattle.std.proofs.Common.{◌≡◌, ℕ, zero, suc, ◌+◌, ◌-◌, ◌<◌, ◌≤◌, Bool, true, false, List, [], ◌∷◌, ◌++◌, length, map, take, drop, get_or, slice_get, refl, sym, ap, subst, ◌∙◌, arith, Option, Some, None}
use Rattle.std.proofs.lemmas.List.{at_drop_more}
use Rattle.hv_world.specs.Bindings.{ground_atom, object_of}
use Rattle.hv_world.specs.Values.{Atom}
use Rattle.hv_world.specs.Views.{term_view}
use Rattle.hv_world.specs.declared.formula.Term as code_term
use Rattle.hv_state.specs.Atoms.{IsPassedOver}
use Rattle.hv_state.specs.Ever.{is_listed}
use Rattle.hv_match.specs.inside.Puzzles.{Puzzle, GoesOn, bound, look, source_of, objects_of, child_at, CannotBeTrue, NeverWith, NothingWith, options, range_of, pick}
use Rattle.hv_match.specs.inside.Search.{Search, ArePassed, NothingBegins}
use Rattle.hv_match.proofs.FirstPlaces.{get_left}

-- what goes on from more choices goes on from fewer
looked : (pz : Puzzle) (p xs : List ℕ) (s : Option (Option ℕ × ℕ)) (o : ℕ) → look pz p s ≡ Some o → look pz (p ++ xs) s ≡ Some o
looked pz p xs None o e = absurd cc
looked pz p xs (Some (None, k)) o e = e
looked pz p xs (Some (Some j, k)) o e = by (slice_get p j) refl e
  where
    by : (found : Option ℕ) → slice_get p j ≡ found → elim found [ None ↦ None | Some x ↦ slice_get (objects_of (child_at pz.children x)) k ] ≡ Some o → look pz (p ++ xs) (Some (Some j, k)) ≡ Some o
    by None is f = absurd cc
    by (Some x) is f = subst (λ r. elim r [ None ↦ None | Some y ↦ slice_get (objects_of (child_at pz.children y)) k ] ≡ Some o) (sym (get_left p xs j x is)) f

pub goes_on_before : (pz : Puzzle) (p xs B : List ℕ) → GoesOn pz (p ++ xs) B → GoesOn pz p B
goes_on_before pz p xs B g = record {
  agrees = λ v o e. g.agrees v o (looked pz p xs (source_of pz.task pz.subtasks v) o e);
  chosen = λ v o e. g.chosen v o (get_left p xs (length pz.subtasks + v) o e);
  typed = g.typed;
}

-- the last choice
pub last_chosen : (p : List ℕ) (n x : ℕ) → n ≡ length p → slice_get (p ++ x ∷ []) n ≡ Some x
last_chosen [] zero x e = refl
last_chosen [] (suc n) x e = absurd (omega (arith, e))
last_chosen (y ∷ p) zero x e = absurd (omega (arith, e))
last_chosen (y ∷ p) (suc n) x e = last_chosen p n x (omega (arith, e))

-- an atom that is never true with an object chosen
pub never_chosen : (pz : Puzzle) (p : List ℕ) (v x from upto : ℕ) (a : Atom) → length pz.subtasks + v ≡ length p → NeverWith pz p v from upto a → from ≤ x → x < upto → CannotBeTrue pz (p ++ x ∷ []) a
never_chosen pz p v x from upto a level never le lt = λ B g. never x le lt B (goes_on_before pz p (x ∷ []) B g) (g.chosen v x (last_chosen p (length pz.subtasks + v) x level))

-- an atom that ends in a parameter
terms_push : (B : List ℕ) (ts : List code_term.Term) (t : code_term.Term) → map (object_of B) (map term_view (ts ++ t ∷ [])) ≡ map (object_of B) (map term_view ts) ++ object_of B (term_view t) ∷ []
terms_push B [] t = refl
terms_push B (u ∷ ts) t = ap (λ os. object_of B (term_view u) ∷ os) (terms_push B ts t)

not_listed : (b : Bool) → (b ≡ true → ⊥) → b ≡ false
not_listed true h = absurd (h refl)
not_listed false h = refl

pub never_with : (rows : List (List ℕ)) (predicate : ℕ) (terms before : List code_term.Term) (last : code_term.Term) (os : List ℕ) (from o upto : ℕ) (B : List ℕ) → terms ≡ before ++ last ∷ [] → length before < 3
    → map (object_of B) (map term_view before) ≡ os → object_of B (term_view last) ≡ o
    → IsPassedOver (λ g. is_listed rows g ≡ true) (ground_atom predicate (os ++ from ∷ [])) upto → from ≤ o → o < upto
    → is_listed rows (ground_atom predicate (map (object_of B) (map term_view terms))) ≡ false
never_with rows predicate terms before last os from o upto B e few known is passed le lt =
    let objects : map (object_of B) (map term_view terms) ≡ os ++ o ∷ [] = ap (λ ts. map (object_of B) (map term_view ts)) e ∙ terms_push B before last ∙ (λ i. known i ++ is i ∷ []) in
    not_listed _ (λ t. passed os from o refl le lt (subst (λ xs. is_listed rows (ground_atom predicate xs) ≡ true) objects t))

-- numbers of which the first are written
written : (into : List ℕ) (from : ℕ) → length into < 3 → take (length into + 1) (into ++ drop (length into) (from ∷ from ∷ from ∷ [])) ≡ into ++ from ∷ []
written [] from few = refl
written (x ∷ []) from few = refl
written (x ∷ y ∷ []) from few = refl
written (x ∷ y ∷ z ∷ into) from few = absurd (omega (arith, few))

pub numbers_written : (into : List ℕ) (n from : ℕ) → length into ≡ n → n < 3 → take (n + 1) (into ++ drop n (from ∷ from ∷ from ∷ [])) ≡ into ++ from ∷ []
numbers_written into n from size few = subst (λ k. take (k + 1) (into ++ drop k (from ∷ from ∷ from ∷ [])) ≡ into ++ from ∷ []) size (written into from (omega (arith, size, few)))

-- what a parameter that nothing binds may be chosen from
nothing_at : {X : Type 0} (xs : List X) (n : ℕ) → length xs ≤ n → slice_get xs n ≡ None
nothing_at [] n le = refl
nothing_at (x ∷ xs) zero le = absurd (omega (arith, le))
nothing_at (x ∷ xs) (suc n) le = nothing_at xs n (omega (arith, le))

pub free_options : (pz : Puzzle) (q : List ℕ) (v : ℕ) → length pz.subtasks + v ≡ length q → bound pz q v ≡ None → options pz q ≡ range_of pz v
free_options pz q v level free =
    let none : slice_get pz.subtasks (length q) ≡ None = nothing_at pz.subtasks (length q) (omega (arith, level)) in
    let same : length q - length pz.subtasks ≡ v = omega (arith, level) in
    let read : options pz q ≡ pick (bound pz q (length q - length pz.subtasks)) (range_of pz (length q - length pz.subtasks)) = rw (options, none) refl in
    read ∙ ap (λ k. pick (bound pz q k) (range_of pz k)) same ∙ ap (λ b. pick b (range_of pz v)) free

-- choices of a parameter with which there is nothing
pub passed_choices : (s : Search) (q os : List ℕ) (from upto : ℕ) → s.options q ≡ os → NothingWith s q os from upto → ArePassed s q from upto
passed_choices s q os from upto is nothing = subst (λ xs. (from ≤ upto) × ((i : ℕ) → from ≤ i → i < upto → (x : ℕ) × (drop i xs ≡ x ∷ drop (i + 1) xs) × NothingBegins s (q ++ x ∷ []))) (sym is) (nothing.0, λ i le lt. (let (within, none) = nothing.1 i le lt in (get_or os i 0, at_drop_more (λ xs. xs) os i 0 within, none)))
