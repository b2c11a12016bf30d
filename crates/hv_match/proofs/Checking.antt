-- The tests of children and objects that are given say that they are a candidate.
use Rattle.std.proofs.Common.{◌≡◌, ◌≢◌, ℕ, zero, suc, ◌+◌, ◌<◌, ◌≤◌, Bool, true, false, List, [], ◌∷◌, ◌++◌, length, map, take, drop, set, get_or, slice_get, slice_index, refl, sym, ap, ◌∙◌, arith, subst, ◌⊎◌, inl, inr, Option, Some, None, All, Contains}
use Rattle.std.proofs.lemmas.List.{get_or-set_other, get_or-set_same, get_or_default, get_or-take, length-set, length-take, append-nil, take_all}
use Rattle.std.proofs.lemmas.List.Elements.{All-nil, Contains-push, Contains-push_cases, Contains-append_left, All-push}
use Rattle.std.proofs.lemmas.List.Quantifiers.{all_pairs_push}
use Rattle.std.specs.List.{AllZip}
use Rattle.hv_lists.proofs.Places.{take_one}
use Rattle.hv_lists.proofs.Pairs.{zip_end}
use Rattle.hv_world.specs.Bindings.{object_of}
use Rattle.hv_world.specs.Values.{object, Subtask, subtask}
use Rattle.hv_world.specs.Alike.{subtask_instance}
use Rattle.hv_world.specs.Worlds.{World, Method, terms_of}
use Rattle.hv_world.specs.Groundings.{AreOf}
use Rattle.hv_match.specs.Candidates.{Does, IsCandidate}
use Rattle.hv_match.specs.inside.Checks.{AreAllPlaces, AreMarked}
use Rattle.hv_match.specs.inside.Puzzles.{Work, work, same_values, does, all_hold}
use Rattle.hv_match.specs.inside.Ranges.{as_subtask}
use Rattle.hv_match.proofs.Bridge.{same_objects, holds_to, holds_from}
use Rattle.hv_match.proofs.Fitting.{values_from, values_to, does_from, does_to}
use Rattle.hv_match.proofs.Keys.{instances_are}

-- tests

pub no : {P : Type 0} → (P → ⊥) → (false ≡ true → P) × (P → false ≡ true)
no n = (λ e. absurd (let f : false ≡ true = e in cc), λ p. absurd (n p))

pub none : {b : Bool} → b ≡ true → b ≡ false → ⊥
none e f = cc

-- marks

inside : (xs : List Bool) (x : ℕ) → get_or xs x true ≡ false → x < length xs
inside [] x e = cc
inside (b ∷ xs) zero e = omega arith
inside (b ∷ xs) (suc x) e = let r = inside xs x e in omega arith

same_place : (x y : ℕ) → (y ≡ x) ⊎ (y ≢ x)
same_place zero zero = inl refl
same_place zero (suc y) = inr (λ e. cc)
same_place (suc x) zero = inr (λ e. cc)
same_place (suc x) (suc y) = elim (same_place x y) [ inl e ↦ inl (ap suc e) | inr n ↦ inr (λ e. n (let f : y ≡ x = omega arith in f)) ]

pub none_marked : (marks : List Bool) → ((x : ℕ) → get_or marks x false ≡ false) → AreMarked marks []
none_marked marks h = record {
  once = λ i j d lt within. absurd (omega arith);
  within = All-nil _;
  marked = λ x e. absurd (let f = h x in let g : true ≡ false = sym e ∙ f in cc);
  unmarked = λ x e c. absurd (omega (arith, c.1));
}

pub one_marked : (marks : List Bool) (M : List ℕ) (x : ℕ) → AreMarked marks M → get_or marks x true ≡ false → AreMarked (set marks x true) (M ++ x ∷ [])
one_marked marks M x a h = record {
  once = all_pairs_push ◌≢◌ M x a.once (λ k d lt e. a.unmarked x h (k, lt, get_or_default M k x d lt ∙ e));
  within = All-push (λ y. y < length (set marks x true)) M x (λ i d lt. (let r = a.within i d lt in omega (arith, r, length-set marks x true))) (omega (arith, lt, length-set marks x true));
  marked = λ y e. marked y e (same_place x y);
  unmarked = λ y e c. unmarked y e c (same_place x y);
}
  where
    lt : x < length marks
    lt = inside marks x h

    marked : (y : ℕ) → get_or (set marks x true) y false ≡ true → (y ≡ x) ⊎ (y ≢ x) → Contains (M ++ x ∷ []) y
    marked y e (inl f) = subst (λ z. Contains (M ++ x ∷ []) z) (sym f) (Contains-push M x)
    marked y e (inr n) = Contains-append_left M (x ∷ []) y (a.marked y (sym (get_or-set_other marks x y true false n) ∙ e))

    unmarked : (y : ℕ) → get_or (set marks x true) y true ≡ false → Contains (M ++ x ∷ []) y → (y ≡ x) ⊎ (y ≢ x) → ⊥
    unmarked y e c (inl f) = let g : get_or (set marks x true) y true ≡ true = ap (λ z. get_or (set marks x true) z true) f ∙ get_or-set_same marks x true true lt in let k : true ≡ false = sym g ∙ e in cc
    unmarked y e c (inr n) = elim (Contains-push_cases M x y c) [
      | inl d ↦ a.unmarked y (sym (get_or-set_other marks x y true true n) ∙ e) d
      | inr f ↦ n (sym f)
    ]

pub written_back : {X : Type 0} (old new : List X) (n : ℕ) → n ≡ length old → length new ≡ length old → take n (new ++ drop (length new) old) ≡ new
written_back old new n e f = rw (all_gone old (length new) (omega (arith, f)), append-nil) (take_all n new (omega (arith, e, f)))
  where
    all_gone : {X : Type 0} (xs : List X) (k : ℕ) → length xs ≤ k → drop k xs ≡ []
    all_gone [] zero h = refl
    all_gone [] (suc k) h = refl
    all_gone (x ∷ xs) zero h = absurd (omega arith)
    all_gone (x ∷ xs) (suc k) h = all_gone xs k (omega arith)

pub not_all : (marks : List Bool) (xs : List ℕ) (i d : ℕ) → i < length xs → AreMarked marks (take i xs) → (get_or xs i d < length marks → get_or marks (get_or xs i d) false ≡ true) → AreAllPlaces (length marks) xs → ⊥
not_all marks xs i d h a met c =
    let x = get_or xs i d in
    let m = a.marked x (met (c.within i d h)) in
    let size : length (take i xs) ≡ i = omega (arith, length-take i xs) in
    let lt : m.0 < i = omega (arith, m.1, size) in
    c.once m.0 i d lt h (get_or_default xs m.0 d x (omega arith) ∙ sym (get_or-take i xs m.0 x lt) ∙ m.2)

pub all_marked : (marks : List Bool) (xs : List ℕ) (n : ℕ) → length marks ≡ n → length xs ≡ n → AreMarked marks xs → AreAllPlaces n xs
all_marked marks xs n e f a = record { once = a.once; within = subst (λ k. All (λ x. x < k) xs) e a.within; all = f }

-- two lists, one place after another

pub zip_at : {X Y : Type 0} (R : X → Y → Type 0) (xs : List X) (ys : List Y) (i : ℕ) (d : X) (e : Y) → AllZip R xs ys → i < length xs → R (get_or xs i d) (get_or ys i e)
zip_at R [] ys i d e a h = absurd (omega arith)
zip_at R (x ∷ xs) [] i d e a h = absurd a
zip_at R (x ∷ xs) (y ∷ ys) zero d e a h = a.0
zip_at R (x ∷ xs) (y ∷ ys) (suc i) d e a h = zip_at R xs ys i d e a.1 (omega arith)

pub zip_more : {X Y : Type 0} (R : X → Y → Type 0) (xs : List X) (ys : List Y) (i : ℕ) (d : X) (e : Y) → i < length xs → i < length ys → AllZip R (take i xs) (take i ys) → R (get_or xs i d) (get_or ys i e) → AllZip R (take (i + 1) xs) (take (i + 1) ys)
zip_more R xs ys i d e h k a r = rw (take_one xs i d h, take_one ys i e k) (zip_end R (take i xs) (take i ys) (get_or xs i d) (get_or ys i e) a r)

pub zip_to : {X Y A B : Type 0} (f : X → A) (g : Y → B) (R : A → B → Type 0) (xs : List X) (ys : List Y) → AllZip (λ x y. R (f x) (g y)) xs ys → AllZip R (map f xs) (map g ys)
zip_to f g R [] [] a = tt
zip_to f g R [] (y ∷ ys) a = absurd a
zip_to f g R (x ∷ xs) [] a = absurd a
zip_to f g R (x ∷ xs) (y ∷ ys) a = (a.0, zip_to f g R xs ys a.1)

pub zip_from : {X Y A B : Type 0} (f : X → A) (g : Y → B) (R : A → B → Type 0) (xs : List X) (ys : List Y) → AllZip R (map f xs) (map g ys) → AllZip (λ x y. R (f x) (g y)) xs ys
zip_from f g R [] [] a = tt
zip_from f g R [] (y ∷ ys) a = absurd a
zip_from f g R (x ∷ xs) [] a = absurd a
zip_from f g R (x ∷ xs) (y ∷ ys) a = (a.0, zip_from f g R xs ys a.1)

pub zip_to_right : {X Y B : Type 0} (g : Y → B) (R : X → B → Type 0) (xs : List X) (ys : List Y) → AllZip (λ x y. R x (g y)) xs ys → AllZip R xs (map g ys)
zip_to_right g R [] [] a = tt
zip_to_right g R [] (y ∷ ys) a = absurd a
zip_to_right g R (x ∷ xs) [] a = absurd a
zip_to_right g R (x ∷ xs) (y ∷ ys) a = (a.0, zip_to_right g R xs ys a.1)

pub zip_from_right : {X Y B : Type 0} (g : Y → B) (R : X → B → Type 0) (xs : List X) (ys : List Y) → AllZip R xs (map g ys) → AllZip (λ x y. R x (g y)) xs ys
zip_from_right g R [] [] a = tt
zip_from_right g R [] (y ∷ ys) a = absurd a
zip_from_right g R (x ∷ xs) [] a = absurd a
zip_from_right g R (x ∷ xs) (y ∷ ys) a = (a.0, zip_from_right g R xs ys a.1)

-- children

pub child_there : {X Y Z : Type 0} (f : X → Y) (g : Y → Z) (xs : List X) (i : ℕ) (d : X) → i < length xs → slice_get (map g (map f xs)) i ≡ Some (g (f (get_or xs i d)))
child_there f g [] i d h = absurd (omega arith)
child_there f g (x ∷ xs) zero d h = refl
child_there f g (x ∷ xs) (suc i) d h = child_there f g xs i d (omega arith)

pub no_child : {X Y Z : Type 0} (f : X → Y) (g : Y → Z) (xs : List X) (i : ℕ) → length xs ≤ i → slice_get (map g (map f xs)) i ≡ None
no_child f g [] i h = refl
no_child f g (x ∷ xs) zero h = absurd (omega arith)
no_child f g (x ∷ xs) (suc i) h = no_child f g xs i (omega arith)

pub does_says : (c : Work) (B : List ℕ) (s : Subtask) → does (Some c) B s ≡ true → as_subtask c ≡ subtask_instance (slice_index B) s
does_says c B s e =
    let f : Some c ≡ Some (work s.name (map (object_of B) s.terms)) = does_from (Some c) B s e in
    let g : c ≡ work s.name (map (object_of B) s.terms) = cc in
    ap as_subtask g ∙ ap (subtask s.name) (instances_are B s.terms)

pub says_does : (c : Work) (B : List ℕ) (s : Subtask) → as_subtask c ≡ subtask_instance (slice_index B) s → does (Some c) B s ≡ true
says_does c B s e =
    let n : c.name ≡ s.name = ap (λ (z : Subtask). z.name) e in
    let o : map object c.objects ≡ map object (map (object_of B) s.terms) = ap (λ (z : Subtask). z.terms) e ∙ sym (instances_are B s.terms) in
    does_to (Some c) B s (ap (λ k. Some (work k c.objects)) n ∙ ap (λ os. Some (work s.name os)) (same_objects c.objects (map (object_of B) s.terms) o))

-- all of it

module _ (w : World) (m : Method) (os : List ℕ) (cs : List (Option Subtask)) (M B : List ℕ) where
  pub candidate_is : AreAllPlaces (length cs) M → AreOf w.typing B m.parameters → same_values B (terms_of m.task) os ≡ true → AllZip (Does cs B) M m.network.subtasks → all_hold B m.network.constraints ≡ true → IsCandidate w m os cs M B
  candidate_is a t s d h = record {
    once = a.once;
    within = a.within;
    all = a.all;
    typed = t;
    task = sym (instances_are B (terms_of m.task)) ∙ ap (map object) (values_from B (terms_of m.task) os s);
    done = d;
    constraints = holds_to B m.network.constraints h;
  }

  pub all_places : IsCandidate w m os cs M B → AreAllPlaces (length cs) M
  all_places c = record { once = c.once; within = c.within; all = c.all }

  pub same_task : IsCandidate w m os cs M B → same_values B (terms_of m.task) os ≡ true
  same_task c = values_to B (terms_of m.task) os (same_objects (map (object_of B) (terms_of m.task)) os (instances_are B (terms_of m.task) ∙ c.task))

  pub constraints_hold : IsCandidate w m os cs M B → all_hold B m.network.constraints ≡ true
  constraints_hold c = holds_from B m.network.constraints c.constraints
