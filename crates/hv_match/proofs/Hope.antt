-- What may still lead to a match.
use Rattle.std.proofs.Common.{◌≡◌, ℕ, zero, suc, ◌+◌, ◌<◌, ◌≤◌, Bool, true, false, not, ◌&&◌, List, [], ◌∷◌, ◌++◌, length, map, drop, get_or, slice_get, refl, sym, ap, ◌∙◌, arith, subst, if◌then◌else◌, Option, Some, None, slice_index, All, ◌⊎◌, inl, inr, Contains}
use Rattle.std.proofs.lemmas.List.{get_or_default}
use Rattle.std.specs.List.{AllZip}
use Rattle.hv_lists.proofs.Contained.{contains_at, none_in_empty}
use Rattle.hv_lists.proofs.Pairs.{same_length}
use Rattle.hv_world.specs.Bindings.{object_of}
use Rattle.hv_world.specs.Alike.{Key, key, keys, how_many, classes, class_sizes, class_of}
use Rattle.hv_world.specs.Values.{Subtask, Atom}
use Rattle.hv_world.specs.Views.{subtask_view, constraint_view}
use Rattle.hv_world.specs.declared.formula.Subtask as code_subtask
use Rattle.hv_world.specs.declared.formula.Constraint as code_constraint
use Rattle.hv_match.specs.Possible.{is_possible, are_possible}
use Rattle.hv_match.specs.inside.Search.{below}
use Rattle.hv_match.specs.inside.States.{rest}
use Rattle.hv_match.specs.inside.Puzzles.{Work, Puzzle, options, places, values, is_good, bound, has, Done, AreRows, IsMatch, Agrees, GoesOn, CannotDo, CannotHold, CannotBeTrue, holds, all_hold}
use Rattle.hv_match.specs.inside.Tables.{size_at}
use Rattle.hv_match.proofs.Listing.{none_begins}
use Rattle.hv_match.proofs.FirstPlaces.{agrees, get_left, get_taken}
use Rattle.hv_match.proofs.Fitting.{good_match, has_mem, mem_has}
use Rattle.hv_match.proofs.Rows.{size_of}
use Rattle.hv_match.proofs.Scarce.{no_more}

-- no match goes on from some choices
pub none_fits : (pz : Puzzle) (p : List ℕ) → ((q xs : List ℕ) → q ≡ p ++ xs → IsMatch pz (places pz q) (values pz q) → ⊥) → (k : ℕ) → below (options pz) (is_good pz) k p 0 ≡ []
none_fits pz p none k = none_begins (options pz) (is_good pz) k p (λ q xs e l g. none q xs e (good_match pz q g))

read_of : (q : List ℕ) (v o : ℕ) → slice_get q v ≡ Some o → get_or q v 0 ≡ o
read_of [] v o e = cc
read_of (x ∷ q) zero o e = cc
read_of (x ∷ q) (suc v) o e = read_of q v o e

get_dropped : (n : ℕ) (q : List ℕ) (v o : ℕ) → slice_get q (n + v) ≡ Some o → get_or (drop n q) v 0 ≡ o
get_dropped zero q v o e = let z : v ≡ 0 + v = omega arith in read_of q v o (ap (slice_get q) z ∙ e)
get_dropped (suc n) [] v o e = cc
get_dropped (suc n) (x ∷ q) v o e = let z : suc (n + v) ≡ suc n + v = omega arith in get_dropped n q v o (ap (slice_get (x ∷ q)) z ∙ e)

-- the objects of a match go on from its first choices
pub goes_on : (pz : Puzzle) (p q xs : List ℕ) → q ≡ p ++ xs → IsMatch pz (places pz q) (values pz q) → GoesOn pz p (values pz q)
goes_on pz p q xs e m = record {
  agrees = agrees pz (length pz.subtasks) (values pz q) p xs (subst (λ z. IsMatch pz (places pz z) (values pz q)) e m);
  chosen = λ v o f. get_dropped (length pz.subtasks) q v o (ap (λ z. slice_get z (length pz.subtasks + v)) e ∙ get_left p xs (length pz.subtasks + v) o f);
  typed = m.typed;
}

pub none_goes_on : (pz : Puzzle) (p : List ℕ) → ((B : List ℕ) → GoesOn pz p B → all_hold B pz.constraints ≡ true → ⊥) → (k : ℕ) → below (options pz) (is_good pz) k p 0 ≡ []
none_goes_on pz p none k = none_fits pz p (λ q xs e m. none (values pz q) (goes_on pz p q xs e m) m.constraints) k

-- an atom that is not possible
impossible : {R : Type 0} (view : R → Atom) (ever : Option (List (List ℕ))) (B : List ℕ) (as' : List R) (i : ℕ) (d : R) → i < length as' → is_possible ever B (view (get_or as' i d)) ≡ false → are_possible ever B (map view as') ≡ false
impossible view ever B [] i d h e = absurd (omega arith)
impossible view ever B (a ∷ as') zero d h e = ap (λ b. b && are_possible ever B (map view as')) e
impossible view ever B (a ∷ as') (suc i) d h e = go (is_possible ever B (view a)) (impossible view ever B as' i d (omega arith) e)
  where
    go : (b : Bool) → are_possible ever B (map view as') ≡ false → (b && are_possible ever B (map view as')) ≡ false
    go true r = r
    go false r = refl

pub none_possible : {R : Type 0} (view : R → Atom) (pz : Puzzle) (p : List ℕ) (as' : List R) (i : ℕ) (d : R) → pz.atoms ≡ map view as' → i < length as' → CannotBeTrue pz p (view (get_or as' i d)) → (k : ℕ) → below (options pz) (is_good pz) k p 0 ≡ []
none_possible view pz p as' i d are lt cannot k = none_fits pz p (λ q xs e m.
    let B = values pz q in
    let out : are_possible pz.ever B pz.atoms ≡ false = ap (are_possible pz.ever B) are ∙ impossible view pz.ever B as' i d lt (cannot B (goes_on pz p q xs e m)) in
    let is = m.possible in cc) k

-- the last child chosen cannot do its subtask
pub zip_read : (cs : List (Option Work)) (B M : List ℕ) (ss : List code_subtask.Subtask) (i : ℕ) (d : code_subtask.Subtask) → AllZip (Done cs B) M (map subtask_view ss) → i < length ss → (x : ℕ) × (slice_get M i ≡ Some x) × Done cs B x (subtask_view (get_or ss i d))
zip_read cs B M [] i d a h = absurd (omega arith)
zip_read cs B [] (s ∷ ss) i d a h = absurd a
zip_read cs B (x ∷ M) (s ∷ ss) zero d a h = (x, refl, a.0)
zip_read cs B (x ∷ M) (s ∷ ss) (suc i) d a h = zip_read cs B M ss i d a.1 (omega arith)

pub read_here : (p : List ℕ) (i : ℕ) → i < length p → slice_get p i ≡ Some (get_or p i 0)
read_here [] i h = absurd (omega arith)
read_here (x ∷ p) zero h = refl
read_here (x ∷ p) (suc i) h = read_here p i (omega arith)

pub hopeless : (pz : Puzzle) (ss : List code_subtask.Subtask) → pz.subtasks ≡ map subtask_view ss → (p : List ℕ) (last : ℕ) → length p ≡ last + 1 → last < length ss → (d : code_subtask.Subtask)
    → ((B : List ℕ) → Agrees pz p B → Done pz.children B (get_or p last 0) (subtask_view (get_or ss last d)) → ⊥) → (k : ℕ) → below (options pz) (is_good pz) k p 0 ≡ []
hopeless pz ss are p last size low d clash k = none_fits pz p (λ q xs e m.
    let B = values pz q in
    let r = zip_read pz.children B (places pz q) ss last d (subst (λ z. AllZip (Done pz.children B) (places pz q) z) are m.done) low in
    let here : slice_get q last ≡ Some (get_or p last 0) = ap (λ z. slice_get z last) e ∙ get_left p xs last (get_or p last 0) (read_here p last (omega (arith, size))) in
    let same : Some r.0 ≡ Some (get_or p last 0) = sym (get_taken (length pz.subtasks) q last r.0 r.1) ∙ here in
    let is : r.0 ≡ get_or p last 0 = cc in
    clash B (goes_on pz p q xs e m).agrees (subst (λ x. Done pz.children B x (subtask_view (get_or ss last d))) is r.2)) k

pub not_false : (b : Bool) → not b ≡ false → b ≡ true
not_false true e = refl
not_false false e = cc

pub not_true : (b : Bool) → not b ≡ true → b ≡ false
not_true true e = cc
not_true false e = refl

-- a constraint that does not hold
pub broken : (B : List ℕ) (cs : List code_constraint.Constraint) (i : ℕ) (d : code_constraint.Constraint) → i < length cs → holds B (constraint_view (get_or cs i d)) ≡ false → all_hold B (map constraint_view cs) ≡ false
broken B [] i d h e = absurd (omega arith)
broken B (c ∷ cs) zero d h e = ap (λ b. b && all_hold B (map constraint_view cs)) e
broken B (c ∷ cs) (suc i) d h e = go (holds B (constraint_view c)) (broken B cs i d (omega arith) e)
  where
    go : (b : Bool) → all_hold B (map constraint_view cs) ≡ false → (b && all_hold B (map constraint_view cs)) ≡ false
    go true r = r
    go false r = refl

pub none_holds : (pz : Puzzle) (p : List ℕ) (cs : List code_constraint.Constraint) (i : ℕ) (d : code_constraint.Constraint) → pz.constraints ≡ map constraint_view cs → i < length cs → CannotHold pz p (constraint_view (get_or cs i d)) → (k : ℕ) → below (options pz) (is_good pz) k p 0 ≡ []
none_holds pz p cs i d are lt cannot k = none_goes_on pz p (λ B on holds.
    let out : all_hold B pz.constraints ≡ false = ap (all_hold B) are ∙ broken B cs i d lt (cannot B on) in cc) k

-- a list seen through f
read_at : {R : Type 0} (f : R → List ℕ) (rs : List R) (i : ℕ) (d : R) → i < length rs → get_or (map f rs) i [] ≡ f (get_or rs i d)
read_at f [] i d h = absurd (omega arith)
read_at f (r ∷ rs) zero d h = refl
read_at f (r ∷ rs) (suc i) d h = read_at f rs i d (omega arith)

len_at : {R : Type 0} (f : R → List ℕ) (rs : List R) → length (map f rs) ≡ length rs
len_at f [] = refl
len_at f (r ∷ rs) = ap suc (len_at f rs)

-- a parameter with an object that it may not have
zip_in : (B : List ℕ) (rs : List (List ℕ)) (v : ℕ) → AllZip (λ (o : ℕ) (r : List ℕ). Contains r o) B rs → v < length rs → Contains (get_or rs v []) (get_or B v 0)
zip_in B [] v a h = absurd (omega arith)
zip_in [] (r ∷ rs) v a h = absurd a
zip_in (o ∷ B) (r ∷ rs) zero a h = a.0
zip_in (o ∷ B) (r ∷ rs) (suc v) a h = zip_in B rs v a.1 (omega arith)

pub none_outside : (pz : Puzzle) (p : List ℕ) {R : Type 0} (f : R → List ℕ) (rs : List R) (v o : ℕ) (d : R) → pz.ranges ≡ map f rs → v < length rs → bound pz p v ≡ Some o → has o (f (get_or rs v d)) ≡ false → (k : ℕ) → below (options pz) (is_good pz) k p 0 ≡ []
none_outside pz p {R} f rs v o d are lt b out k = none_goes_on pz p (λ B on holds.
    let within : v < length (map f rs) = omega (arith, len_at f rs, lt) in
    let m = zip_in B (map f rs) v (subst (λ z. AllZip (λ (o : ℕ) (r : List ℕ). Contains r o) B z) are on.typed) within in
    let n : Contains (f (get_or rs v d)) o = subst (λ r. Contains r o) (read_at f rs v d lt) (subst (Contains (get_or (map f rs) v [])) (on.agrees v o b) m) in
    let t = mem_has o (f (get_or rs v d)) n in cc) k

-- children that are not as many as the subtasks
pub none_uneven : (pz : Puzzle) → (length pz.children ≡ length pz.subtasks → ⊥) → (k : ℕ) → below (options pz) (is_good pz) k [] 0 ≡ []
none_uneven pz uneven k = none_fits pz [] (λ q xs e m. uneven (sym m.all ∙ same_length (Done pz.children (values pz q)) (places pz q) pz.subtasks m.done)) k

-- a task with other objects
pub none_given : (pz : Puzzle) → ((B : List ℕ) → Agrees pz [] B → map (object_of B) pz.task ≡ pz.objects → ⊥) → (k : ℕ) → below (options pz) (is_good pz) k [] 0 ≡ []
none_given pz clash k = none_fits pz [] (λ q xs e m. clash (values pz q) (goes_on pz [] q xs e m).agrees m.task) k

-- too few children for alike subtasks
abbrev class_in : List Subtask → Option Subtask → Option ℕ
class_in ss None = None
class_in ss (Some t) = class_of ss t

abbrev size_in : List Subtask → Option ℕ → ℕ
size_in ss None = 0
size_in ss (Some i) = slice_index (class_sizes ss) i

pub none_scarce : (pz : Puzzle) → AreRows pz → ((ks : List Key) → All (λ c. c.1 ≡ how_many c.0 ks) (classes ks)) → (j : ℕ) → length (pz.rows j) < size_at pz.subtasks j → (k : ℕ) → below (options pz) (is_good pz) k [] 0 ≡ []
none_scarce pz rows sizes j few k = none_fits pz [] (λ q xs e m. go q m (slice_get pz.subtasks j) refl few) k
  where
    of_class : (q : List ℕ) → IsMatch pz (places pz q) (values pz q) → (t : Subtask) → slice_get pz.subtasks j ≡ Some t → (o : Option ℕ) → class_of pz.subtasks t ≡ o
        → length (pz.rows j) < size_in pz.subtasks o → ⊥
    of_class q m t e None f few = omega (arith, few)
    of_class q m t e (Some i) f few =
        let ks = keys pz.subtasks in
        let size = size_of ks (key pz.subtasks t) (classes ks) i (sizes ks) f in
        let most = no_more pz.subtasks pz.children (values pz q) (places pz q) t (pz.rows j) m.once m.done (rows j t e) in
        omega (arith, few, size, most)

    go : (q : List ℕ) → IsMatch pz (places pz q) (values pz q) → (s : Option Subtask) → slice_get pz.subtasks j ≡ s
        → length (pz.rows j) < size_in pz.subtasks (class_in pz.subtasks s) → ⊥
    go q m None e few = omega (arith, few)
    go q m (Some t) e few = of_class q m t e (class_of pz.subtasks t) refl few

-- a subtask that no child may do
pub get_at : (ss : List code_subtask.Subtask) (j : ℕ) (d : code_subtask.Subtask) → j < length ss → slice_get (map subtask_view ss) j ≡ Some (subtask_view (get_or ss j d))
get_at [] j d h = absurd (omega arith)
get_at (s ∷ ss) zero d h = refl
get_at (s ∷ ss) (suc j) d h = get_at ss j d (omega arith)

pub child_there : (pz : Puzzle) → AreRows pz → (j : ℕ) (s : Subtask) → slice_get pz.subtasks j ≡ Some s → (B : List ℕ) (x : ℕ) → Done pz.children B x s → Contains (pz.rows j) x
child_there pz rows j s e B x does = has_mem x (pz.rows j) ((rows j s e).all s (contains_at pz.subtasks j s e) refl B x does)

pub one_more : (pz : Puzzle) (row : List ℕ) (ss : List code_subtask.Subtask) (j : ℕ) (d : code_subtask.Subtask) (n : ℕ) → ((i : ℕ) → i < n → CannotDo pz [] (get_or row i 0) (subtask_view (get_or ss j d)))
    → CannotDo pz [] (get_or row n 0) (subtask_view (get_or ss j d)) → (i : ℕ) → i < n + 1 → CannotDo pz [] (get_or row i 0) (subtask_view (get_or ss j d))
one_more pz row ss j d n before here i lt = go (less_or_same i n lt)
  where
    less_or_same : (i n : ℕ) → i < n + 1 → (i < n) ⊎ (n ≡ i)
    less_or_same i n h = grind (arith, h)

    go : (i < n) ⊎ (n ≡ i) → CannotDo pz [] (get_or row i 0) (subtask_view (get_or ss j d))
    go (inl less) = before i less
    go (inr same) = subst (λ m. CannotDo pz [] (get_or row m 0) (subtask_view (get_or ss j d))) same here

pub none_may : (pz : Puzzle) → AreRows pz → (ss : List code_subtask.Subtask) → pz.subtasks ≡ map subtask_view ss → (j : ℕ) (d : code_subtask.Subtask) → j < length ss
    → (row : List ℕ) → row ≡ pz.rows j → (n : ℕ) → length row ≤ n → ((i : ℕ) → i < n → CannotDo pz [] (get_or row i 0) (subtask_view (get_or ss j d))) → (k : ℕ) → below (options pz) (is_good pz) k [] 0 ≡ []
none_may pz rows ss are j d low row is n all cannot k = none_fits pz [] (λ q xs e m.
    let B = values pz q in
    let s = subtask_view (get_or ss j d) in
    let r = zip_read pz.children B (places pz q) ss j d (subst (λ z. AllZip (Done pz.children B) (places pz q) z) are m.done) low in
    let at : slice_get pz.subtasks j ≡ Some s = ap (λ z. slice_get z j) are ∙ get_at ss j d low in
    let there : Contains row r.0 = subst (λ (l : List ℕ). Contains l r.0) (sym is) (child_there pz rows j s at B r.0 r.2) in
    let same : get_or row there.0 0 ≡ r.0 = get_or_default row there.0 0 r.0 there.1 ∙ there.2 in
    let within : there.0 < n = omega (arith, there.1, all) in
    cannot there.0 within B (goes_on pz [] q xs e m).agrees (subst (λ x. Done pz.children B x s) (sym same) r.2)) k

-- a parameter that has no object
none_in : (rs : List (List ℕ)) (i : ℕ) → i < length rs → get_or rs i [] ≡ [] → (B : List ℕ) → AllZip (λ (o : ℕ) (r : List ℕ). Contains r o) B rs → ⊥
none_in [] i h e B a = absurd (omega arith)
none_in (r ∷ rs) i h e [] a = a
none_in (r ∷ rs) zero h e (o ∷ B) a = none_in_empty o (subst (λ z. Contains z o) e a.0)
none_in (r ∷ rs) (suc i) h e (o ∷ B) a = none_in rs i (omega arith) e B a.1

pub none_wanted : (pz : Puzzle) {R : Type 0} (f : R → List ℕ) (rs : List R) (i : ℕ) (d : R) → pz.ranges ≡ map f rs → i < length rs → f (get_or rs i d) ≡ [] → (k : ℕ) → below (options pz) (is_good pz) k [] 0 ≡ []
none_wanted pz {R} f rs i d are h e k = none_begins (options pz) (is_good pz) k [] (λ q xs same l g.
    let m = good_match pz q g in
    none_in (map f rs) i (omega (arith, len_at f rs, h)) (read_at f rs i d h ∙ e) (values pz q) (subst (λ z. AllZip (λ (o : ℕ) (r : List ℕ). Contains r o) (values pz q) z) are m.typed))

-- a search that has not begun, or has nothing to find
pub fresh : (f : List ℕ → List ℕ) (good : List ℕ → Bool) (n : ℕ) (b : Bool) (xs ns : List ℕ) → xs ≡ [] → (b ≡ true → (k : ℕ) → below f good k [] 0 ≡ []) → (if b then [] else rest f good n [] xs ns 0) ≡ below f good n [] 0
fresh f good n true xs ns e h = sym (h refl n)
fresh f good n false xs ns e h = ap (λ l. rest f good n [] l ns 0) e
