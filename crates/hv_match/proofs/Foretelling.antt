-- What the only child that may do a subtask tells of parameters.
use Rattle.std.proofs.Common.{◌≡◌, ℕ, ◌<◌, List, [], length, map, get_or, slice_get, refl, sym, ap, ◌∙◌, arith, subst, Option, None, Some, option_map, IfSome, Contains}
use Rattle.std.proofs.lemmas.List.{get_or_default}
use Rattle.std.proofs.lemmas.Option.{slice_get-map}
use Rattle.std.specs.List.{AllZip}
use Rattle.hv_world.specs.Bindings.{object_of}
use Rattle.hv_world.specs.Values.{Term, variable}
use Rattle.hv_world.specs.Views.{subtask_view}
use Rattle.hv_world.specs.declared.formula.Subtask as code_subtask
use Rattle.hv_match.specs.inside.Search.{below}
use Rattle.hv_match.specs.inside.Puzzles.{Puzzle, options, places, values, is_good, child_at, objects_of, bound, Done, AreRows, IsForetold}
use Rattle.hv_match.proofs.Hope.{none_fits, goes_on, zip_read, get_at, child_there}

-- the only place of a row
only_there : (row : List ℕ) (x : ℕ) → length row ≡ 1 → Contains row x → get_or row 0 0 ≡ x
only_there row x one m =
    let first : m.0 ≡ 0 = omega (arith, m.1, one) in
    subst (λ i. get_or row i 0 ≡ x) first (get_or_default row m.0 0 x m.1 ∙ m.2)

-- the parameter at a position among terms has the object that stands there
stands : (B : List ℕ) (ts : List Term) (k v o : ℕ) → slice_get ts k ≡ Some (variable v) → slice_get (map (object_of B) ts) k ≡ Some o → get_or B v 0 ≡ o
stands B ts k v o at has =
    let there : Some (get_or B v 0) ≡ Some o = sym (ap (option_map (object_of B)) at) ∙ sym (slice_get-map (object_of B) ts k) ∙ has in cc

pub foretells : (pz : Puzzle) → AreRows pz → (ss : List code_subtask.Subtask) → pz.subtasks ≡ map subtask_view ss → (j : ℕ) (d : code_subtask.Subtask) → j < length ss
    → (row : List ℕ) → row ≡ pz.rows j → length row ≡ 1 → (k v o : ℕ) → slice_get (subtask_view (get_or ss j d)).terms k ≡ Some (variable v)
    → slice_get (objects_of (child_at pz.children (get_or row 0 0))) k ≡ Some o → IsForetold pz v o
foretells pz rows ss are j d low row is one k v o at has = λ M B m.
    (let s = subtask_view (get_or ss j d) in
    let r = zip_read pz.children B M ss j d (subst (λ z. AllZip (Done pz.children B) M z) are m.done) low in
    let here : slice_get pz.subtasks j ≡ Some s = ap (λ z. slice_get z j) are ∙ get_at ss j d low in
    let there : Contains row r.0 = subst (λ (l : List ℕ). Contains l r.0) (sym is) (child_there pz rows j s here B r.0 r.2) in
    let does : objects_of (child_at pz.children (get_or row 0 0)) ≡ map (object_of B) s.terms = ap (λ x. objects_of (child_at pz.children x)) (only_there row r.0 one there) ∙ ap objects_of r.2 in
    stands B s.terms k v o at (sym (ap (λ (l : List ℕ). slice_get l k) does) ∙ has))

-- a parameter bound to another object
pub none_otherwise : (pz : Puzzle) (p : List ℕ) (v o n : ℕ) → bound pz p v ≡ Some o → IsForetold pz v n → (n ≡ o → ⊥) → (k : ℕ) → below (options pz) (is_good pz) k p 0 ≡ []
none_otherwise pz p v o n b told apart k = none_fits pz p (λ q xs e m. apart (sym (told (places pz q) (values pz q) m) ∙ (goes_on pz p q xs e m).agrees v o b)) k

-- what is told, if anything
pub if_told : (pz : Puzzle) (v : ℕ) (o : Option ℕ) → ((n : ℕ) → o ≡ Some n → IsForetold pz v n) → IfSome o (IsForetold pz v)
if_told pz v None each = tt
if_told pz v (Some n) each = each n refl
