-- Choices that every match begins with, and the list of matches where all choices are forced.
use Rattle.std.proofs.Common.{◌≡◌, ℕ, zero, suc, ◌+◌, ◌<◌, ◌≤◌, Bool, true, false, List, [], ◌∷◌, ◌++◌, length, take, set, map, get_or, slice_get, refl, sym, ap, ◌∙◌, arith, subst, length-append, Option, Some, None, IfSome, Contains, if◌then◌else◌}
use Rattle.std.proofs.lemmas.List.{take_all}
use Rattle.std.specs.List.{AllZip}
use Rattle.hv_lists.specs.Lists.{Once}
use Rattle.hv_lists.proofs.Contained.{at_head, none_in_empty}
use Rattle.hv_lists.proofs.EachOnce.{once_head}
use Rattle.hv_lists.proofs.Pairs.{same_length}
use Rattle.hv_world.specs.Values.{Subtask, TaskName}
use Rattle.hv_world.specs.Views.{subtask_view}
use Rattle.hv_world.specs.declared.formula.Subtask as code_subtask
use Rattle.hv_match.specs.inside.Puzzles.{Work, Puzzle, child_at, bound, places, values, is_good, Done, AreRows, IsMatch}
use Rattle.hv_match.specs.inside.Tables.{has_name}
use Rattle.hv_match.specs.inside.Forced.{IsAlone, AreOthers, IsForced, AreForced}
use Rattle.hv_match.specs.inside.Parts.{parts, listed, AreEachOnce}
use Rattle.hv_match.proofs.Bridge.{listed_match, match_listed, listed_once}
use Rattle.hv_match.proofs.Factors.{name_itself}
use Rattle.hv_match.proofs.FirstPlaces.{forced_bound, get_left}
use Rattle.hv_match.proofs.Fitting.{good_match, match_good, match_parts}
use Rattle.hv_match.proofs.Hope.{read_here, zip_read}

take_more : (xs q : List ℕ) (x : ℕ) → take (length q) xs ≡ q → slice_get xs (length q) ≡ Some x → take (length (q ++ x ∷ [])) xs ≡ q ++ x ∷ []
take_more [] [] x e f = cc
take_more (y ∷ xs) [] x e f = let g : y ≡ x = cc in ap (λ z. z ∷ []) g
take_more [] (z ∷ q) x e f = cc
take_more (y ∷ xs) (z ∷ q) x e f =
    let g : y ≡ z = cc in let h : take (length q) xs ≡ q = cc in
    rw (g, take_more xs q x h f) refl

take_past : (M B : List ℕ) (k : ℕ) → take (length M + k) (M ++ B) ≡ M ++ take k B
take_past [] B k = ap (λ n. take n B) (let z : 0 + k ≡ k = omega arith in z)
take_past (x ∷ M) B k = let z : suc (length M) + k ≡ suc (length M + k) = omega arith in ap (λ n. take n (x ∷ M ++ B)) z ∙ ap (λ (l : List ℕ). x ∷ l) (take_past M B k)

get_past : (M B : List ℕ) (k : ℕ) → slice_get (M ++ B) (length M + k) ≡ slice_get B k
get_past [] B k = ap (slice_get B) (let z : 0 + k ≡ k = omega arith in z)
get_past (x ∷ M) B k = let z : suc (length M) + k ≡ suc (length M + k) = omega arith in ap (slice_get (x ∷ M ++ B)) z ∙ get_past M B k

named : (cs : List (Option Work)) (B : List ℕ) (x : ℕ) (s : Subtask) → Done cs B x s → has_name s.name (child_at cs x) ≡ true
named cs B x s d = ap (has_name s.name) d ∙ name_itself s.name

-- a child with a name is there
named_there : (cs : List (Option Work)) (n : TaskName) (y : ℕ) → has_name n (child_at cs y) ≡ true → y < length cs
named_there [] n y e = cc
named_there (c ∷ cs) n zero e = omega arith
named_there (c ∷ cs) n (suc y) e = omega (arith, named_there cs n y e)

pub others_all : (cs : List (Option Work)) (n : TaskName) (k : ℕ) (found : Option ℕ) → length cs ≤ k → AreOthers cs n k found → IfSome found (IsAlone cs n)
others_all cs n k None all before = tt
others_all cs n k (Some x) all before = λ y e. (let f : Some x ≡ Some y = before y (omega (arith, all, named_there cs n y e)) e in cc)

-- the child that alone has the name of the next subtask
pub alone_next : (p : Puzzle) (ss : List code_subtask.Subtask) → p.subtasks ≡ map subtask_view ss → (q : List ℕ) → length q < length ss → (d : code_subtask.Subtask) (x : ℕ)
    → IsAlone p.children (subtask_view (get_or ss (length q) d)).name x → IsForced p q x
alone_next p ss are q low d x alone begins M B m =
    let r = zip_read p.children B M ss (length q) d (subst (λ z. AllZip (Done p.children B) M z) are m.done) low in
    let is : r.0 ≡ x = alone r.0 (named p.children B r.0 (subtask_view (get_or ss (length q) d)) r.2) in
    take_more (M ++ B) q x (begins M B m) (get_left M B (length q) r.0 r.1 ∙ ap (λ (z : ℕ). Some z) is)

-- the object that the task and the children say of the next parameter
bound_next : (p : Puzzle) (q : List ℕ) (v x : ℕ) → length q ≡ length p.subtasks + v → v < length p.ranges → bound p q v ≡ Some x → IsForced p q x
bound_next p q v x size lt e begins M B m =
    let many : length M ≡ length p.subtasks = same_length (Done p.children B) M p.subtasks m.done in
    let here : length q ≡ length M + v = omega (arith, size, many) in
    let front : q ≡ M ++ take v B = sym (begins M B m) ∙ ap (λ n. take n (M ++ B)) here ∙ take_past M B v in
    let o : x ≡ get_or B v 0 = forced_bound p M B (take v B) v x m (ap (λ l. bound p l v) (sym front) ∙ e) in
    let within : v < length B = omega (arith, lt, same_length (λ (o : ℕ) (r : List ℕ). Contains r o) B p.ranges m.typed) in
    take_more (M ++ B) q x (begins M B m) (ap (slice_get (M ++ B)) here ∙ get_past M B v ∙ read_here B v within ∙ ap (λ (z : ℕ). Some z) (sym o))

pub some_so : {X : Type 0} (P Q : X → Type 0) (o : Option X) → ((x : X) → P x → Q x) → IfSome o P → IfSome o Q
some_so P Q None so p = tt
some_so P Q (Some x) so p = so x p

pub bound_so : (p : Puzzle) (q : List ℕ) (v : ℕ) (o : Option ℕ) → length q ≡ length p.subtasks + v → v < length p.ranges → bound p q v ≡ o → IfSome o (IsForced p q)
bound_so p q v None size lt e = tt
bound_so p q v (Some x) size lt e = bound_next p q v x size lt e

-- one choice more is written down
pub set_next : (xs : List ℕ) (i x : ℕ) → i < length xs → take (i + 1) (set xs i x) ≡ take i xs ++ x ∷ []
set_next [] i x h = absurd (omega arith)
set_next (y ∷ xs) zero x h = refl
set_next (y ∷ xs) (suc i) x h = let z : suc i + 1 ≡ suc (i + 1) = omega arith in ap (λ n. take n (y ∷ set xs i x)) z ∙ ap (λ (l : List ℕ). y ∷ l) (set_next xs i x (omega arith))

-- a list of one
only_one : {X : Type 0} (l : List X) (x : X) → Once l → ((y : X) → Contains l y → y ≡ x) → Contains l x → l ≡ x ∷ []
only_one [] x o alike m = absurd (none_in_empty x m)
only_one (y ∷ []) x o alike m = ap (λ z. z ∷ []) (alike y (at_head y [] y refl))
only_one (y ∷ z ∷ l) x o alike m =
    let first = alike y (at_head y (z ∷ l) y refl) in
    let second = alike z (1, omega arith, refl) in
    absurd (once_head y (z ∷ l) o (at_head z l y (first ∙ sym second)))

no_one : {X : Type 0} (l : List X) → ((y : X) → Contains l y → ⊥) → l ≡ []
no_one [] none = refl
no_one (y ∷ l) none = absurd (none y (at_head y l y refl))

module _ (p : Puzzle) (rows : AreRows p) (each : AreEachOnce p) (q : List ℕ) (forced : AreForced p q) where
  only : (M B : List ℕ) → IsMatch p M B → M ++ B ≡ q
  only M B m =
      let size : length (M ++ B) ≡ length q = omega (arith, length-append M B, same_length (Done p.children B) M p.subtasks m.done, same_length (λ (o : ℕ) (r : List ℕ). Contains r o) B p.ranges m.typed, forced.whole) in
      sym (take_all (length q) (M ++ B) (omega (arith, size))) ∙ forced.only M B m

  alike : (z : List ℕ × List ℕ) → Contains (listed p) z → z ≡ parts (length p.subtasks) q
  alike z k =
      let m = listed_match p z.0 z.1 k in
      let r = match_parts p z.0 z.1 m in
      let e : parts (length p.subtasks) (z.0 ++ z.1) ≡ (z.0, z.1) = rw (r.0, r.1) refl in
      sym e ∙ ap (parts (length p.subtasks)) (only z.0 z.1 m)

  pub forced_listed : (b : Bool) → is_good p q ≡ b → listed p ≡ (if b then parts (length p.subtasks) q ∷ [] else [])
  forced_listed true good =
      only_one (listed p) (parts (length p.subtasks) q) (listed_once p rows each) alike
      (match_listed p rows (places p q) (values p q) (good_match p q good))
  forced_listed false bad = no_one (listed p) (λ z k.
      let m = listed_match p z.0 z.1 k in
      let good : is_good p q ≡ true = ap (is_good p) (sym (only z.0 z.1 m)) ∙ match_good p z.0 z.1 m in cc)
