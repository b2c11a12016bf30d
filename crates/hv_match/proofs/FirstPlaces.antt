-- Where parameters have their objects from.
use Rattle.std.proofs.Common.{◌≡◌, ℕ, zero, suc, ◌+◌, Bool, true, false, not, ◌&&◌, List, [], ◌∷◌, ◌++◌, map, take, drop, get_or, slice_get, refl, sym, ap, ◌∙◌, arith, subst, if◌then◌else◌, Option, Some, None}
use Rattle.std.proofs.lemmas.Bool.{eqb-true}
use Rattle.std.specs.List.{AllZip}
use Rattle.hv_world.specs.Bindings.{object_of}
use Rattle.hv_world.specs.Values.{Term, object, variable, Subtask}
use Rattle.hv_world.specs.Alike.{is_variable, has_variable, is_argument, is_free}
use Rattle.hv_match.specs.inside.Puzzles.{Work, Puzzle, child_at, objects_of, first_in, first_of, source_of, look, bound, Done, IsMatch, Agrees}

variable_is : (i : ℕ) (t : Term) → is_variable i t ≡ true → t ≡ variable i
variable_is i (object o) e = cc
variable_is i (variable v) e = ap variable (eqb-true v i e)

-- what is so of each place where the parameter stands, and of the other, is so of the first
first_case : (P : Option (Option ℕ × ℕ) → Type 0) (j : Option ℕ) (i k : ℕ) (ts : List Term) (other : Option (Option ℕ × ℕ)) →
    ((n : ℕ) → slice_get ts n ≡ Some (variable i) → P (Some (j, k + n))) → P other → P (first_in j i k ts other)
first_case P j i k [] other h o = o
first_case P j i k (t ∷ ts) other h o =
    go (is_variable i t) refl (first_case P j i (k + 1) ts other (λ n f. (let z : k + suc n ≡ k + 1 + n = omega arith in subst (λ m. P (Some (j, m))) z (h (suc n) f))) o)
  where
    go : (b : Bool) → is_variable i t ≡ b → P (first_in j i (k + 1) ts other) → P (if b then Some (j, k) else first_in j i (k + 1) ts other)
    go true e r = let z : k + 0 ≡ k = omega arith in subst (λ n. P (Some (j, n))) z (h 0 (ap Some (variable_is i t e)))
    go false e r = r

first_of_case : (P : Option (Option ℕ × ℕ) → Type 0) (i j : ℕ) (ss : List Subtask) →
    ((n m : ℕ) (s : Subtask) → slice_get ss n ≡ Some s → slice_get s.terms m ≡ Some (variable i) → P (Some (Some (j + n), m))) → P None → P (first_of i j ss None)
first_of_case P i j [] h o = o
first_of_case P i j (s ∷ ss) h o =
    first_case P (Some j) i 0 s.terms (first_of i (j + 1) ss None)
    (λ m f. (let z : j + 0 ≡ j = omega arith in let y : m ≡ 0 + m = omega arith in subst (λ k. P (Some (Some j, k))) y (subst (λ k. P (Some (Some k, m))) z (h 0 m s refl f))))
    (first_of_case P i (j + 1) ss (λ n m r e f. (let z : j + suc n ≡ j + 1 + n = omega arith in subst (λ k. P (Some (Some k, m))) z (h (suc n) m r e f))) o)

-- the parameter stands at its source
Stands : List Term → List Subtask → ℕ → Option (Option ℕ × ℕ) → Type 0
Stands ts ss i None = Unit {0}
Stands ts ss i (Some (None, k)) = slice_get ts k ≡ Some (variable i)
Stands ts ss i (Some (Some j, k)) = (s : Subtask) × (slice_get ss j ≡ Some s) × (slice_get s.terms k ≡ Some (variable i))

stands : (ts : List Term) (ss : List Subtask) (i : ℕ) → Stands ts ss i (source_of ts ss i)
unfolding Stands
stands ts ss i =
    first_case (Stands ts ss i) None i 0 ts (first_of i 0 ss None)
    (λ n e. (let z : n ≡ 0 + n = omega arith in subst (λ k. slice_get ts k ≡ Some (variable i)) z e))
    (first_of_case (Stands ts ss i) i 0 ss (λ n m s e f. (s, (let z : n ≡ 0 + n = omega arith in subst (λ k. slice_get ss k ≡ Some s) z e), f)) tt)

-- a parameter has no source exactly where it is free
first_other : (j : Option ℕ) (i k : ℕ) (ts : List Term) (other : Option (Option ℕ × ℕ)) → has_variable i ts ≡ false → first_in j i k ts other ≡ other
first_other j i k [] other e = refl
first_other j i k (t ∷ ts) other e = go (is_variable i t) e (first_other j i (k + 1) ts other)
  where
    go : (b : Bool) → (if b then true else has_variable i ts) ≡ false → (has_variable i ts ≡ false → first_in j i (k + 1) ts other ≡ other) → (if b then Some (j, k) else first_in j i (k + 1) ts other) ≡ other
    go true e r = cc
    go false e r = r e

first_none : (j : Option ℕ) (i k : ℕ) (ts : List Term) (other : Option (Option ℕ × ℕ)) → first_in j i k ts other ≡ None → (has_variable i ts ≡ false) × (other ≡ None)
first_none j i k [] other e = (refl, e)
first_none j i k (t ∷ ts) other e = go (is_variable i t) e (first_none j i (k + 1) ts other)
  where
    go : (b : Bool) → (if b then Some (j, k) else first_in j i (k + 1) ts other) ≡ None → (first_in j i (k + 1) ts other ≡ None → (has_variable i ts ≡ false) × (other ≡ None)) → ((if b then true else has_variable i ts) ≡ false) × (other ≡ None)
    go true e r = cc
    go false e r = r e

all_other : (i j : ℕ) (ss : List Subtask) → is_argument i ss ≡ false → first_of i j ss None ≡ None
all_other i j [] e = refl
all_other i j (s ∷ ss) e = go (has_variable i s.terms) refl e (all_other i (j + 1) ss)
  where
    go : (b : Bool) → has_variable i s.terms ≡ b → (if b then true else is_argument i ss) ≡ false → (is_argument i ss ≡ false → first_of i (j + 1) ss None ≡ None) → first_in (Some j) i 0 s.terms (first_of i (j + 1) ss None) ≡ None
    go true h e r = cc
    go false h e r = first_other (Some j) i 0 s.terms (first_of i (j + 1) ss None) h ∙ r e

all_none : (i j : ℕ) (ss : List Subtask) → first_of i j ss None ≡ None → is_argument i ss ≡ false
all_none i j [] e = refl
all_none i j (s ∷ ss) e =
    let r = first_none (Some j) i 0 s.terms (first_of i (j + 1) ss None) e in
    rw r.0 (all_none i (j + 1) ss r.1)

free_none : (ts : List Term) (ss : List Subtask) (i : ℕ) → is_free ts ss i ≡ true → source_of ts ss i ≡ None
free_none ts ss i e = go (has_variable i ts) refl (is_argument i ss) refl e
  where
    go : (a : Bool) → has_variable i ts ≡ a → (b : Bool) → is_argument i ss ≡ b → (not a && not b) ≡ true → source_of ts ss i ≡ None
    go true h b k e = cc
    go false h true k e = cc
    go false h false k e = first_other None i 0 ts (first_of i 0 ss None) h ∙ all_other i 0 ss k

none_free : (ts : List Term) (ss : List Subtask) (i : ℕ) → source_of ts ss i ≡ None → is_free ts ss i ≡ true
none_free ts ss i e =
    let r = first_none None i 0 ts (first_of i 0 ss None) e in
    rw (r.0, all_none i 0 ss r.1) refl

pub free_unbound : (pz : Puzzle) (q : List ℕ) (i : ℕ) → is_free pz.task pz.subtasks i ≡ true → bound pz q i ≡ None
free_unbound pz q i e = ap (look pz q) (free_none pz.task pz.subtasks i e)

-- what stands there in a match
value_at : (B : List ℕ) (ts : List Term) (k i : ℕ) → slice_get ts k ≡ Some (variable i) → slice_get (map (object_of B) ts) k ≡ Some (get_or B i 0)
value_at B [] k i e = cc
value_at B (t ∷ ts) zero i e = let f : t ≡ variable i = cc in ap (λ z. Some (object_of B z)) f
value_at B (t ∷ ts) (suc k) i e = value_at B ts k i e

at_child : (cs : List (Option Work)) (B M : List ℕ) (ss : List Subtask) (j : ℕ) (s : Subtask) → AllZip (Done cs B) M ss → slice_get ss j ≡ Some s → (x : ℕ) × (slice_get M j ≡ Some x) × Done cs B x s
at_child cs B [] [] j s a e = cc
at_child cs B [] (r ∷ ss) j s a e = absurd a
at_child cs B (x ∷ M) [] j s a e = absurd a
at_child cs B (x ∷ M) (r ∷ ss) zero s a e = let f : r ≡ s = cc in (x, refl, subst (λ z. Done cs B x z) f a.0)
at_child cs B (x ∷ M) (r ∷ ss) (suc j) s a e = at_child cs B M ss j s a.1 e

pub get_left : (a b : List ℕ) (j x : ℕ) → slice_get a j ≡ Some x → slice_get (a ++ b) j ≡ Some x
get_left [] b j x e = cc
get_left (y ∷ a) b zero x e = e
get_left (y ∷ a) b (suc j) x e = get_left a b j x e

module _ (pz : Puzzle) (M B : List ℕ) (c : IsMatch pz M B) (q : List ℕ) where
  looked : ((j x : ℕ) (s : Subtask) → slice_get q j ≡ Some x → slice_get pz.subtasks j ≡ Some s → Done pz.children B x s) → (i : ℕ) (z : Option (Option ℕ × ℕ)) → Stands pz.task pz.subtasks i z → (o : ℕ) → look pz q z ≡ Some o → o ≡ get_or B i 0
  unfolding Stands
  looked does i None a o e = cc
  looked does i (Some (None, k)) a o e =
      let v = value_at B pz.task k i a in
      let f : slice_get pz.objects k ≡ Some (get_or B i 0) = ap (λ os. slice_get os k) (sym c.task) ∙ v in
      let g : Some o ≡ Some (get_or B i 0) = sym e ∙ f in cc
  looked does i (Some (Some j, k)) (s, a, b) o e = go (slice_get q j) refl e
    where
      go : (r : Option ℕ) → slice_get q j ≡ r → elim r [ None ↦ None | Some x ↦ slice_get (objects_of (child_at pz.children x)) k ] ≡ Some o → o ≡ get_or B i 0
      go None f e = cc
      go (Some x) f e =
          let d = does j x s f a in
          let g : slice_get (objects_of (child_at pz.children x)) k ≡ Some (get_or B i 0) = ap (λ w. slice_get (objects_of w) k) d ∙ value_at B s.terms k i b in
          let h : Some o ≡ Some (get_or B i 0) = sym e ∙ g in cc

pub forced_bound : (pz : Puzzle) (M B us : List ℕ) (i o : ℕ) → IsMatch pz M B → bound pz (M ++ us) i ≡ Some o → o ≡ get_or B i 0
forced_bound pz M B us i o c e = looked pz M B c (M ++ us) does i (source_of pz.task pz.subtasks i) (stands pz.task pz.subtasks i) o e
  where
    does : (j x : ℕ) (s : Subtask) → slice_get (M ++ us) j ≡ Some x → slice_get pz.subtasks j ≡ Some s → Done pz.children B x s
    does j x s f g =
        let r = at_child pz.children B M pz.subtasks j s c.done g in
        let l = get_left M us j r.0 r.1 in
        let h : r.0 ≡ x = cc in subst (λ y. Done pz.children B y s) h r.2

pub get_taken : (n : ℕ) (q : List ℕ) (j x : ℕ) → slice_get (take n q) j ≡ Some x → slice_get q j ≡ Some x
get_taken zero q j x e = cc
get_taken (suc n) [] j x e = cc
get_taken (suc n) (y ∷ q) zero x e = e
get_taken (suc n) (y ∷ q) (suc j) x e = get_taken n q j x e

-- a match has what the first choices of it say of parameters
pub agrees : (pz : Puzzle) (n : ℕ) (B p xs : List ℕ) → IsMatch pz (take n (p ++ xs)) B → Agrees pz p B
agrees pz n B p xs c v o e = sym (looked pz (take n (p ++ xs)) B c p does v (source_of pz.task pz.subtasks v) (stands pz.task pz.subtasks v) o e)
  where
    does : (j x : ℕ) (s : Subtask) → slice_get p j ≡ Some x → slice_get pz.subtasks j ≡ Some s → Done pz.children B x s
    does j x s f g =
        let r = at_child pz.children B (take n (p ++ xs)) pz.subtasks j s c.done g in
        let l = get_left p xs j x f in
        let k = get_taken n (p ++ xs) j r.0 r.1 in
        let h : r.0 ≡ x = cc in subst (λ y. Done pz.children B y s) h r.2

pub bound_some : (pz : Puzzle) (M B us : List ℕ) (i : ℕ) → IsMatch pz M B → is_free pz.task pz.subtasks i ≡ false → bound pz (M ++ us) i ≡ None → ⊥
unfolding Stands
bound_some pz M B us i c free e = go (source_of pz.task pz.subtasks i) refl (stands pz.task pz.subtasks i) e
  where
    go : (z : Option (Option ℕ × ℕ)) → source_of pz.task pz.subtasks i ≡ z → Stands pz.task pz.subtasks i z → look pz (M ++ us) z ≡ None → ⊥
    go None f a e = let g = none_free pz.task pz.subtasks i f in cc
    go (Some (None, k)) f a e =
        let v : slice_get pz.objects k ≡ Some (get_or B i 0) = ap (λ os. slice_get os k) (sym c.task) ∙ value_at B pz.task k i a in cc
    go (Some (Some j, k)) f (s, a, b) e =
        let r = at_child pz.children B M pz.subtasks j s c.done a in
        let l = get_left M us j r.0 r.1 in
        let g : slice_get (objects_of (child_at pz.children r.0)) k ≡ Some (get_or B i 0) = ap (λ w. slice_get (objects_of w) k) r.2 ∙ value_at B s.terms k i b in
        let h : slice_get (objects_of (child_at pz.children r.0)) k ≡ None = ap (λ (o : Option ℕ). elim o [ None ↦ None | Some x ↦ slice_get (objects_of (child_at pz.children x)) k ]) (sym l) ∙ e in cc

-- one term, and one subtask, more, from the last to the first
pub term_more : (j : Option ℕ) (i a n : ℕ) (ts : List Term) (t : Term) (old r z : Option (Option ℕ × ℕ)) → a + 1 ≡ n → drop a ts ≡ t ∷ drop (a + 1) ts →
    r ≡ (if is_variable i t then Some (j, a) else z) → z ≡ first_in j i n (drop n ts) old → r ≡ first_in j i a (drop a ts) old
term_more j i a n ts t old r z e d f g =
    f ∙ ap (λ y. if is_variable i t then Some (j, a) else y) (g ∙ ap (λ m. first_in j i m (drop m ts) old) (sym e)) ∙ ap (λ l. first_in j i a l old) (sym d)

pub subtask_more : (i a n : ℕ) (ss : List Subtask) (s : Subtask) (old r z : Option (Option ℕ × ℕ)) → a + 1 ≡ n → drop a ss ≡ s ∷ drop (a + 1) ss →
    r ≡ first_in (Some a) i 0 s.terms z → z ≡ first_of i n (drop n ss) old → r ≡ first_of i a (drop a ss) old
subtask_more i a n ss s old r z e d f g =
    f ∙ ap (first_in (Some a) i 0 s.terms) (g ∙ ap (λ m. first_of i m (drop m ss) old) (sym e)) ∙ ap (λ l. first_of i a l old) (sym d)
