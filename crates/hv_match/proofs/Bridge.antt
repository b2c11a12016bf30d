-- A match of the puzzle of a node is a candidate of the node.
use Rattle.std.proofs.Common.{◌≡◌, ◌≢◌, ℕ, zero, suc, ◌+◌, ◌<◌, Bool, true, false, List, [], ◌∷◌, ◌++◌, length, map, take, drop, get_or, length-append, nat_eq, slice_index, refl, sym, ap, ◌∙◌, arith, subst, Option, Some, None, option_map, All, AllPairs, Contains, eqb-true, eq-eqb, slice_get}
use Rattle.std.proofs.lemmas.List.Elements.{All-nil, All-cons, All-head, All-tail}
use Rattle.std.specs.List.{AllZip}
use Rattle.std.proofs.lemmas.List.{length-map}
use Rattle.hv_lists.proofs.Places.{take_one, map_end}
use Rattle.hv_lists.proofs.Pairs.{zip_end, same_length}
use Rattle.hv_lists.proofs.Contained.{mem_map, map_mem, at_head, in_tail, none_in_empty}
use Rattle.hv_lists.proofs.EachOnce.{once_head, once_tail, once_more}
use Rattle.hv_lists.proofs.Bools.{both_true, and_both}
use Rattle.hv_world.specs.Bindings.{object_of}
use Rattle.hv_world.specs.Values.{Term, object, variable, Subtask, subtask, Constraint}
use Rattle.hv_world.specs.Alike.{instance, subtask_instance}
use Rattle.hv_world.specs.Types.{Typing, Of}
use Rattle.hv_world.specs.Worlds.{World, Method}
use Rattle.hv_lists.specs.Lists.{Once}
use Rattle.hv_world.specs.Views.{type_number}
use Rattle.hv_world.specs.declared.id.TypeId.{TypeId}
use Rattle.hv_match.specs.inside.Search.{below}
use Rattle.hv_match.specs.inside.Parts.{parts}
use Rattle.hv_match.specs.Candidates.{Does, Holds, IsCandidate}
use Rattle.hv_state.specs.Needed.{needed}
use Rattle.hv_match.specs.Possible.{are_possible}
use Rattle.hv_match.specs.inside.Puzzles.{Work, work, Puzzle, child_at, same_bool, holds, all_hold, options, levels, is_good, Done, AreRows, IsMatch}
use Rattle.hv_world.specs.Ranges.{IsRange}
use Rattle.hv_match.specs.inside.Ranges.{AreRanges, as_subtask, IsPuzzleOf, IsTableOf}
use Rattle.hv_match.specs.inside.PuzzleViews.{puzzle_view}
use Rattle.hv_match.specs.declared.puzzle.Puzzle as code_puzzle
use Rattle.hv_match.specs.declared.table.MethodTable.{MethodTable}
use Rattle.hv_match.proofs.Members.{once_none}
use Rattle.hv_match.proofs.Keys.{instances_are}
use Rattle.hv_match.proofs.Fitting.{good_match, match_good, match_parts}
use Rattle.hv_match.proofs.Listing.{listing_to, listing_from, once_below}
use Rattle.hv_match.proofs.Paths.{candidate_path}
use Rattle.hv_match.proofs.Whole.{options_once}

-- one object under both_true readings
one_object : (B : List ℕ) (t : Term) → instance (slice_index B) t ≡ object (object_of B t)
one_object B (object o) = refl
one_object B (variable v) = refl

pub same_objects : (xs ys : List ℕ) → map object xs ≡ map object ys → xs ≡ ys
same_objects [] [] e = refl
same_objects [] (y ∷ ys) e = cc
same_objects (x ∷ xs) [] e = cc
same_objects (x ∷ xs) (y ∷ ys) e =
    let f : object x ≡ object y = cc in let g : map object xs ≡ map object ys = cc in
    let h : x ≡ y = cc in rw (h, same_objects xs ys g) refl

-- children
work_there : (cs : List (Option Work)) (x : ℕ) (c : Work) → child_at cs x ≡ Some c → slice_get (map (option_map as_subtask) cs) x ≡ Some (Some (as_subtask c))
work_there [] x c e = cc
work_there (d ∷ cs) zero c e = ap (λ z. Some (option_map as_subtask z)) e
work_there (d ∷ cs) (suc x) c e = work_there cs x c e

there_work : (cs : List (Option Work)) (x : ℕ) (s : Subtask) → slice_get (map (option_map as_subtask) cs) x ≡ Some (Some s) → (c : Work) × (child_at cs x ≡ Some c) × (as_subtask c ≡ s)
there_work [] x s e = cc
there_work (None ∷ cs) zero s e = cc
there_work (Some c ∷ cs) zero s e = (c, refl, let f : Some (Some (as_subtask c)) ≡ Some (Some s) = e in cc)
there_work (d ∷ cs) (suc x) s e = there_work cs x s e

does_to : (cs : List (Option Work)) (B : List ℕ) (x : ℕ) (s : Subtask) → Done cs B x s → Does (map (option_map as_subtask) cs) B x s
does_to cs B x s d = work_there cs x (work s.name (map (object_of B) s.terms)) d ∙ ap (λ ts. Some (Some (subtask s.name ts))) (instances_are B s.terms)

does_from : (cs : List (Option Work)) (B : List ℕ) (x : ℕ) (s : Subtask) → Does (map (option_map as_subtask) cs) B x s → Done cs B x s
does_from cs B x s d =
    let r = there_work cs x (subtask_instance (slice_index B) s) d in
    let n : r.0.name ≡ s.name = ap (λ (z : Subtask). z.name) r.2 in
    let o : map object r.0.objects ≡ map object (map (object_of B) s.terms) = ap (λ (z : Subtask). z.terms) r.2 ∙ sym (instances_are B s.terms) in
    r.1 ∙ ap (λ k. Some (work k r.0.objects)) n ∙ ap (λ os. Some (work s.name os)) (same_objects r.0.objects (map (object_of B) s.terms) o)

all_to : (cs : List (Option Work)) (B M : List ℕ) (ss : List Subtask) → AllZip (Done cs B) M ss → AllZip (Does (map (option_map as_subtask) cs) B) M ss
all_to cs B [] [] a = tt
all_to cs B [] (s ∷ ss) a = absurd a
all_to cs B (x ∷ M) [] a = absurd a
all_to cs B (x ∷ M) (s ∷ ss) a = (does_to cs B x s a.0, all_to cs B M ss a.1)

all_from : (cs : List (Option Work)) (B M : List ℕ) (ss : List Subtask) → AllZip (Does (map (option_map as_subtask) cs) B) M ss → AllZip (Done cs B) M ss
all_from cs B [] [] a = tt
all_from cs B [] (s ∷ ss) a = absurd a
all_from cs B (x ∷ M) [] a = absurd a
all_from cs B (x ∷ M) (s ∷ ss) a = (does_from cs B x s a.0, all_from cs B M ss a.1)

-- types
typed_to : (w : Typing) (B : List ℕ) (rs : List (List ℕ)) (ts : List ℕ) → AreRanges w rs ts → AllZip (λ (o : ℕ) (r : List ℕ). Contains r o) B rs → AllZip (λ (o t : ℕ). Of w o t) B ts
typed_to w [] [] [] a b = tt
typed_to w [] [] (t ∷ ts) a b = absurd a
typed_to w [] (r ∷ rs) ts a b = absurd b
typed_to w (o ∷ B) [] ts a b = absurd b
typed_to w (o ∷ B) (r ∷ rs) [] a b = absurd a
typed_to w (o ∷ B) (r ∷ rs) (t ∷ ts) a b = ((a.0.exact o).0 b.0, typed_to w B rs ts a.1 b.1)

typed_from : (w : Typing) (B : List ℕ) (rs : List (List ℕ)) (ts : List ℕ) → AreRanges w rs ts → AllZip (λ (o t : ℕ). Of w o t) B ts → AllZip (λ (o : ℕ) (r : List ℕ). Contains r o) B rs
typed_from w [] [] [] a b = tt
typed_from w [] [] (t ∷ ts) a b = absurd a
typed_from w [] (r ∷ rs) [] a b = absurd a
typed_from w [] (r ∷ rs) (t ∷ ts) a b = absurd b
typed_from w (o ∷ B) [] [] a b = absurd b
typed_from w (o ∷ B) [] (t ∷ ts) a b = absurd a
typed_from w (o ∷ B) (r ∷ rs) [] a b = absurd a
typed_from w (o ∷ B) (r ∷ rs) (t ∷ ts) a b = ((a.0.exact o).1 b.0, typed_from w B rs ts a.1 b.1)

-- constraints
held_to : (B : List ℕ) (c : Constraint) → holds B c ≡ true → Holds B c
held_to B c e = go (nat_eq (object_of B c.left) (object_of B c.right)) refl c.is_equal refl e
  where
    go : (b : Bool) → nat_eq (object_of B c.left) (object_of B c.right) ≡ b → (d : Bool) → c.is_equal ≡ d → same_bool b d ≡ true → Holds B c
    go true t true f e = (λ h. f, λ h. one_object B c.left ∙ ap object (eqb-true (object_of B c.left) (object_of B c.right) t) ∙ sym (one_object B c.right))
    go true t false f e = cc
    go false t true f e = cc
    go false t false f e = (
      λ h. (let k : object (object_of B c.left) ≡ object (object_of B c.right) = sym (one_object B c.left) ∙ h ∙ one_object B c.right in
          let n : object_of B c.left ≡ object_of B c.right = cc in
          let s = eq-eqb (object_of B c.left) (object_of B c.right) n in cc),
      λ h. absurd (let s : false ≡ true = sym f ∙ h in cc),
    )

held_from : (B : List ℕ) (c : Constraint) → Holds B c → holds B c ≡ true
held_from B c h = go (nat_eq (object_of B c.left) (object_of B c.right)) refl c.is_equal refl
  where
    go : (b : Bool) → nat_eq (object_of B c.left) (object_of B c.right) ≡ b → (d : Bool) → c.is_equal ≡ d → same_bool b d ≡ true
    go true t true f = refl
    go true t false f =
        let k = one_object B c.left ∙ ap object (eqb-true (object_of B c.left) (object_of B c.right) t) ∙ sym (one_object B c.right) in
        let s : c.is_equal ≡ true = h.0 k in cc
    go false t true f =
        let k : object (object_of B c.left) ≡ object (object_of B c.right) = sym (one_object B c.left) ∙ h.1 f ∙ one_object B c.right in
        let n : object_of B c.left ≡ object_of B c.right = cc in
        let s = eq-eqb (object_of B c.left) (object_of B c.right) n in cc
    go false t false f = refl

pub holds_to : (B : List ℕ) (cs : List Constraint) → all_hold B cs ≡ true → All (Holds B) cs
holds_to B [] e = All-nil _
holds_to B (c ∷ cs) e = let b = both_true (holds B c) (all_hold B cs) e in All-cons (Holds B) c cs (held_to B c b.0) (holds_to B cs b.1)

pub holds_from : (B : List ℕ) (cs : List Constraint) → All (Holds B) cs → all_hold B cs ≡ true
holds_from B [] a = refl
holds_from B (c ∷ cs) a = and_both (holds B c) (all_hold B cs) (held_from B c (All-head (Holds B) c cs a)) (holds_from B cs (All-tail (Holds B) c cs a))

pub within_to : (n : ℕ) (M : List ℕ) → ((x : ℕ) → Contains M x → x < n) → All (λ x. x < n) M
within_to n [] h = All-nil _
within_to n (x ∷ M) h = All-cons (λ x. x < n) x M (h x (at_head x M x refl)) (within_to n M (λ y m. h y (in_tail x M y m)))

within_from : (n : ℕ) (M : List ℕ) → All (λ x. x < n) M → (x : ℕ) → Contains M x → x < n
within_from n [] a x m = absurd (none_in_empty x m)
within_from n (y ∷ M) a x (zero, lt, e) = subst (λ z. z < n) e (All-head (λ x. x < n) y M a)
within_from n (y ∷ M) a x (suc k, lt, e) = within_from n M (All-tail (λ x. x < n) y M a) x (k, omega (arith, lt), e)

module _ (w : World) (m : Method) (os : List ℕ) (cs : List (Option Subtask)) (p : Puzzle) (is : IsPuzzleOf w m os cs p) (M B : List ℕ) where
  as_many : length p.children ≡ length cs
  as_many = sym (length-map p.children (option_map as_subtask)) ∙ ap length is.works

  pub candidate_of : IsMatch p M B → IsCandidate w m os cs M B
  candidate_of c = record {
    once = c.once;
    within = within_to (length cs) M (λ x k. omega (arith, c.within x k, as_many));
    all = c.all ∙ as_many;
    typed = typed_to w.typing B p.ranges m.parameters is.ranges c.typed;
    task = ap (map (instance (slice_index B))) (sym is.task) ∙ sym (instances_are B p.task) ∙ ap (map object) (c.task ∙ is.given);
    done = subst (λ ss. AllZip (Does cs B) M ss) is.subtasks (subst (λ ds. AllZip (Does ds B) M p.subtasks) is.works (all_to p.children B M p.subtasks c.done));
    constraints = subst (λ zs. All (Holds B) zs) is.constraints (holds_to B p.constraints c.constraints);
  }

  pub match_of : IsCandidate w m os cs M B → are_possible p.ever B (needed m.precondition) ≡ true → IsMatch p M B
  match_of c possible = record {
    once = c.once;
    within = λ x k. omega (arith, within_from (length cs) M c.within x k, as_many);
    all = c.all ∙ sym as_many;
    typed = typed_from w.typing B p.ranges m.parameters is.ranges c.typed;
    task = same_objects (map (object_of B) p.task) p.objects (instances_are B p.task ∙ ap (map (instance (slice_index B))) is.task ∙ c.task ∙ ap (map object) (sym is.given));
    done = all_from p.children B M p.subtasks (subst (λ ds. AllZip (Does ds B) M p.subtasks) (sym is.works) (subst (λ ss. AllZip (Does cs B) M ss) (sym is.subtasks) c.done));
    constraints = holds_from B p.constraints (subst (λ zs. All (Holds B) zs) (sym is.constraints) c.constraints);
    possible = ap (are_possible p.ever B) is.atoms ∙ possible;
  }

  pub possible_of : IsMatch p M B → are_possible p.ever B (needed m.precondition) ≡ true
  possible_of c = ap (are_possible p.ever B) (sym is.atoms) ∙ c.possible

-- the puzzle of a node has the table of its method
pub puzzle_of : (w : World) (m : Method) (os : List ℕ) (cs : List (Option Subtask)) (t : MethodTable) (p : code_puzzle.Puzzle)
    → IsTableOf w m t → p.table.now ≡ t → (puzzle_view p).objects ≡ os → map (option_map as_subtask) (puzzle_view p).children ≡ cs → IsPuzzleOf w m os cs (puzzle_view p)
puzzle_of w m os cs t p is e given works =
    let here : IsTableOf w m p.table.now = subst (λ z. IsTableOf w m z) (sym e) is in
    record {
      ranges = here.ranges;
      task = here.task;
      given = given;
      subtasks = here.subtasks;
      constraints = here.constraints;
      works = works;
      atoms = here.needed;
    }

pub more_ranges : {R : Type 0} (w : Typing) (f : R → List ℕ) (rs : List R) (r : R) (ts : List TypeId) (i : ℕ) (d : TypeId) → i < length ts
    → AreRanges w (map f rs) (map type_number (take i ts)) → IsRange w (f r) (get_or ts i d).0 → AreRanges w (map f (rs ++ r ∷ [])) (map type_number (take (i + 1) ts))
more_ranges w f rs r ts i d h a b =
    rw (take_one ts i d h, map_end f rs r, map_end type_number (take i ts) (get_or ts i d)) (zip_end (IsRange w) (map f rs) (map type_number (take i ts)) (f r) (get_or ts i d).0 a b)

-- what a search lists, in its two parts

module _ (p : Puzzle) where
  pub listed_match : (M B : List ℕ) → Contains (map (parts (length p.subtasks)) (below (options p) (is_good p) (levels p) [] 0)) (M, B) → IsMatch p M B
  listed_match M B c =
      let l = below (options p) (is_good p) (levels p) [] 0 in
      let r = map_mem (parts (length p.subtasks)) l (M, B) c in
      let w = listing_to (options p) (is_good p) (levels p) r.0 r.1 in
      let m = good_match p r.0 w.is_good in
      let e : take (length p.subtasks) r.0 ≡ M = ap (λ (z : List ℕ × List ℕ). z.0) r.2 in
      let f : drop (length p.subtasks) r.0 ≡ B = ap (λ (z : List ℕ × List ℕ). z.1) r.2 in
      subst (λ N. IsMatch p N B) e (subst (λ C. IsMatch p (take (length p.subtasks) r.0) C) f m)

  pub match_listed : AreRows p → (M B : List ℕ) → IsMatch p M B → Contains (map (parts (length p.subtasks)) (below (options p) (is_good p) (levels p) [] 0)) (M, B)
  match_listed rows M B c =
      let l = below (options p) (is_good p) (levels p) [] 0 in
      let size : length (M ++ B) ≡ levels p = omega (arith, length-append M B, same_length (Done p.children B) M p.subtasks c.done, same_length (λ (o : ℕ) (r : List ℕ). Contains r o) B p.ranges c.typed) in
      let m : Contains l (M ++ B) = listing_from (options p) (is_good p) (levels p) (M ++ B) (record { whole = size; path = candidate_path p rows M B c; is_good = match_good p M B c }) in
      let q = match_parts p M B c in
      let e : parts (length p.subtasks) (M ++ B) ≡ (M, B) = rw (q.0, q.1) refl in
      subst (λ z. Contains (map (parts (length p.subtasks)) l) z) e (mem_map (parts (length p.subtasks)) l (M ++ B) m)

  whole_again : (n : ℕ) (q : List ℕ) → take n q ++ drop n q ≡ q
  whole_again zero [] = refl
  whole_again zero (x ∷ q) = refl
  whole_again (suc n) [] = refl
  whole_again (suc n) (x ∷ q) = ap (λ (l : List ℕ). x ∷ l) (whole_again n q)

  same_whole : (n : ℕ) (q r : List ℕ) → parts n q ≡ parts n r → q ≡ r
  same_whole n q r e =
      sym (whole_again n q) ∙ ap (λ l. l ++ drop n q) (ap (λ (z : List ℕ × List ℕ). z.0) e) ∙ ap (λ l. take n r ++ l) (ap (λ (z : List ℕ × List ℕ). z.1) e) ∙ whole_again n r

  once_parts : (n : ℕ) (l : List (List ℕ)) → Once l → Once (map (parts n) l)
  once_parts n [] o = once_none
  once_parts n (q ∷ l) o =
      once_more (parts n q) (map (parts n) l) (λ m. let r = map_mem (parts n) l (parts n q) m in once_head q l o (subst (λ z. Contains l z) (same_whole n r.0 q r.2) r.1)) (once_parts n l (once_tail q l o))

  pub listed_once : AreRows p → ((i : ℕ) → Once (get_or p.ranges i [])) → AllPairs ◌≢◌ (map (parts (length p.subtasks)) (below (options p) (is_good p) (levels p) [] 0))
  listed_once rows o =
      once_parts (length p.subtasks) (below (options p) (is_good p) (levels p) [] 0) (once_below (options p) (is_good p) (options_once p rows o) (levels p) [])

pub ranges_once : (w : Typing) (rs : List (List ℕ)) (ts : List ℕ) → AreRanges w rs ts → (i : ℕ) → Once (get_or rs i [])
ranges_once w [] [] a i = once_none
ranges_once w [] (t ∷ ts) a i = absurd a
ranges_once w (r ∷ rs) [] a i = absurd a
ranges_once w (r ∷ rs) (t ∷ ts) a zero = a.0.once
ranges_once w (r ∷ rs) (t ∷ ts) a (suc i) = ranges_once w rs ts a.1 i
