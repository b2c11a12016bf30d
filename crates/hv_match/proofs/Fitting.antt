-- The tests of a whole choice say that it is a match.
use Rattle.std.proofs.Common.{◌≡◌, ℕ, zero, suc, ◌<◌, Bool, true, false, not, ◌&&◌, List, [], ◌∷◌, ◌++◌, length, map, take, drop, nat_eq, refl, sym, ap, ◌∙◌, arith, if◌then◌else◌, Option, Some, None, eqb-true, eq-eqb, Contains}
use Rattle.std.specs.List.{AllZip}
use Rattle.hv_lists.proofs.Contained.{at_head, in_tail, none_in_empty}
use Rattle.hv_lists.proofs.EachOnce.{once_head, once_tail, once_more}
use Rattle.hv_lists.proofs.Pairs.{same_length}
use Rattle.hv_lists.proofs.Bools.{both_true, and_both}
use Rattle.hv_world.specs.Bindings.{object_of}
use Rattle.hv_world.specs.Values.{Term, Subtask}
use Rattle.hv_world.specs.Alike.{same_name}
use Rattle.hv_lists.specs.Lists.{Once}
use Rattle.hv_match.specs.Possible.{are_possible}
use Rattle.hv_match.specs.inside.Puzzles.{Work, work, Puzzle, child_at, has, is_once, are_in, same_values, does, all_do, all_hold, fits, places, values, is_good, Done, IsMatch}
use Rattle.hv_match.proofs.Members.{once_none}
use Rattle.hv_match.proofs.Factors.{name_is, name_itself}

pub has_mem : (x : ℕ) (ys : List ℕ) → has x ys ≡ true → Contains ys x
has_mem x [] e = cc
has_mem x (y ∷ ys) e = go (nat_eq y x) refl e (has_mem x ys)
  where
    go : (b : Bool) → nat_eq y x ≡ b → (if b then true else has x ys) ≡ true → (has x ys ≡ true → Contains ys x) → Contains (y ∷ ys) x
    go true t e r = at_head y ys x (sym (eqb-true y x t))
    go false t e r = in_tail y ys x (r e)

pub mem_has : (x : ℕ) (ys : List ℕ) → Contains ys x → has x ys ≡ true
mem_has x [] m = absurd (none_in_empty x m)
mem_has x (y ∷ ys) m = go (nat_eq y x) refl m (mem_has x ys)
  where
    go : (b : Bool) → nat_eq y x ≡ b → Contains (y ∷ ys) x → (Contains ys x → has x ys ≡ true) → (if b then true else has x ys) ≡ true
    go true t m r = refl
    go false t (zero, lt, e) r = let s : nat_eq y x ≡ true = eq-eqb y x e in cc
    go false t (suc k, lt, e) r = r (k, omega (arith, lt), e)

once_from : (xs : List ℕ) → is_once xs ≡ true → Once xs
once_from [] e = once_none
once_from (x ∷ xs) e =
    let r = both_true (not (has x xs)) (is_once xs) e in
    once_more x xs (λ m. let t : has x xs ≡ true = mem_has x xs m in let f : not (has x xs) ≡ true = r.0 in let g : not true ≡ true = ap not (sym t) ∙ f in cc) (once_from xs r.1)

none_has : (x : ℕ) (xs : List ℕ) → (Contains xs x → ⊥) → not (has x xs) ≡ true
none_has x xs n = go (has x xs) refl
  where
    go : (b : Bool) → has x xs ≡ b → not b ≡ true
    go true t = absurd (n (has_mem x xs t))
    go false t = refl

pub once_to : (xs : List ℕ) → Once xs → is_once xs ≡ true
once_to [] o = refl
once_to (x ∷ xs) o = and_both (not (has x xs)) (is_once xs) (none_has x xs (once_head x xs o)) (once_to xs (once_tail x xs o))

in_from : (os : List ℕ) (rs : List (List ℕ)) → are_in os rs ≡ true → AllZip (λ (o : ℕ) (r : List ℕ). Contains r o) os rs
in_from [] [] e = tt
in_from [] (r ∷ rs) e = cc
in_from (o ∷ os) [] e = cc
in_from (o ∷ os) (r ∷ rs) e = let b = both_true (has o r) (are_in os rs) e in (has_mem o r b.0, in_from os rs b.1)

in_to : (os : List ℕ) (rs : List (List ℕ)) → AllZip (λ (o : ℕ) (r : List ℕ). Contains r o) os rs → are_in os rs ≡ true
in_to [] [] a = refl
in_to [] (r ∷ rs) a = absurd a
in_to (o ∷ os) [] a = absurd a
in_to (o ∷ os) (r ∷ rs) a = and_both (has o r) (are_in os rs) (mem_has o r a.0) (in_to os rs a.1)

pub values_from : (B : List ℕ) (ts : List Term) (os : List ℕ) → same_values B ts os ≡ true → map (object_of B) ts ≡ os
values_from B [] [] e = refl
values_from B [] (o ∷ os) e = cc
values_from B (t ∷ ts) [] e = cc
values_from B (t ∷ ts) (o ∷ os) e =
    let b = both_true (nat_eq (object_of B t) o) (same_values B ts os) e in
    let f = eqb-true (object_of B t) o b.0 in
    let g = values_from B ts os b.1 in
    rw (f, g) refl

pub values_to : (B : List ℕ) (ts : List Term) (os : List ℕ) → map (object_of B) ts ≡ os → same_values B ts os ≡ true
values_to B [] [] e = refl
values_to B [] (o ∷ os) e = cc
values_to B (t ∷ ts) [] e = cc
values_to B (t ∷ ts) (o ∷ os) e =
    let f : object_of B t ≡ o = cc in let g : map (object_of B) ts ≡ os = cc in
    and_both (nat_eq (object_of B t) o) (same_values B ts os) (eq-eqb (object_of B t) o f) (values_to B ts os g)

pub does_from : (c : Option Work) (B : List ℕ) (s : Subtask) → does c B s ≡ true → c ≡ Some (work s.name (map (object_of B) s.terms))
does_from None B s e = cc
does_from (Some c) B s e =
    let b = both_true (same_name c.name s.name) (same_values B s.terms c.objects) e in
    ap (λ n. Some (work n c.objects)) (name_is c.name s.name b.0) ∙ ap (λ os. Some (work s.name os)) (sym (values_from B s.terms c.objects b.1))

pub does_to : (c : Option Work) (B : List ℕ) (s : Subtask) → c ≡ Some (work s.name (map (object_of B) s.terms)) → does c B s ≡ true
does_to c B s e = ap (λ d. does d B s) e ∙ and_both (same_name s.name s.name) (same_values B s.terms (map (object_of B) s.terms)) (name_itself s.name) (values_to B s.terms (map (object_of B) s.terms) refl)

do_from : (cs : List (Option Work)) (B M : List ℕ) (ss : List Subtask) → all_do cs B M ss ≡ true → AllZip (Done cs B) M ss
do_from cs B [] [] e = tt
do_from cs B [] (s ∷ ss) e = cc
do_from cs B (x ∷ M) [] e = cc
do_from cs B (x ∷ M) (s ∷ ss) e =
    let b = both_true (does (child_at cs x) B s) (all_do cs B M ss) e in
    (does_from (child_at cs x) B s b.0, do_from cs B M ss b.1)

do_to : (cs : List (Option Work)) (B M : List ℕ) (ss : List Subtask) → AllZip (Done cs B) M ss → all_do cs B M ss ≡ true
do_to cs B [] [] a = refl
do_to cs B [] (s ∷ ss) a = absurd a
do_to cs B (x ∷ M) [] a = absurd a
do_to cs B (x ∷ M) (s ∷ ss) a = and_both (does (child_at cs x) B s) (all_do cs B M ss) (does_to (child_at cs x) B s a.0) (do_to cs B M ss a.1)

-- a place at which there is a child is one of the children's
there : (cs : List (Option Work)) (x : ℕ) (c : Work) → child_at cs x ≡ Some c → x < length cs
there [] x c e = cc
there (d ∷ cs) zero c e = omega arith
there (d ∷ cs) (suc x) c e = let r = there cs x c e in omega arith

all_there : (cs : List (Option Work)) (B M : List ℕ) (ss : List Subtask) → AllZip (Done cs B) M ss → (x : ℕ) → Contains M x → x < length cs
all_there cs B [] [] a x m = absurd (none_in_empty x m)
all_there cs B [] (s ∷ ss) a x m = absurd a
all_there cs B (y ∷ M) [] a x m = absurd a
all_there cs B (y ∷ M) (s ∷ ss) a x (zero, lt, e) = let same : x ≡ y = sym e in there cs x (work s.name (map (object_of B) s.terms)) (ap (child_at cs) same ∙ a.0)
all_there cs B (y ∷ M) (s ∷ ss) a x (suc k, lt, e) = all_there cs B M ss a.1 x (k, omega (arith, lt), e)

-- what is tested last
abbrev rest : Puzzle → List ℕ → Bool
rest pz B = all_hold B pz.constraints && are_possible pz.ever B pz.atoms

pub fits_match : (pz : Puzzle) (M B : List ℕ) → nat_eq (length pz.subtasks) (length pz.children) ≡ true → fits pz M B ≡ true → IsMatch pz M B
fits_match pz M B n fit =
    let a = both_true (is_once M) (are_in B pz.ranges && (same_values B pz.task pz.objects && (all_do pz.children B M pz.subtasks && rest pz B))) fit in
    let b = both_true (are_in B pz.ranges) (same_values B pz.task pz.objects && (all_do pz.children B M pz.subtasks && rest pz B)) a.1 in
    let c = both_true (same_values B pz.task pz.objects) (all_do pz.children B M pz.subtasks && rest pz B) b.1 in
    let d = both_true (all_do pz.children B M pz.subtasks) (rest pz B) c.1 in
    let e = both_true (all_hold B pz.constraints) (are_possible pz.ever B pz.atoms) d.1 in
    let done = do_from pz.children B M pz.subtasks d.0 in
    record {
      once = once_from M a.0;
      within = all_there pz.children B M pz.subtasks done;
      all = same_length (Done pz.children B) M pz.subtasks done ∙ eqb-true (length pz.subtasks) (length pz.children) n;
      typed = in_from B pz.ranges b.0;
      task = values_from B pz.task pz.objects c.0;
      done = done;
      constraints = e.0;
      possible = e.1;
    }

pub match_fits : (pz : Puzzle) (M B : List ℕ) → IsMatch pz M B → (nat_eq (length pz.subtasks) (length pz.children) ≡ true) × (fits pz M B ≡ true)
match_fits pz M B c =
    let size : length pz.subtasks ≡ length pz.children = sym (same_length (Done pz.children B) M pz.subtasks c.done) ∙ c.all in (
      eq-eqb (length pz.subtasks) (length pz.children) size,
      and_both (is_once M) (are_in B pz.ranges && (same_values B pz.task pz.objects && (all_do pz.children B M pz.subtasks && rest pz B))) (once_to M c.once)
          (and_both (are_in B pz.ranges) (same_values B pz.task pz.objects && (all_do pz.children B M pz.subtasks && rest pz B)) (in_to B pz.ranges c.typed)
          (and_both (same_values B pz.task pz.objects) (all_do pz.children B M pz.subtasks && rest pz B) (values_to B pz.task pz.objects c.task)
          (and_both (all_do pz.children B M pz.subtasks) (rest pz B) (do_to pz.children B M pz.subtasks c.done) (and_both (all_hold B pz.constraints) (are_possible pz.ever B pz.atoms) c.constraints c.possible)))),
    )

pub good_match : (pz : Puzzle) (q : List ℕ) → is_good pz q ≡ true → IsMatch pz (places pz q) (values pz q)
good_match pz q e =
    let b = both_true (nat_eq (length pz.subtasks) (length pz.children)) (fits pz (places pz q) (values pz q)) e in
    fits_match pz (places pz q) (values pz q) b.0 b.1

take_front : (M B : List ℕ) (n : ℕ) → length M ≡ n → take n (M ++ B) ≡ M
take_front [] B n e = rw (← e) refl
take_front (x ∷ M) B zero e = absurd (omega arith)
take_front (x ∷ M) B (suc n) e = ap (λ (l : List ℕ). x ∷ l) (take_front M B n (omega arith))

drop_front : (M B : List ℕ) (n : ℕ) → length M ≡ n → drop n (M ++ B) ≡ B
drop_front [] B n e = rw (← e) refl
drop_front (x ∷ M) B zero e = absurd (omega arith)
drop_front (x ∷ M) B (suc n) e = drop_front M B n (omega arith)

pub match_parts : (pz : Puzzle) (M B : List ℕ) → IsMatch pz M B → (places pz (M ++ B) ≡ M) × (values pz (M ++ B) ≡ B)
match_parts pz M B c =
    let l = same_length (Done pz.children B) M pz.subtasks c.done in
    (take_front M B (length pz.subtasks) l, drop_front M B (length pz.subtasks) l)

pub match_good : (pz : Puzzle) (M B : List ℕ) → IsMatch pz M B → is_good pz (M ++ B) ≡ true
match_good pz M B c =
    let r = match_fits pz M B c in
    let p = match_parts pz M B c in
    rw (p.0, p.1) (and_both (nat_eq (length pz.subtasks) (length pz.children)) (fits pz M B) r.0 r.1)
