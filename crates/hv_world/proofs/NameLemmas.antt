-- Names in lists of names, and where they stand.
use Rattle.std.proofs.Common.{◌≡◌, ℕ, suc, ◌+◌, ◌<◌, nat_eq, Bool, true, false, not, ◌||◌, List, [], ◌∷◌, ◌++◌, map, length, take, drop, get_or, Option, Some, None, option_map, bytes_eq, if◌then◌else◌, cond, zero, refl, ap, sym, ◌∙◌, subst, arith, position}
use Rattle.std.specs.List.{list_any, position_from, slice_get, IsDistinct}
use Rattle.std.specs.Option.{option_eq, is_some}
use Rattle.std.specs.Map.{lookup}
use Rattle.std.specs.Cmp.Lexicographic.{bytes_decides}
use Rattle.std.proofs.Math.Path.{fun_ext}
use Rattle.std.proofs.lemmas.List.{length-map, length-take-le, map-append, take_more, drop_more, get_or-map}
use Rattle.std.proofs.lemmas.Map.Keys.{IsDistinct-tail, apart_from_distinct}
use Rattle.std.proofs.lemmas.Option.{slice_get_within, get_or_from_slice_get}
use Rattle.std.proofs.lemmas.Iterator.Adapters.{position_from-zero}
use Rattle.std.proofs.lemmas.Grind.{common_steps}
use Rattle.std.proofs.lemmas.Bool.Decides.{nat_tests}
use Rattle.indexmap.specs.IndexMap.{insert_entry}
use Rattle.hv_text.specs.Names.{text_of}
use Rattle.hv_text.specs.declared.name.Name.{Name}
use Rattle.hv_world.specs.Names.{is_among, place_in, number_or, number_in}
use Rattle.hv_world.specs.inside.Tables.{place_beside, with_place}

pub same_name : (n : List ℕ) → bytes_eq n n ≡ true
same_name n = (bytes_decides n n).1 refl

-- a place in a list, counted from a start
from_place : (q : List ℕ) (i : ℕ) (ms : List (List ℕ)) → position_from (bytes_eq q) i ms ≡ option_map (λ k. i + k) (place_in ms q)
from_place q i [] = refl
from_place q i (m ∷ ms) = here_or (bytes_eq q m) (from_place q (i + 1) ms)
  where
    further : (o : Option ℕ) → option_map (λ k. (i + 1) + k) o ≡ option_map (λ k. i + k) (option_map suc o)
    further None = refl
    further (Some k) = ap Some (omega arith)

    here_or : (b : Bool) → position_from (bytes_eq q) (i + 1) ms ≡ option_map (λ k. (i + 1) + k) (place_in ms q)
        → cond b (Some i) (position_from (bytes_eq q) (i + 1) ms) ≡ option_map (λ k. i + k) (if b then Some 0 else option_map suc (place_in ms q))
    here_or true rest = ap Some (omega arith)
    here_or false rest = rest ∙ further (place_in ms q)

pub place_from_start : (q : List ℕ) (ms : List (List ℕ)) → position_from (bytes_eq q) 0 ms ≡ place_in ms q
place_from_start q ms = from_place q 0 ms ∙ same (place_in ms q)
  where
    same : (o : Option ℕ) → option_map (λ k. 0 + k) o ≡ o
    same None = refl
    same (Some k) = ap Some (omega arith)

module _ {X : Type 0} (f : X → List ℕ) where
  pub any-map : (q : List ℕ) (xs : List X) → list_any (bytes_eq q) (map f xs) ≡ list_any (λ x. bytes_eq q (f x)) xs
  any-map q [] = refl
  any-map q (x ∷ xs) = ap (λ b. bytes_eq q (f x) || b) (any-map q xs)

  position-map : (q : List ℕ) (i : ℕ) (xs : List X) → position_from (bytes_eq q) i (map f xs) ≡ position_from (λ x. bytes_eq q (f x)) i xs
  position-map q i [] = refl
  position-map q i (x ∷ xs) = ap (cond (bytes_eq q (f x)) (Some i)) (position-map q (i + 1) xs)

  pub place-map : (q : List ℕ) (xs : List X) → place_in (map f xs) q ≡ position (λ x. bytes_eq q (f x)) xs
  place-map q xs = sym (place_from_start q (map f xs)) ∙ position-map q 0 xs ∙ sym (position_from-zero (λ x. bytes_eq q (f x)) xs)

  pub number-map : (q : List ℕ) (xs : List X) → number_in (map f xs) q ≡ number_or (length xs) (position (λ x. bytes_eq q (f x)) xs)
  number-map q xs = rw (place-map q xs, length-map xs f) refl

  -- the steps of a loop that looks for a name
  pub place_found : (q : List ℕ) (xs : List X) (i : ℕ) (x : X) (all : Option ℕ) → i < length xs → x ≡ get_or xs i x → bytes_eq q (f x) ≡ true
      → position_from (bytes_eq q) i (map f (drop i xs)) ≡ all → Some i ≡ all
  place_found q xs i x all lt is same so_far =
      let split : drop i xs ≡ x ∷ drop (i + 1) xs = drop_more xs i x lt ∙ ap (λ y. y ∷ drop (i + 1) xs) (sym is) in
      ap (λ b. cond b (Some i) (position_from (bytes_eq q) (i + 1) (map f (drop (i + 1) xs)))) (sym same)
      ∙ ap (λ ys. position_from (bytes_eq q) i (map f ys)) (sym split) ∙ so_far

  pub place_next : (q : List ℕ) (xs : List X) (i : ℕ) (x : X) (all : Option ℕ) → i < length xs → x ≡ get_or xs i x → bytes_eq q (f x) ≡ false
      → position_from (bytes_eq q) i (map f (drop i xs)) ≡ all → position_from (bytes_eq q) (i + 1) (map f (drop (i + 1) xs)) ≡ all
  place_next q xs i x all lt is other so_far =
      let split : drop i xs ≡ x ∷ drop (i + 1) xs = drop_more xs i x lt ∙ ap (λ y. y ∷ drop (i + 1) xs) (sym is) in
      ap (λ b. cond b (Some i) (position_from (bytes_eq q) (i + 1) (map f (drop (i + 1) xs)))) (sym other)
      ∙ ap (λ ys. position_from (bytes_eq q) i (map f ys)) (sym split) ∙ so_far

-- the places that a table keeps
pub beside_is : (es : List (Name × ℕ)) (q : List ℕ) → lookup (λ k. bytes_eq q (text_of k)) es ≡ place_beside es q
beside_is [] q = refl
beside_is (e ∷ es) q = ap (λ o. if bytes_eq q (text_of e.0) then Some e.1 else o) (beside_is es q)

-- one more name at the end of a list
pub place-push : (ms : List (List ℕ)) (m q : List ℕ) → place_in (ms ++ m ∷ []) q ≡ with_place (place_in ms) m (length ms) q
place-push [] m q = refl
place-push (x ∷ ms) m q = here_or (bytes_eq q x) (place-push ms m q)
  where
    further : (o : Option ℕ) (b : Bool)
        → option_map suc (elim o [ None ↦ if b then Some (length ms) else None | Some i ↦ Some i ])
        ≡ elim (option_map suc o) [ None ↦ if b then Some (suc (length ms)) else None | Some i ↦ Some i ]
    further (Some i) b = refl
    further None true = refl
    further None false = refl

    here_or : (b : Bool) → place_in (ms ++ m ∷ []) q ≡ with_place (place_in ms) m (length ms) q → (if b then Some 0 else option_map suc (place_in (ms ++ m ∷ []) q))
        ≡ elim (if b then Some 0 else option_map suc (place_in ms q)) [ None ↦ if bytes_eq q m then Some (suc (length ms)) else None | Some i ↦ Some i ]
    here_or true rest = refl
    here_or false rest = ap (option_map suc) rest ∙ further (place_in ms q) (bytes_eq q m)

-- a new name goes to the end of a table
pub place-insert : (es : List (Name × ℕ)) (n : Name) (k : ℕ) (q : List ℕ) → place_beside es (text_of n) ≡ None
    → place_beside (insert_entry (λ a b. bytes_eq (text_of a) (text_of b)) es n k) q ≡ with_place (place_beside es) (text_of n) k q
place-insert [] n k q e = refl
place-insert (x ∷ es) n k q e = not_here (bytes_eq (text_of n) (text_of x.0)) e (place-insert es n k q)
  where
    eq : Name → Name → Bool
    eq a b = bytes_eq (text_of a) (text_of b)

    here_or : (b : Bool) → place_beside (insert_entry eq es n k) q ≡ with_place (place_beside es) (text_of n) k q
        → (if b then Some x.1 else place_beside (insert_entry eq es n k) q)
        ≡ elim (if b then Some x.1 else place_beside es q) [ None ↦ if bytes_eq q (text_of n) then Some k else None | Some i ↦ Some i ]
    here_or true rest = refl
    here_or false rest = rest

    not_here : (b : Bool) → (if b then Some x.1 else place_beside es (text_of n)) ≡ None
        → (place_beside es (text_of n) ≡ None → place_beside (insert_entry eq es n k) q ≡ with_place (place_beside es) (text_of n) k q)
        → place_beside (if b then (x.0, k) ∷ es else x ∷ insert_entry eq es n k) q ≡ with_place (place_beside (x ∷ es)) (text_of n) k q
    not_here true absent rest = absurd (cc)
    not_here false absent rest = here_or (bytes_eq q (text_of x.0)) (rest absent)

-- a name that has a place keeps it
pub place-kept : (places : List ℕ → Option ℕ) (n : List ℕ) (k : ℕ) → is_some (places n) ≡ true → (q : List ℕ) → with_place places n k q ≡ places q
place-kept places n k has q = kept (places q) refl (bytes_eq q n) refl
  where
    none_has : (o : Option ℕ) → o ≡ None → is_some o ≡ true → ⊥
    none_has o e h = absurd (cc)

    kept : (o : Option ℕ) → places q ≡ o → (b : Bool) → bytes_eq q n ≡ b → elim o [ None ↦ if b then Some k else None | Some i ↦ Some i ] ≡ o
    kept (Some i) e b t = refl
    kept None e false t = refl
    kept None e true t = absurd (none_has (places n) (ap places (sym ((bytes_decides q n).0 t)) ∙ e) has)

-- a word stands at the first place of its name, or its name stands before it
pub first_place : (ms : List (List ℕ)) (m : List ℕ) (ls : List (List ℕ)) → option_eq nat_eq (place_in (ms ++ m ∷ ls) m) (Some (length ms)) ≡ not (is_among ms m)
first_place [] m ls = rw (same_name m) refl
first_place (x ∷ ms) m ls = here_or (bytes_eq m x) (first_place ms m ls)
  where
    further : (o : Option ℕ) (k : ℕ) → option_eq nat_eq (option_map suc o) (Some (suc k)) ≡ option_eq nat_eq o (Some k)
    further None k = refl
    further (Some i) k = grind (arith, common_steps, nat_tests)

    here_or : (b : Bool) → option_eq nat_eq (place_in (ms ++ m ∷ ls) m) (Some (length ms)) ≡ not (is_among ms m)
        → option_eq nat_eq (if b then Some 0 else option_map suc (place_in (ms ++ m ∷ ls) m)) (Some (suc (length ms))) ≡ not (b || is_among ms m)
    here_or true rest = grind (arith, common_steps, nat_tests)
    here_or false rest = further (place_in (ms ++ m ∷ ls) m) (length ms) ∙ rest

pub is_none : (o : Option ℕ) → is_some o ≡ false → o ≡ None
is_none None e = refl
is_none (Some i) e = absurd (cc)

-- the step of a loop that notes places
pub places_next : {X : Type 0} (f : X → List ℕ) (xs : List X) (i : ℕ) (x : X) (name : List ℕ) (old new : List ℕ → Option ℕ) → i < length xs → x ≡ get_or xs i x → name ≡ f x
    → old ≡ place_in (map f (take i xs)) → new ≡ with_place old name i → new ≡ place_in (map f (take (i + 1) xs))
places_next f xs i x name old new lt is said so_far added =
    let front : map f (take (i + 1) xs) ≡ map f (take i xs) ++ f x ∷ [] =
    ap (map f) (take_more xs i x lt ∙ ap (λ y. take i xs ++ y ∷ []) (sym is)) ∙ map-append f (take i xs) (x ∷ []) in
    let long : length (map f (take i xs)) ≡ i = length-map (take i xs) f ∙ length-take-le i xs (omega arith) in
    added ∙ ap (λ n. with_place old n i) said ∙ ap (λ places. with_place places (f x) i) so_far
    ∙ ap (with_place (place_in (map f (take i xs))) (f x)) (sym long)
    ∙ sym (fun_ext (place-push (map f (take i xs)) (f x))) ∙ ap place_in (sym front)

pub no_places : (es : List (Name × ℕ)) → es ≡ [] → place_beside es ≡ place_in []
no_places es e = ap place_beside e ∙ fun_ext (λ q. refl)

-- a name stands somewhere where it is among the names
pub somewhere : (ns : List (List ℕ)) (n : List ℕ) → is_some (place_in ns n) ≡ is_among ns n
somewhere [] n = refl
somewhere (m ∷ ms) n = here_or (bytes_eq n m) (further (place_in ms n) ∙ somewhere ms n)
  where
    further : (o : Option ℕ) → is_some (option_map suc o) ≡ is_some o
    further None = refl
    further (Some i) = refl

    here_or : (b : Bool) → is_some (option_map suc (place_in ms n)) ≡ is_among ms n
        → is_some (if b then Some 0 else option_map suc (place_in ms n)) ≡ (b || is_among ms n)
    here_or true rest = refl
    here_or false rest = rest

-- a name that stands at a place of a list which has each once is found there
pub place_of_key : (xs : List Name) (k : ℕ) (n : List ℕ) → IsDistinct (λ a b. bytes_eq (text_of a) (text_of b)) xs
    → slice_get (map text_of xs) k ≡ Some n → place_in (map text_of xs) n ≡ Some k
place_of_key [] k n d e = absurd (let clash : None ≡ Some n = e in cc)
place_of_key (x ∷ xs) zero n d e =
    let both : Some (text_of x) ≡ Some n = e in
    let same : text_of x ≡ n = cc in
    subst (λ m. place_in (text_of x ∷ map text_of xs) m ≡ Some 0) same (rw (same_name (text_of x)) refl)
place_of_key (x ∷ xs) (suc k) n d e = by (bytes_eq n (text_of x)) refl (place_of_key xs k n (IsDistinct-tail (λ a b. bytes_eq (text_of a) (text_of b)) x xs d) e)
  where
    within : k < length xs
    within = let lt = slice_get_within (map text_of xs) k n e in let long = length-map xs text_of in omega (arith, lt, long)

    there : text_of (get_or xs k x) ≡ n
    there = sym (get_or-map text_of xs k x (text_of x) within) ∙ get_or_from_slice_get (map text_of xs) k n (text_of x) e

    by : (b : Bool) → bytes_eq n (text_of x) ≡ b → place_in (map text_of xs) n ≡ Some k
        → (if b then Some 0 else option_map suc (place_in (map text_of xs) n)) ≡ Some (suc k)
    by false t rest = ap (option_map suc) rest
    by true t rest =
        let same : text_of x ≡ text_of (get_or xs k x) = sym ((bytes_decides n (text_of x)).0 t) ∙ sym there in
        let equal = (bytes_decides (text_of x) (text_of (get_or xs k x))).1 same in
        let apart = apart_from_distinct (λ a b. bytes_eq (text_of a) (text_of b)) (x ∷ xs) 0 (suc k) x d (omega arith) (omega (arith, within)) in
        absurd (let clash : true ≡ false = sym equal ∙ apart in cc)

-- a name stands where it is found
pub found_there : (ns : List (List ℕ)) (n : List ℕ) (k : ℕ) → place_in ns n ≡ Some k → slice_get ns k ≡ Some n
found_there [] n k e = absurd (let clash : None ≡ Some k = e in cc)
found_there (m ∷ ms) n k e = by (bytes_eq n m) refl (λ i t. found_there ms n i t) e
  where
    further : (o : Option ℕ) → place_in ms n ≡ o → ((i : ℕ) → place_in ms n ≡ Some i → slice_get ms i ≡ Some n) → option_map suc o ≡ Some k → slice_get (m ∷ ms) k ≡ Some n
    further None t rest f = absurd (let clash : None ≡ Some k = f in cc)
    further (Some i) t rest f =
        let both : Some (suc i) ≡ Some k = f in
        let same : suc i ≡ k = cc in
        subst (λ j. slice_get (m ∷ ms) j ≡ Some n) same (rest i t)

    by : (b : Bool) → bytes_eq n m ≡ b → ((i : ℕ) → place_in ms n ≡ Some i → slice_get ms i ≡ Some n) → (if b then Some 0 else option_map suc (place_in ms n)) ≡ Some k → slice_get (m ∷ ms) k ≡ Some n
    by true t rest f =
        let both : Some 0 ≡ Some k = f in
        let same : 0 ≡ k = cc in
        subst (λ j. slice_get (m ∷ ms) j ≡ Some n) same (ap Some (sym ((bytes_decides n m).0 t)))
    by false t rest f = further (place_in ms n) refl rest f

-- a name that had a place is given it back
pub place-back : (es : List (Name × ℕ)) (n : Name) (k i : ℕ) (q : List ℕ) → place_beside es (text_of n) ≡ Some i
    → place_beside (insert_entry (λ a b. bytes_eq (text_of a) (text_of b)) (insert_entry (λ a b. bytes_eq (text_of a) (text_of b)) es n k) n i) q ≡ place_beside es q
place-back [] n k i q e = absurd (let clash : None ≡ Some i = e in cc)
place-back (x ∷ es) n k i q e = at (bytes_eq (text_of n) (text_of x.0)) refl e (λ f. place-back es n k i q f)
  where
    eq : Name → Name → Bool
    eq a b = bytes_eq (text_of a) (text_of b)

    at : (b : Bool) → bytes_eq (text_of n) (text_of x.0) ≡ b → (if b then Some x.1 else place_beside es (text_of n)) ≡ Some i
        → (place_beside es (text_of n) ≡ Some i → place_beside (insert_entry eq (insert_entry eq es n k) n i) q ≡ place_beside es q)
        → place_beside (insert_entry eq (if b then (x.0, k) ∷ es else x ∷ insert_entry eq es n k) n i) q ≡ place_beside (x ∷ es) q
    at true t f rest =
        let both : Some x.1 ≡ Some i = f in
        let same : x.1 ≡ i = cc in
        rw t (ap (λ j. if bytes_eq q (text_of x.0) then Some j else place_beside es q) (sym same))
    at false t f rest = rw t (ap (λ o. if bytes_eq q (text_of x.0) then Some x.1 else o) (rest f))
