-- The rows of places.
use Rattle.std.proofs.Common.{◌≡◌, ◌≢◌, ℕ, zero, suc, ◌+◌, ◌<◌, ◌≤◌, ◌⊎◌, Bool, true, false, List, [], ◌∷◌, ◌++◌, length, map, take, drop, set, get_or, slice_get, refl, sym, subst, ap, ◌∙◌, arith, if◌then◌else◌, nat_eq, eq-eqb, eqb-true, Option, Some, None, option_map, get_or-set_same, get_or-set_other, inl, inr, vec_len, Contains, All}
use Rattle.std.proofs.lemmas.List.{append-nil, length-map, map-set, take_all, drop_all}
use Rattle.std.specs.Borrow.{Bor}
use Rattle.std.specs.Global.{Vec}
use Rattle.std.specs.List.{AllClonesOf, AllZip}
use Rattle.hv_lists.proofs.Contained.{at_head, contains_at, contains_cases, in_tail, mem_map, none_in_empty}
use Rattle.hv_world.specs.Values.{Subtask}
use Rattle.hv_world.specs.Alike.{Key, key, keys, same_name, same_key, how_many, classes, class_sizes, number_in, class_of, class_at, subtask_instance}
use Rattle.hv_world.specs.NetworkViews.{network_view}
use Rattle.hv_world.specs.declared.network.Network.{Network}
use Rattle.hv_match.specs.inside.Puzzles.{Work, child_at, places_where, Done, IsRow, AreRowsOf}
use Rattle.hv_match.specs.inside.Tables.{has_name, is_number, is_of_class, row_at, AreClassRows, HasPut, few_places, row_for}
use Rattle.hv_match.specs.declared.child_rows.ChildRows.TheVariants as kinds
use Rattle.hv_match.proofs.Factors.{key_is, key_same, name_itself}
use Rattle.hv_match.proofs.Fitting.{mem_has}
use Rattle.hv_match.proofs.Keys.{class_is}
use Rattle.hv_match.proofs.PlacesWhere.{places_end, places_within, places_once, places_there}

-- the numbers of classes

more_some : (o : Option ℕ) (i : ℕ) → option_map suc o ≡ Some i → (j : ℕ) × (i ≡ suc j) × (o ≡ Some j)
more_some None i e = cc
more_some (Some j) i e = (j, (let f : i ≡ suc j = cc in f), refl)

pub size_of : (ks : List Key) (k : Key) (cs : List (Key × ℕ)) (i : ℕ) → All (λ c. c.1 ≡ how_many c.0 ks) cs → number_in k cs ≡ Some i → get_or (map (λ c. c.1) cs) i 0 ≡ how_many k ks
size_of ks k [] i a e = cc
size_of ks k (c ∷ cs) i a e = go (same_key k c.0) refl e (λ j f. size_of ks k cs j (λ n d h. a (suc n) d (omega (arith, h))) f)
  where
    go : (b : Bool) → same_key k c.0 ≡ b → (if b then Some 0 else option_map suc (number_in k cs)) ≡ Some i → ((j : ℕ) → number_in k cs ≡ Some j → get_or (map (λ (c : Key × ℕ). c.1) cs) j 0 ≡ how_many k ks)
        → get_or (c.1 ∷ map (λ (c : Key × ℕ). c.1) cs) i 0 ≡ how_many k ks
    go true s e r = let z : i ≡ 0 = cc in rw z (a 0 c (omega arith) ∙ ap (λ j. how_many j ks) (sym (key_is k c.0 s)))
    go false s e r = let m = more_some (number_in k cs) i e in rw m.1 (r m.0 m.2)

number_within : (k : Key) (cs : List (Key × ℕ)) (i : ℕ) → number_in k cs ≡ Some i → i < length cs
number_within k [] i e = cc
number_within k (c ∷ cs) i e = go (same_key k c.0) e (number_within k cs)
  where
    go : (b : Bool) → (if b then Some 0 else option_map suc (number_in k cs)) ≡ Some i → ((j : ℕ) → number_in k cs ≡ Some j → j < length cs) → i < suc (length cs)
    go true e r = let z : i ≡ 0 = cc in omega (arith, z)
    go false e r = let m = more_some (number_in k cs) i e in omega (arith, m.1, r m.0 m.2)

has_number : (k : Key) (n : ℕ) (cs : List (Key × ℕ)) → Contains cs (k, n) → (i : ℕ) × (number_in k cs ≡ Some i)
has_number k n [] m = absurd (none_in_empty (k, n) m)
has_number k n (c ∷ cs) m = go (same_key k c.0) refl (contains_cases c cs (k, n) m) (has_number k n cs)
  where
    go : (b : Bool) → same_key k c.0 ≡ b → ((k, n) ≡ c) ⊎ Contains cs (k, n) → (Contains cs (k, n) → (i : ℕ) × (number_in k cs ≡ Some i)) → (i : ℕ) × ((if b then Some 0 else option_map suc (number_in k cs)) ≡ Some i)
    go true s h r = (0, refl)
    go false s (inl e) r = let t : same_key k c.0 ≡ true = ap (λ (d : Key × ℕ). same_key k d.0) (sym e) ∙ key_same k in cc
    go false s (inr h) r = let f = r h in (suc f.0, ap (option_map suc) f.1)

-- rows that will do

pub some_at : (ss : List Subtask) (j : ℕ) → j < length ss → (s : Subtask) × (slice_get ss j ≡ Some s)
some_at [] j h = absurd (omega arith)
some_at (s ∷ ss) zero h = (s, refl)
some_at (s ∷ ss) (suc j) h = some_at ss j (omega arith)

module _ (ss : List Subtask) (cs : List (Option Work)) (s : Subtask) where
  row_of : (test : Option Work → Bool) → test None ≡ false → ((t : Subtask) → Contains ss t → key ss t ≡ key ss s → (B : List ℕ) (x : ℕ) → Done cs B x t → test (child_at cs x) ≡ true) → IsRow ss cs s (places_where test 0 cs)
  row_of test none passes = record {
    once = places_once test 0 cs;
    within = λ x m. omega (arith, (places_within test 0 cs x m).1);
    all = λ t there same B x d.
        (let z : 0 + x ≡ x = omega arith in
        mem_has x (places_where test 0 cs) (subst (Contains (places_where test 0 cs)) z (places_there test 0 cs x none (passes t there same B x d))));
  }

  -- that of the children of its name
  pub named_row : IsRow ss cs s (places_where (has_name s.name) 0 cs)
  named_row = row_of (has_name s.name) refl (λ t there same B x d. ap (has_name s.name) d ∙ ap (λ (k : Key). same_name k.name s.name) same ∙ name_itself s.name)

  -- that of the children of its class
  pub class_row : ((t : Subtask) (g : ℕ → ℕ) → Contains ss t → key ss (subtask_instance g t) ≡ key ss t) → (i : ℕ) → class_of ss s ≡ Some i → IsRow ss cs s (places_where (is_of_class ss i) 0 cs)
  class_row instances i e = row_of (is_of_class ss i) refl (λ t there same B x d.
      ap (is_number i) (class_is ss instances cs B x t there d ∙ ap (λ k. number_in k (classes (keys ss))) same ∙ e) ∙ eq-eqb i i refl)

-- those of all children, where they are few
child_below : (cs : List (Option Work)) (x : ℕ) (w : Work) → child_at cs x ≡ Some w → x < length cs
child_below [] x w e = cc
child_below (c ∷ cs) zero w e = omega arith
child_below (c ∷ cs) (suc x) w e = omega (arith, child_below cs x w e)

each_place : (k : ℕ) (cs : List (Option Work)) (x : ℕ) → x < length cs → Contains (places_where (λ c. true) k cs) (k + x)
each_place k [] x h = absurd (omega arith)
each_place k (c ∷ cs) zero h = let z : k + 0 ≡ k = omega arith in rw z (at_head k (places_where (λ c. true) (k + 1) cs) k refl)
each_place k (c ∷ cs) (suc x) h = let z : k + suc x ≡ k + 1 + x = omega arith in rw z (in_tail k (places_where (λ c. true) (k + 1) cs) (k + 1 + x) (each_place (k + 1) cs x (omega (arith, h))))

first_places : (cs : List (Option Work)) → length cs ≤ 4 → take (length cs) few_places ≡ places_where (λ c. true) 0 cs
first_places [] h = refl
first_places (a ∷ []) h = refl
first_places (a ∷ b ∷ []) h = refl
first_places (a ∷ b ∷ c ∷ []) h = refl
first_places (a ∷ b ∷ c ∷ d ∷ []) h = refl
first_places (a ∷ b ∷ c ∷ d ∷ e ∷ cs) h = absurd (omega (arith, h))

pub all_rows : (ss : List Subtask) (cs : List (Option Work)) → length cs ≤ 4 → AreRowsOf ss cs (row_for (kinds.All (length cs)))
all_rows ss cs few j s h = subst (IsRow ss cs s) (sym (first_places cs few)) (record {
  once = places_once (λ c. true) 0 cs;
  within = λ x m. omega (arith, (places_within (λ c. true) 0 cs x m).1);
  all = λ t there same B x d.
      (let z : 0 + x ≡ x = omega arith in
      mem_has x (places_where (λ c. true) 0 cs) (subst (Contains (places_where (λ c. true) 0 cs)) z (each_place 0 cs x (child_below cs x _ d))));
})

pub named_rows : (ss : List Subtask) (cs : List (Option Work)) (ls : List (List ℕ)) → ls ≡ map (λ s. places_where (has_name s.name) 0 cs) ss → AreRowsOf ss cs (row_for (kinds.Named ls))
named_rows ss cs ls same j s h = subst (IsRow ss cs s) (sym (ap (λ (l : List (List ℕ)). get_or l j []) same ∙ go ss j h)) (named_row ss cs s)
  where
    go : (ss : List Subtask) (j : ℕ) → slice_get ss j ≡ Some s → get_or (map (λ s. places_where (has_name s.name) 0 cs) ss) j [] ≡ places_where (has_name s.name) 0 cs
    go [] j h = cc
    go (t ∷ ss) zero h = let f : t ≡ s = cc in ap (λ z. places_where (has_name z.name) 0 cs) f
    go (t ∷ ss) (suc j) h = go ss j h

pub class_rows : (n : Bor Network) (cs : List (Option Work)) (rows : List (Vec ℕ)) (ls : List (List ℕ))
    → ((t : Subtask) (g : ℕ → ℕ) → Contains (network_view n.now).subtasks t → key (network_view n.now).subtasks (subtask_instance g t) ≡ key (network_view n.now).subtasks t)
    → ((ks : List Key) (k : Key) → Contains ks k → Contains (classes ks) (k, how_many k ks))
    → AreClassRows (network_view n.now).subtasks cs rows → ls ≡ map (λ v. v.items) rows
    → AreRowsOf (network_view n.now).subtasks cs (row_for (kinds.Alike n ls))
class_rows n cs rows ls instances each are same j s h =
    let ss = (network_view n.now).subtasks in
    let k = key ss s in
    let c = has_number k (how_many k (keys ss)) (classes (keys ss)) (each (keys ss) k (mem_map (key ss) ss s (contains_at ss j s h))) in
    let at : class_at ss j ≡ Some c.0 = ap (λ (o : Option Subtask). elim o [ None ↦ None | Some t ↦ class_of ss t ]) h ∙ c.1 in
    let within : c.0 < length (class_sizes ss) = omega (arith, number_within k (classes (keys ss)) c.0 c.1, length-map (classes (keys ss)) (λ (c : Key × ℕ). c.1)) in
    let row : row_for (kinds.Alike n ls) j ≡ places_where (is_of_class ss c.0) 0 cs =
    ap (λ (o : Option ℕ). elim o [ None ↦ [] | Some i ↦ get_or ls i [] ]) at ∙ ap (λ (l : List (List ℕ)). get_or l c.0 []) same ∙ are c.0 within in
    subst (IsRow ss cs s) (sym row) (class_row ss cs s instances c.0 c.1)

-- one place more

pub put_nowhere : (place : ℕ) (rows : List (Vec ℕ)) → HasPut None place rows rows
put_nowhere place rows i lt = sym (append-nil (row_at rows i))

apart_number : (n i : ℕ) → n ≢ i → nat_eq n i ≡ false
apart_number n i other = go (nat_eq n i) refl
  where
    go : (b : Bool) → nat_eq n i ≡ b → b ≡ false
    go true e = absurd (other (eqb-true n i e))
    go false e = refl

pub put_behind : (at place : ℕ) (rows : List (Vec ℕ)) → length rows ≤ at → HasPut (Some at) place rows rows
put_behind at place rows high i lt = sym (ap (λ b. row_at rows i ++ (if b then place ∷ [] else [])) (apart_number at i (λ e. omega (arith, e, high, lt))) ∙ append-nil (row_at rows i))

pub put_there : (at place : ℕ) (rows : List (Vec ℕ)) (was now : Vec ℕ) → at < length rows → now.items ≡ (get_or rows at was).items ++ place ∷ [] → HasPut (Some at) place rows (set rows at now)
put_there at place rows was now lt more i within = ap (λ (ls : List (List ℕ)). get_or ls i []) (map-set (λ v. v.items) rows at now) ∙ go (nat_eq at i) refl
  where
    lists : List (List ℕ)
    lists = map (λ (v : Vec ℕ). v.items) rows

    read : (rows : List (Vec ℕ)) (at : ℕ) → at < length rows → get_or (map (λ (v : Vec ℕ). v.items) rows) at [] ≡ (get_or rows at was).items
    read [] at h = absurd (omega arith)
    read (v ∷ rows) zero h = refl
    read (v ∷ rows) (suc at) h = read rows at (omega arith)

    go : (b : Bool) → nat_eq at i ≡ b → get_or (set lists at now.items) i [] ≡ get_or lists i [] ++ (if b then place ∷ [] else [])
    go true e =
        let z : i ≡ at = sym (eqb-true at i e) in
        rw z (get_or-set_same lists at now.items [] (omega (arith, lt, length-map rows (λ (v : Vec ℕ). v.items))) ∙ more ∙ ap (λ (l : List ℕ). l ++ place ∷ []) (sym (read rows at lt)))
    go false e =
        let apart : i ≢ at = λ z. (let t : nat_eq at i ≡ true = eq-eqb at i (sym z) in let clash : false ≡ true = sym e ∙ t in cc) in
        get_or-set_other lists at i now.items [] apart ∙ sym (append-nil (get_or lists i []))

-- one child more
pub child_put : (ss : List Subtask) (cs : List (Option Work)) (c : Option Work) (class : Option ℕ) (place : ℕ) (old new : List (Vec ℕ)) → length cs ≡ place → length old ≡ length (class_sizes ss)
    → ((i : ℕ) → is_number i class ≡ is_of_class ss i c) → HasPut class place old new → AreClassRows ss cs old → AreClassRows ss (cs ++ c ∷ []) new
child_put ss cs c class place old new size many is put are i lt =
    let z : 0 + length cs ≡ place = omega (arith, size) in
    let end = places_end (is_of_class ss i) 0 cs c in
    let end' = rw z at end in
    put i (omega (arith, lt, many)) ∙ ap (λ (l : List ℕ). l ++ (if is_number i class then place ∷ [] else [])) (are i lt)
    ∙ ap (λ b. places_where (is_of_class ss i) 0 cs ++ (if b then place ∷ [] else [])) (is i) ∙ sym end'

-- a list written back over all of another
pub written_back : {X : Type 0} (n : ℕ) (new old : List X) → length new ≡ length old → length old ≡ n → take n (new ++ drop (length new) old) ≡ new
written_back n new old e f = rw (drop_all (length new) old (omega (arith, e)), append-nil new) (take_all n new (omega (arith, e, f)))

-- clones of an empty row are empty
none_paired : (R : ℕ → ℕ → Type 0) (xs ys : List ℕ) → xs ≡ [] → AllZip R xs ys → ys ≡ []
none_paired R [] [] e a = refl
none_paired R [] (y ∷ ys) e a = absurd a
none_paired R (x ∷ xs) ys e a = cc

abbrev pub IsClone : Vec ℕ → Vec ℕ → Type 0
IsClone v u = AllZip (λ x y. y ≡ x) v.items u.items × (vec_len u ≡ vec_len v)

pub all_empty : (v : Vec ℕ) (rows : List (Vec ℕ)) → AllClonesOf IsClone v rows → v.items ≡ [] → (i : ℕ) → row_at rows i ≡ []
all_empty v [] a e i = refl
all_empty v (r ∷ rows) (inl f, a) e zero = ap (λ (u : Vec ℕ). u.items) f ∙ e
all_empty v (r ∷ rows) (inr k, a) e zero = none_paired (λ x y. y ≡ x) v.items r.items e k.0
all_empty v (r ∷ rows) (k, a) e (suc i) = all_empty v rows a e i
