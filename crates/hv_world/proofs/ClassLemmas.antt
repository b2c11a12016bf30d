-- The numbers of classes.
use Rattle.std.proofs.Common.{◌≡◌, ℕ, zero, suc, ◌+◌, ◌<◌, Bool, true, false, true≢false, cond, not, nat_lt, List, [], ◌∷◌, ◌++◌, length, map, drop, get_or, slice_get, Option, Some, None, option_map, Contains, refl, sym, ap, ap₂, ◌∙◌, arith, if◌then◌else◌, All}
use Rattle.std.specs.List.{position, position_or_len}
use Rattle.std.specs.Map.{keys_of}
use Rattle.std.proofs.lemmas.Bool.{ltb-true, lt-ltb}
use Rattle.std.proofs.lemmas.List.Elements.{All-nil, All-cons, All-filter}
use Rattle.indexmap.specs.IndexMap.{insert_entry, set_value_at}
use Rattle.hv_lists.proofs.Bools.{same_bools}
use Rattle.hv_lists.proofs.Contained.{at_head, in_tail, map_mem}
use Rattle.hv_world.specs.contracts.alike.KeyPartialEq.TheImpl.{eq-value as key-value}
use Rattle.hv_world.specs.declared.alike.Key as code_key
use Rattle.hv_world.specs.declared.id.ObjectId.{ObjectId}
use Rattle.hv_world.specs.Bindings.{object_number}
use Rattle.hv_world.specs.Values.{object, TaskName, Subtask}
use Rattle.hv_world.specs.Alike.{is_fixed, fixed_objects, Key, key, keys, same_key, how_many, without, classes, number_in, class_of, with_objects}
use Rattle.hv_world.specs.inside.Kept.{key_view, RowSays, counted}
use Rattle.hv_world.proofs.AlikeLemmas.{key_same, key_itself, key_test, fixed_has, none_at_end}

-- one object more, at a fixed position or another

module _ (f : ℕ → Bool) where
  ids_from : (ids : List ObjectId) (k at : ℕ) (d : ObjectId) → k < length ids
      → fixed_objects f at (map object (map object_number (drop k ids))) ≡ (if f at then (get_or ids k d).0 ∷ fixed_objects f (at + 1) (map object (map object_number (drop (k + 1) ids))) else fixed_objects f (at + 1) (map object (map object_number (drop (k + 1) ids))))
  ids_from [] k at d h = absurd (omega arith)
  ids_from (i ∷ ids) zero at d h = refl
  ids_from (i ∷ ids) (suc k) at d h = let z : suc k + 1 ≡ suc (k + 1) = omega arith in rw z (ids_from ids k at d (omega (arith, h)))

  pub id_kept : (ids : List ObjectId) (k : ℕ) (d : ObjectId) → k < length ids → f k ≡ true
      → fixed_objects f k (map object (map object_number (drop k ids))) ≡ (get_or ids k d).0 ∷ fixed_objects f (k + 1) (map object (map object_number (drop (k + 1) ids)))
  id_kept ids k d h e = ids_from ids k k d h ∙ ap (λ b. if b then (get_or ids k d).0 ∷ fixed_objects f (k + 1) (map object (map object_number (drop (k + 1) ids))) else fixed_objects f (k + 1) (map object (map object_number (drop (k + 1) ids)))) e

  pub id_passed : (ids : List ObjectId) (k : ℕ) → k < length ids → f k ≡ false
      → fixed_objects f k (map object (map object_number (drop k ids))) ≡ fixed_objects f (k + 1) (map object (map object_number (drop (k + 1) ids)))
  id_passed ids k h e =
      let z : ObjectId = record { 0 = 0 } in
      ids_from ids k k z h ∙ ap (λ b. if b then (get_or ids k z).0 ∷ fixed_objects f (k + 1) (map object (map object_number (drop (k + 1) ids))) else fixed_objects f (k + 1) (map object (map object_number (drop (k + 1) ids)))) e

-- the place of a key among those of the code

less : (a b : ℕ) → nat_lt (suc a) (suc b) ≡ nat_lt a b
less a b = same_bools (nat_lt (suc a) (suc b)) (nat_lt a b) (λ e. lt-ltb a b (omega (arith, ltb-true (suc a) (suc b) e))) (λ e. lt-ltb (suc a) (suc b) (omega (arith, ltb-true a b e)))

first_place : (k e : code_key.Key) (es : List code_key.Key) → position_or_len (key-value.it k) (e ∷ es) ≡ (if same_key (key_view k) (key_view e) then 0 else suc (position_or_len (key-value.it k) es))
first_place k e es = go (key-value.it k e) (same_key (key_view k) (key_view e)) (key_test k e)
  where
    go : (b d : Bool) → b ≡ d → cond (not b) (1 + position_or_len (key-value.it k) es) 0 ≡ (if d then 0 else suc (position_or_len (key-value.it k) es))
    go true true e = refl
    go true false e = cc
    go false true e = cc
    go false false e = omega arith

pub found_in : (k : code_key.Key) (es : List (code_key.Key × ℕ)) → position (key-value.it k) (keys_of es) ≡ number_in (key_view k) (map (λ e. (key_view e.0, e.1)) es)
found_in k [] = refl
found_in k (e ∷ es) = ap (λ n. cond (nat_lt n (suc (length (keys_of es)))) (Some n) None) (first_place k e.0 (keys_of es)) ∙ go (same_key (key_view k) (key_view e.0)) (found_in k es)
  where
    n : ℕ
    n = position_or_len (key-value.it k) (keys_of es)

    one_on : (b : Bool) (n : ℕ) → cond b (Some (suc n)) None ≡ option_map suc (cond b (Some n) None)
    one_on true n = refl
    one_on false n = refl

    go : (b : Bool) → position (key-value.it k) (keys_of es) ≡ number_in (key_view k) (map (λ e. (key_view e.0, e.1)) es)
        → cond (nat_lt (if b then 0 else suc n) (suc (length (keys_of es)))) (Some (if b then 0 else suc n)) None ≡ (if b then Some 0 else option_map suc (number_in (key_view k) (map (λ e. (key_view e.0, e.1)) es)))
    go true r = rw (lt-ltb 0 (suc (length (keys_of es))) (omega arith)) refl
    go false r = ap (λ b. cond b (Some (suc n)) None) (less n (length (keys_of es))) ∙ one_on (nat_lt n (length (keys_of es))) n ∙ ap (option_map suc) r

-- the number of a key that is inserted
pub inserted_at : (k : code_key.Key) (n : ℕ) (es : List (code_key.Key × ℕ)) → number_in (key_view k) (map (λ e. (key_view e.0, e.1)) (insert_entry key-value.it es k n)) ≡ Some (position_or_len (key-value.it k) (keys_of es))
inserted_at k n [] = rw (key_itself (key_view k)) refl
inserted_at k n (e ∷ es) = go (key-value.it k e.0) (same_key (key_view k) (key_view e.0)) refl (key_test k e.0) (inserted_at k n es) ∙ ap Some (sym (first_place k e.0 (keys_of es)))
  where
    go : (b d : Bool) → same_key (key_view k) (key_view e.0) ≡ d → b ≡ d → number_in (key_view k) (map (λ e. (key_view e.0, e.1)) (insert_entry key-value.it es k n)) ≡ Some (position_or_len (key-value.it k) (keys_of es))
        → number_in (key_view k) (map (λ e. (key_view e.0, e.1)) (if b then (e.0, n) ∷ es else e ∷ insert_entry key-value.it es k n)) ≡ Some (if d then 0 else suc (position_or_len (key-value.it k) (keys_of es)))
    go true true s t r = rw s refl
    go true false s t r = cc
    go false true s t r = cc
    go false false s t r = rw s (ap (option_map suc) r)

-- classes keep their numbers

more_some : (o : Option ℕ) (i : ℕ) → option_map suc o ≡ Some i → (j : ℕ) × (i ≡ suc j) × (o ≡ Some j)
more_some None i e = cc
more_some (Some j) i e = (j, (let f : i ≡ suc j = cc in f), refl)

pub counted_keeps : (j k : Key) (cs : List (Key × ℕ)) (i : ℕ) → number_in j cs ≡ Some i → number_in j (counted k cs) ≡ Some i
counted_keeps j k [] i e = cc
counted_keeps j k (c ∷ cs) i e = go (same_key k c.0) (counted_keeps j k cs)
  where
    later : (d : Bool) → (if d then Some 0 else option_map suc (number_in j cs)) ≡ Some i → ((n : ℕ) → number_in j cs ≡ Some n → number_in j (counted k cs) ≡ Some n)
        → (if d then Some 0 else option_map suc (number_in j (counted k cs))) ≡ Some i
    later true e r = e
    later false e r = let m = more_some (number_in j cs) i e in rw (r m.0 m.2) (ap Some (sym m.1))

    go : (b : Bool) → ((n : ℕ) → number_in j cs ≡ Some n → number_in j (counted k cs) ≡ Some n) → number_in j (if b then (c.0, c.1 + 1) ∷ cs else c ∷ counted k cs) ≡ Some i
    go true r = e
    go false r = later (same_key j c.0) e r

pub numbers_more : (f : Subtask → Key) (old new : List (Key × ℕ)) → ((k : Key) (i : ℕ) → number_in k old ≡ Some i → number_in k new ≡ Some i) → (ss : List Subtask) (is : List ℕ) (s : Subtask) (i : ℕ)
    → map (λ s. number_in (f s) old) ss ≡ map Some is → number_in (f s) new ≡ Some i → map (λ s. number_in (f s) new) (ss ++ s ∷ []) ≡ map Some (is ++ i ∷ [])
numbers_more f old new h [] [] s i e g = rw g refl
numbers_more f old new h [] (j ∷ is) s i e g = cc
numbers_more f old new h (t ∷ ss) [] s i e g = cc
numbers_more f old new h (t ∷ ss) (j ∷ is) s i e g =
    let first : number_in (f t) old ≡ Some j = cc in
    let others : map (λ s. number_in (f s) old) ss ≡ map Some is = cc in
    rw (h (f t) j first, numbers_more f old new h ss is s i others g) refl

pub number_at : (f : Subtask → Option ℕ) (ss : List Subtask) (is : List ℕ) → map f ss ≡ map Some is → (j : ℕ) → slice_get is j ≡ (elim (slice_get ss j) [ None ↦ None | Some s ↦ f s ])
number_at f [] [] e j = refl
number_at f [] (i ∷ is) e j = cc
number_at f (s ∷ ss) [] e j = cc
number_at f (s ∷ ss) (i ∷ is) e zero = let g : f s ≡ Some i = cc in sym g
number_at f (s ∷ ss) (i ∷ is) e (suc j) = let g : map f ss ≡ map Some is = cc in number_at f ss is g j

-- a name that no subtask has

none_in : (k : Key) (cs : List (Key × ℕ)) → All (λ c. same_key k c.0 ≡ false) cs → number_in k cs ≡ None
none_in k [] a = refl
none_in k (c ∷ cs) a = rw (a 0 c (omega arith), none_in k cs (λ i d h. a (suc i) d (omega (arith, h)))) refl

apart_classes : (k : Key) (ks : List Key) → ((j : Key) → Contains ks j → same_key k j ≡ false) → All (λ c. same_key k c.0 ≡ false) (classes ks)
apart_classes k [] h = All-nil _
apart_classes k (j ∷ ks) h =
    All-cons (λ (c : Key × ℕ). same_key k c.0 ≡ false) (j, how_many j (j ∷ ks)) (without j (classes ks)) (h j (at_head j ks j refl))
    (All-filter (λ c. not (same_key j c.0)) (λ c. same_key k c.0 ≡ false) (classes ks) (apart_classes k ks (λ i m. h i (in_tail j ks i m))))

pub unnamed : (ss : List Subtask) (n : TaskName) (os : List ℕ) → RowSays ss n None → class_of ss (with_objects n os) ≡ None
unnamed ss n os says = none_in k (classes (keys ss)) (apart_classes k (keys ss) (λ j m. apart j m (same_key k j) refl))
  where
    k : Key
    k = key ss (with_objects n os)

    apart : (j : Key) → Contains (keys ss) j → (b : Bool) → same_key k j ≡ b → b ≡ false
    apart j m false e = refl
    apart j m true e =
        let r = map_mem (key ss) ss j m in
        let t = r.0 in
        let names : n ≡ t.name = ap (λ (z : Key). z.name) (key_same k j e ∙ sym r.2) in
        let fixed : is_fixed ss t.name (length t.terms) ≡ true = ap (λ m. is_fixed ss m (length t.terms)) (sym names) ∙ sym (says (length t.terms)) in
        absurd (true≢false (sym (fixed_has ss t (length t.terms) r.1 fixed) ∙ none_at_end t.terms))

-- the entries with a key inserted, and then another value at its place
replaced : (k : code_key.Key) (v w : ℕ) (es : List (code_key.Key × ℕ)) → set_value_at (insert_entry key-value.it es k v) (position_or_len (key-value.it k) (keys_of es)) w ≡ insert_entry key-value.it es k w
replaced k v w [] = refl
replaced k v w (e ∷ es) = go (key-value.it k e.0) (replaced k v w es)
  where
    go : (b : Bool) → set_value_at (insert_entry key-value.it es k v) (position_or_len (key-value.it k) (keys_of es)) w ≡ insert_entry key-value.it es k w
        → set_value_at (if b then (e.0, v) ∷ es else e ∷ insert_entry key-value.it es k v) (cond (not b) (1 + position_or_len (key-value.it k) (keys_of es)) 0) w ≡ (if b then (e.0, w) ∷ es else e ∷ insert_entry key-value.it es k w)
    go true r = refl
    go false r =
        let n = position_or_len (key-value.it k) (keys_of es) in
        let more : 1 + n ≡ suc n = omega arith in
        rw more (ap (λ l. e ∷ l) r)

pub value_replaced : (k : code_key.Key) (v w : ℕ) (es : List (code_key.Key × ℕ)) (i : ℕ) (fs : List (code_key.Key × ℕ)) → fs ≡ insert_entry key-value.it es k v → i ≡ position_or_len (key-value.it k) (keys_of es)
    → set_value_at fs i w ≡ insert_entry key-value.it es k w
value_replaced k v w es i fs e h = ap₂ (λ l j. set_value_at l j w) e h ∙ replaced k v w es
