-- Classes of alike subtasks, and free parameters, one step after another.
use Rattle.std.proofs.Common.{◌≡◌, ℕ, zero, suc, ◌+◌, ◌<◌, ◌≤◌, Bool, true, false, cond, not, ◌&&◌, ◌||◌, List, [], ◌∷◌, ◌++◌, length, map, filter, take, drop, replicate, get_or, Option, Some, None, unwrap_or, option_map, Contains, refl, sym, ap, ◌∙◌, subst, arith, if◌then◌else◌, All}
use Rattle.std.specs.Str.{bytes_eq}
use Rattle.std.specs.Map.{lookup}
use Rattle.std.specs.List.{range_with_len}
use Rattle.std.proofs.lemmas.Bool.{eqb-true, eq-eqb}
use Rattle.std.proofs.lemmas.List.Elements.{All-cons, All-filter}
use Rattle.std.proofs.Math.Seq.{take-append_seam}
use Rattle.std.proofs.lemmas.Slice.Eq.{bytes_eq-Decides}
use Rattle.std.proofs.lemmas.List.{append-nil}
use Rattle.indexmap.specs.IndexMap.{insert_entry}
use Rattle.hv_lists.proofs.Bools.{both_true}
use Rattle.hv_world.specs.contracts.alike.KeyPartialEq.TheImpl.{eq-value as key-value}
use Rattle.hv_world.specs.declared.alike.Key as code_key
use Rattle.hv_world.specs.contracts.id.TaskNamePartialEq.TheImpl.{eq-value}
use Rattle.hv_world.specs.declared.id.TaskName as code
use Rattle.hv_world.specs.declared.id.TaskName.TheVariants as names
use Rattle.hv_world.specs.declared.formula.Term as code_term
use Rattle.hv_world.specs.declared.formula.Term.TheVariants as terms
use Rattle.hv_world.specs.Views.{name_view, term_view}
use Rattle.hv_world.specs.Values.{Term, object, variable, TaskName, compound, primitive, Subtask}
use Rattle.hv_world.specs.Alike.{has_object, same_name, is_fixed, fixed_objects, Key, same_key, how_many, without, classes, is_variable, has_variable, is_argument, is_free, is_object}
use Rattle.hv_world.specs.inside.Kept.{key_view, is_name, is_marked, kept_marks, RowSays, counted}

-- names

pub name_same : (m n : TaskName) → same_name m n ≡ true → m ≡ n
name_same (compound t) (compound u) e = ap compound (eqb-true t u e)
name_same (compound t) (primitive b) e = cc
name_same (primitive a) (compound u) e = cc
name_same (primitive a) (primitive b) e = ap primitive (eqb-true a b e)

pub same_itself : (n : TaskName) → same_name n n ≡ true
same_itself (compound t) = eq-eqb t t refl
same_itself (primitive a) = eq-eqb a a refl

-- the code's test of names
pub name_test : (m n : code.TaskName) → eq-value.it m n ≡ is_name m n
name_test (names.Compound t) (names.Compound u) = refl
name_test (names.Compound t) (names.Primitive b) = refl
name_test (names.Primitive a) (names.Compound u) = refl
name_test (names.Primitive a) (names.Primitive b) = refl

-- marks

pub marked_objects_are : (xs : List Term) (k : ℕ) → is_marked (map is_object xs) k ≡ has_object xs k
marked_objects_are [] k = refl
marked_objects_are (object o ∷ xs) zero = refl
marked_objects_are (variable v ∷ xs) zero = refl
marked_objects_are (object o ∷ xs) (suc k) = marked_objects_are xs k
marked_objects_are (variable v ∷ xs) (suc k) = marked_objects_are xs k

-- an object at a position of the code's terms
pub object_there : (xs : List code_term.Term) (k : ℕ) (d : code_term.Term) → k < length xs → is_object (term_view (get_or xs k d)) ≡ has_object (map term_view xs) k
object_there [] k d h = absurd (omega arith)
object_there (terms.Object o ∷ xs) zero d h = refl
object_there (terms.Variable v ∷ xs) zero d h = refl
object_there (terms.Object o ∷ xs) (suc k) d h = object_there xs k d (omega arith)
object_there (terms.Variable v ∷ xs) (suc k) d h = object_there xs k d (omega arith)

pub none_there : (xs : List Term) (k : ℕ) → length xs ≤ k → false ≡ has_object xs k
none_there [] k h = refl
none_there (object o ∷ xs) zero h = absurd (omega arith)
none_there (variable v ∷ xs) zero h = absurd (omega arith)
none_there (object o ∷ xs) (suc k) h = none_there xs k (omega arith)
none_there (variable v ∷ xs) (suc k) h = none_there xs k (omega arith)

kept_from : (xs : List Term) (j : ℕ) (bs : List Bool) (k : ℕ) → is_marked (kept_marks xs j bs) k ≡ is_marked bs k && has_object xs (j + k)
kept_from xs j [] k = refl
kept_from xs j (b ∷ bs) zero = let z : j + 0 ≡ j = omega arith in rw z refl
kept_from xs j (b ∷ bs) (suc k) = let z : j + suc k ≡ j + 1 + k = omega arith in rw z (kept_from xs (j + 1) bs k)

pub kept_are : (xs : List Term) (bs : List Bool) (k : ℕ) → is_marked (kept_marks xs 0 bs) k ≡ is_marked bs k && has_object xs k
kept_are xs bs k = let z : 0 + k ≡ k = omega arith in kept_from xs 0 bs k ∙ ap (λ n. is_marked bs k && has_object xs n) z

-- fixed positions

and_assoc : (a b c : Bool) → ((a && b) && c) ≡ (a && (b && c))
and_assoc true b c = refl
and_assoc false b c = refl

and_true : (a : Bool) → (a && true) ≡ a
and_true true = refl
and_true false = refl

pub fixed_more : (ss : List Subtask) (s : Subtask) (n : TaskName) (k : ℕ) → is_fixed (ss ++ s ∷ []) n k ≡ is_fixed ss n k && (if same_name s.name n then has_object s.terms k else true)
fixed_more [] s n k = and_true (if same_name s.name n then has_object s.terms k else true)
fixed_more (z ∷ ss) s n k = ap (λ b. (if same_name z.name n then has_object z.terms k else true) && b) (fixed_more ss s n k) ∙ sym (and_assoc (if same_name z.name n then has_object z.terms k else true) (is_fixed ss n k) (if same_name s.name n then has_object s.terms k else true))

-- a row after one subtask more of its name
pub row_kept : (ss : List Subtask) (s : Subtask) (n : TaskName) (row row' : List Bool) → same_name s.name n ≡ true → RowSays ss n (Some row)
    → ((k : ℕ) → is_marked row' k ≡ is_marked row k && has_object s.terms k) → RowSays (ss ++ s ∷ []) n (Some row')
row_kept ss s n row row' e says marks k =
    marks k ∙ ap (λ b. b && has_object s.terms k) (says k) ∙ ap (λ b. is_fixed ss n k && (if b then has_object s.terms k else true)) (sym e) ∙ sym (fixed_more ss s n k)

-- a row after the first subtask of its name
pub row_made : (ss : List Subtask) (s : Subtask) (n : TaskName) (row : List Bool) → same_name s.name n ≡ true → RowSays ss n None
    → ((k : ℕ) → is_marked row k ≡ has_object s.terms k) → RowSays (ss ++ s ∷ []) n (Some row)
row_made ss s n row e says marks k =
    marks k ∙ ap (λ b. b && has_object s.terms k) (says k) ∙ ap (λ b. is_fixed ss n k && (if b then has_object s.terms k else true)) (sym e) ∙ sym (fixed_more ss s n k)

-- a row after a subtask of another name
pub row_stays : (ss : List Subtask) (s : Subtask) (n : TaskName) (r : Option (List Bool)) → same_name s.name n ≡ false → RowSays ss n r → RowSays (ss ++ s ∷ []) n r
row_stays ss s n None e says = λ k. says k ∙ sym (fixed_more ss s n k ∙ ap (λ b. is_fixed ss n k && (if b then has_object s.terms k else true)) e ∙ and_true (is_fixed ss n k))
row_stays ss s n (Some row) e says = λ k. says k ∙ sym (and_true (is_fixed ss n k)) ∙ ap (λ b. is_fixed ss n k && (if b then has_object s.terms k else true)) (sym e) ∙ sym (fixed_more ss s n k)

pub lookup_same : {K X : Type 0} (t u : K → Bool) → ((x : K) → t x ≡ u x) → (es : List (K × X)) → lookup t es ≡ lookup u es
lookup_same t u h [] = refl
lookup_same t u h (e ∷ es) = ap (λ b. cond b (Some e.1) (lookup t es)) (h e.0) ∙ ap (λ r. cond (u e.0) (Some e.1) r) (lookup_same t u h es)

-- what has the same name is looked up alike
pub looked_up : {X : Type 0} (m n : code.TaskName) (es : List (code.TaskName × X)) (r : Option X) → lookup (is_name m) es ≡ r
    → cond (is_name m n) r (lookup (is_name n) es) ≡ lookup (is_name n) es
looked_up m n es r e = go (is_name m n) refl
  where
    go : (b : Bool) → is_name m n ≡ b → cond b r (lookup (is_name n) es) ≡ lookup (is_name n) es
    go true h = sym e ∙ lookup_same (is_name m) (is_name n) (λ x. ap (λ v. same_name v (name_view x)) (name_same (name_view m) (name_view n) h)) es
    go false h = refl

-- the objects at fixed positions

pub fixed_objects_same : (f g : ℕ → Bool) → ((k : ℕ) → f k ≡ g k) → (k : ℕ) (xs : List Term) → fixed_objects f k xs ≡ fixed_objects g k xs
fixed_objects_same f g h k [] = refl
fixed_objects_same f g h k (object o ∷ xs) = rw (h k, fixed_objects_same f g h (k + 1) xs) refl
fixed_objects_same f g h k (variable v ∷ xs) = fixed_objects_same f g h (k + 1) xs

-- at a fixed position each subtask of the name has an object
pub fixed_has : (ss : List Subtask) (s : Subtask) (k : ℕ) → Contains ss s → is_fixed ss s.name k ≡ true → has_object s.terms k ≡ true
fixed_has [] s k (i, h, e) f = absurd (omega arith)
fixed_has (z ∷ ss) s k (zero, h, e) f =
    let same : same_name z.name s.name ≡ true = ap (λ r. same_name r.name s.name) e ∙ same_itself s.name in
    let first : (if same_name z.name s.name then has_object z.terms k else true) ≡ true = (both_true _ _ f).0 in
    sym (ap (λ r. has_object r.terms k) e) ∙ sym (ap (λ b. if b then has_object z.terms k else true) same) ∙ first
fixed_has (z ∷ ss) s k (suc i, h, e) f = fixed_has ss s k (i, omega arith, e) (both_true _ _ f).1

pub none_at_end : (xs : List Term) → has_object xs (length xs) ≡ false
none_at_end [] = refl
none_at_end (object o ∷ xs) = none_at_end xs
none_at_end (variable v ∷ xs) = none_at_end xs

-- classes

pub key_same : (j k : Key) → same_key j k ≡ true → j ≡ k
key_same j k e =
    let h = both_true _ _ e in
    let n : j.name ≡ k.name = name_same j.name k.name h.0 in
    let o : j.objects ≡ k.objects = (bytes_eq-Decides j.objects k.objects).0 h.1 in
    λ i. record { name = n i; objects = o i }

pub key_itself : (k : Key) → same_key k k ≡ true
key_itself k = rw (same_itself k.name) ((bytes_eq-Decides k.objects k.objects).1 refl)

-- what is counted

pub key_differs : (j k : Key) → same_key k j ≡ false → same_key j k ≡ false
key_differs j k e = go (same_key j k) refl
  where
    go : (b : Bool) → same_key j k ≡ b → b ≡ false
    go false h = refl
    go true h = let same : same_key k j ≡ true = ap (same_key k) (key_same j k h) ∙ key_itself k in cc

other_key : (j k : Key) (cs : List (Key × ℕ)) → same_key j k ≡ true → without j (counted k cs) ≡ without j cs
other_key j k [] e = ap (λ b. if not b then (k, 1) ∷ [] else []) e
other_key j k (c ∷ cs) e = go (same_key k c.0) refl (other_key j k cs e)
  where
    go : (b : Bool) → same_key k c.0 ≡ b → without j (counted k cs) ≡ without j cs → without j (if b then (c.0, c.1 + 1) ∷ cs else c ∷ counted k cs) ≡ without j (c ∷ cs)
    go true h r =
        let same : same_key j c.0 ≡ true = ap (λ i. same_key i c.0) (key_same j k e) ∙ h in
        rw same refl
    go false h r = ap (λ l. if not (same_key j c.0) then c ∷ l else l) r

another_key : (j k : Key) (cs : List (Key × ℕ)) → same_key j k ≡ false → without j (counted k cs) ≡ counted k (without j cs)
another_key j k [] e = ap (λ b. if not b then (k, 1) ∷ [] else []) e
another_key j k (c ∷ cs) e = go (same_key k c.0) refl (same_key j c.0) refl (another_key j k cs e)
  where
    go : (b : Bool) → same_key k c.0 ≡ b → (d : Bool) → same_key j c.0 ≡ d → without j (counted k cs) ≡ counted k (without j cs)
        → without j (if b then (c.0, c.1 + 1) ∷ cs else c ∷ counted k cs) ≡ counted k (if not d then c ∷ without j cs else without j cs)
    go true h true d r = let clash : same_key j k ≡ true = ap (same_key j) (key_same k c.0 h) ∙ d in cc
    go true h false d r = rw (d, h) refl
    go false h true d r = rw d r
    go false h false d r = rw (d, h) (ap (λ l. c ∷ l) r)

many_more : (j : Key) (ks : List Key) (k : Key) → how_many j (ks ++ k ∷ []) ≡ how_many j ks + (if same_key j k then 1 else 0)
many_more j [] k = omega arith
many_more j (i ∷ ks) k = let r : how_many j (ks ++ k ∷ []) ≡ how_many j ks + (if same_key j k then 1 else 0) = many_more j ks k in omega (arith, r)

-- one key more is one more of its class
pub classes_more : (ks : List Key) (k : Key) → classes (ks ++ k ∷ []) ≡ counted k (classes ks)
classes_more [] k = ap (λ b. (k, (if b then 1 else 0) + 0) ∷ []) (key_itself k)
classes_more (j ∷ ks) k = go (same_key k j) refl (classes_more ks k)
  where
    go : (b : Bool) → same_key k j ≡ b → classes (ks ++ k ∷ []) ≡ counted k (classes ks)
        → (j, how_many j (j ∷ ks ++ k ∷ [])) ∷ without j (classes (ks ++ k ∷ [])) ≡ (if b then (j, how_many j (j ∷ ks) + 1) ∷ without j (classes ks) else (j, how_many j (j ∷ ks)) ∷ counted k (without j (classes ks)))
    go true h r =
        let same : same_key j k ≡ true = ap (same_key j) (key_same k j h) ∙ key_itself j in
        let more : how_many j (ks ++ k ∷ []) ≡ how_many j ks + 1 = many_more j ks k ∙ ap (λ d. how_many j ks + (if d then 1 else 0)) same in
        let n : how_many j (j ∷ ks ++ k ∷ []) ≡ how_many j (j ∷ ks) + 1 = omega (arith, more) in
        ap (λ m. (j, m) ∷ without j (classes (ks ++ k ∷ []))) n ∙ ap (λ l. (j, how_many j (j ∷ ks) + 1) ∷ l) (ap (without j) r ∙ other_key j k (classes ks) same)
    go false h r =
        let differ : same_key j k ≡ false = key_differs j k h in
        let more : how_many j (ks ++ k ∷ []) ≡ how_many j ks + 0 = many_more j ks k ∙ ap (λ d. how_many j ks + (if d then 1 else 0)) differ in
        let n : how_many j (j ∷ ks ++ k ∷ []) ≡ how_many j (j ∷ ks) = omega (arith, more) in
        ap (λ m. (j, m) ∷ without j (classes (ks ++ k ∷ []))) n ∙ ap (λ l. (j, how_many j (j ∷ ks)) ∷ l) (ap (without j) r ∙ another_key j k (classes ks) differ)

-- the code's test of keys
pub key_test : (j k : code_key.Key) → key-value.it j k ≡ same_key (key_view j) (key_view k)
key_test j k = ap (λ b. b && bytes_eq j.objects.items k.objects.items) (name_test j.name k.name)

-- the entries after a key is counted
pub inserted : (k : code_key.Key) (n : ℕ) (es : List (code_key.Key × ℕ)) → n ≡ unwrap_or (lookup (key-value.it k) es) 0 + 1
    → map (λ e. (key_view e.0, e.1)) (insert_entry key-value.it es k n) ≡ counted (key_view k) (map (λ e. (key_view e.0, e.1)) es)
inserted k n [] e = ap (λ m. (key_view k, m) ∷ []) e
inserted k n (c ∷ es) e = go (key-value.it k c.0) refl (same_key (key_view k) (key_view c.0)) refl (inserted k n es) e
  where
    go : (b : Bool) → key-value.it k c.0 ≡ b → (d : Bool) → same_key (key_view k) (key_view c.0) ≡ d
        → (n ≡ unwrap_or (lookup (key-value.it k) es) 0 + 1 → map (λ e. (key_view e.0, e.1)) (insert_entry key-value.it es k n) ≡ counted (key_view k) (map (λ e. (key_view e.0, e.1)) es))
        → n ≡ unwrap_or (cond b (Some c.1) (lookup (key-value.it k) es)) 0 + 1
        → map (λ e. (key_view e.0, e.1)) (if b then (c.0, n) ∷ es else c ∷ insert_entry key-value.it es k n) ≡ (if d then (key_view c.0, c.1 + 1) ∷ map (λ e. (key_view e.0, e.1)) es else (key_view c.0, c.1) ∷ counted (key_view k) (map (λ e. (key_view e.0, e.1)) es))
    go true b true d r e = ap (λ m. (key_view c.0, m) ∷ map (λ e. (key_view e.0, e.1)) es) e
    go true b false d r e = let t = key_test k c.0 in cc
    go false b true d r e = let t = key_test k c.0 in cc
    go false b false d r e = ap (λ l. (key_view c.0, c.1) ∷ l) (r e)

-- parameters

pub variable_more : (k : ℕ) (xs : List Term) (x : Term) → has_variable k (xs ++ x ∷ []) ≡ has_variable k xs || is_variable k x
variable_more k [] x = go (is_variable k x)
  where
    go : (b : Bool) → (if b then true else false) ≡ b
    go true = refl
    go false = refl
variable_more k (y ∷ xs) x = go (is_variable k y) (variable_more k xs x)
  where
    go : (b : Bool) → has_variable k (xs ++ x ∷ []) ≡ has_variable k xs || is_variable k x → (if b then true else has_variable k (xs ++ x ∷ [])) ≡ (if b then true else has_variable k xs) || is_variable k x
    go true r = refl
    go false r = r

pub argument_more : (k : ℕ) (ss : List Subtask) (s : Subtask) → is_argument k (ss ++ s ∷ []) ≡ is_argument k ss || has_variable k s.terms
argument_more k [] s = go (has_variable k s.terms)
  where
    go : (b : Bool) → (if b then true else false) ≡ b
    go true = refl
    go false = refl
argument_more k (z ∷ ss) s = go (has_variable k z.terms) (argument_more k ss s)
  where
    go : (b : Bool) → is_argument k (ss ++ s ∷ []) ≡ is_argument k ss || has_variable k s.terms → (if b then true else is_argument k (ss ++ s ∷ [])) ≡ (if b then true else is_argument k ss) || has_variable k s.terms
    go true r = refl
    go false r = r

pub off_twice : (m a b : Bool) → ((m && not a) && not b) ≡ (m && not (a || b))
off_twice true true b = refl
off_twice true false b = refl
off_twice false a b = refl

-- two tests that agree from a up to a + n keep the same numbers
pub filter_agree : (p q : ℕ → Bool) (a n : ℕ) → ((k : ℕ) → a ≤ k → k < a + n → p k ≡ q k) → filter p (range_with_len a n) ≡ filter q (range_with_len a n)
filter_agree p q a zero h = refl
filter_agree p q a (suc n) h =
    rw (h a (omega arith) (omega arith), filter_agree p q (a + 1) n (λ k l m. h k (omega (arith, l)) (omega (arith, m)))) refl

pub marked_all : (n k : ℕ) → k < n → is_marked (replicate n true) k ≡ true
marked_all zero k h = absurd (omega arith)
marked_all (suc n) zero h = refl
marked_all (suc n) (suc k) h = marked_all n k (omega arith)

-- the marks that are left are those of the free parameters
pub free_left : (n : ℕ) (marks : List Bool) (xs : List Term) (ss : List Subtask) → ((k : ℕ) → is_marked marks k ≡ (is_marked (replicate n true) k && not (has_variable k xs)) && not (is_argument k ss))
    → filter (is_marked marks) (range_with_len 0 n) ≡ filter (is_free xs ss) (range_with_len 0 n)
free_left n marks xs ss h =
    filter_agree (is_marked marks) (is_free xs ss) 0 n
    (λ k l m. h k ∙ ap (λ b. (b && not (has_variable k xs)) && not (is_argument k ss)) (marked_all n k (omega (arith, m))))

-- lists that grow by one element

pub take_more : {X Y : Type 0} (f : X → Y) (xs : List X) (i : ℕ) (d : X) → i < length xs → map f (take (i + 1) xs) ≡ map f (take i xs) ++ f (get_or xs i d) ∷ []
take_more f [] i d h = absurd (omega arith)
take_more f (y ∷ xs) zero d h = refl
take_more f (y ∷ xs) (suc i) d h = let z : suc i + 1 ≡ suc (i + 1) = omega arith in rw z (ap (λ l. f y ∷ l) (take_more f xs i d (omega arith)))

pub take_whole : {X : Type 0} (i : ℕ) (xs : List X) → length xs ≤ i → take i xs ≡ xs
take_whole zero [] h = refl
take_whole (suc i) [] h = refl
take_whole zero (x ∷ xs) h = absurd (omega arith)
take_whole (suc i) (x ∷ xs) h = ap (λ l. x ∷ l) (take_whole i xs (omega arith))

-- an element is among what is seen of the elements
pub seen_there : {X Y : Type 0} (f : X → Y) (xs : List X) (i : ℕ) (x : X) → i < length xs → x ≡ get_or xs i x → Contains (map f xs) (f x)
seen_there f [] i x h e = absurd (omega arith)
seen_there f (y ∷ xs) zero x h e = (0, omega arith, ap f (sym e))
seen_there f (y ∷ xs) (suc i) x h e = let c = seen_there f xs i x (omega arith) e in (suc c.0, omega (arith, c.1), c.2)

range_more : (a n : ℕ) → range_with_len a (n + 1) ≡ range_with_len a n ++ (a + n) ∷ []
range_more a zero = let z : a + 0 ≡ a = omega arith in rw z refl
range_more a (suc n) = let z : a + suc n ≡ a + 1 + n = omega arith in let y : suc n + 1 ≡ suc (n + 1) = omega arith in rw (y, z) (ap (λ l. a ∷ l) (range_more (a + 1) n))

filter_end : (p : ℕ → Bool) (xs : List ℕ) (n : ℕ) → filter p (xs ++ n ∷ []) ≡ filter p xs ++ (if p n then n ∷ [] else [])
filter_end p [] n = refl
filter_end p (x ∷ xs) n = go (p x) (filter_end p xs n)
  where
    go : (b : Bool) → filter p (xs ++ n ∷ []) ≡ filter p xs ++ (if p n then n ∷ [] else []) → (if b then x ∷ filter p (xs ++ n ∷ []) else filter p (xs ++ n ∷ [])) ≡ (if b then x ∷ filter p xs else filter p xs) ++ (if p n then n ∷ [] else [])
    go true r = ap (λ l. x ∷ l) r
    go false r = r

pub one_kept : (p : ℕ → Bool) (n : ℕ) → p n ≡ true → filter p (range_with_len 0 (n + 1)) ≡ filter p (range_with_len 0 n) ++ n ∷ []
one_kept p n e =
    let z : 0 + n ≡ n = omega arith in
    ap (filter p) (range_more 0 n ∙ ap (λ m. range_with_len 0 n ++ m ∷ []) z) ∙ filter_end p (range_with_len 0 n) n ∙ ap (λ b. filter p (range_with_len 0 n) ++ (if b then n ∷ [] else [])) e

pub none_kept : (p : ℕ → Bool) (n : ℕ) → p n ≡ false → filter p (range_with_len 0 (n + 1)) ≡ filter p (range_with_len 0 n)
none_kept p n e =
    let z : 0 + n ≡ n = omega arith in
    ap (filter p) (range_more 0 n ∙ ap (λ m. range_with_len 0 n ++ m ∷ []) z) ∙ filter_end p (range_with_len 0 n) n ∙ ap (λ b. filter p (range_with_len 0 n) ++ (if b then n ∷ [] else [])) e ∙ append-nil (filter p (range_with_len 0 n))

-- one term more is unmarked
pub unmark_more : (k : ℕ) (xs : List code_term.Term) (i : ℕ) (d : code_term.Term) (b m n : Bool) → i < length xs → n ≡ (m && not (is_variable k (term_view (get_or xs i d))))
    → m ≡ (b && not (has_variable k (map term_view (take i xs)))) → n ≡ (b && not (has_variable k (map term_view (take (i + 1) xs))))
unmark_more k xs i d b m n h e r =
    e ∙ ap (λ a. a && not (is_variable k (term_view (get_or xs i d)))) r
    ∙ off_twice b (has_variable k (map term_view (take i xs))) (is_variable k (term_view (get_or xs i d)))
    ∙ ap (λ a. b && not a) (sym (variable_more k (map term_view (take i xs)) (term_view (get_or xs i d))) ∙ ap (has_variable k) (sym (take_more term_view xs i d h)))

-- the rows after one subtask more
pub row_after : {A : Type 0} (items : A → List Bool) (ss : List Subtask) (s : Subtask) (n : TaskName) (row : A) (r : Option A) → RowSays (ss ++ s ∷ []) s.name (Some (items row))
    → RowSays ss n (option_map items r) → RowSays (ss ++ s ∷ []) n (option_map items (cond (same_name s.name n) (Some row) r))
row_after items ss s n row r at says = go (same_name s.name n) refl
  where
    go : (b : Bool) → same_name s.name n ≡ b → RowSays (ss ++ s ∷ []) n (option_map items (cond b (Some row) r))
    go true e = subst (λ m. RowSays (ss ++ s ∷ []) m (Some (items row))) (name_same s.name n e) at
    go false e = row_stays ss s n (option_map items r) e says

pub sizes_alone : (es : List (code_key.Key × ℕ)) → map (λ (e : code_key.Key × ℕ). e.1) es ≡ map (λ (c : Key × ℕ). c.1) (map (λ e. (key_view e.0, e.1)) es)
sizes_alone [] = refl
sizes_alone (e ∷ es) = ap (λ l. e.1 ∷ l) (sizes_alone es)

-- what is written over a whole list
pub over_whole : (n : ℕ) (m xs : List Bool) → length m ≡ n → take n (m ++ drop (length m) xs) ≡ m
over_whole n m xs e = ap (λ i. take i (m ++ drop (length m) xs)) (sym e) ∙ take-append_seam m (drop (length m) xs)

-- a size that is small while it is one of the counts
pub small_there : (n : ℕ) (p : code_key.Key → Bool) (es : List (code_key.Key × ℕ)) → 1 < n → All (λ (c : Key × ℕ). c.1 + 1 < n) (map (λ e. (key_view e.0, e.1)) es) → unwrap_or (lookup p es) 0 + 1 < n
small_there n p [] h a = omega (arith, h)
small_there n p (e ∷ es) h a = go (p e.0) (a 0 (key_view e.0, e.1) (omega arith)) (small_there n p es h (λ k d l. a (suc k) d (omega (arith, l))))
  where
    go : (b : Bool) → e.1 + 1 < n → unwrap_or (lookup p es) 0 + 1 < n → unwrap_or (cond b (Some e.1) (lookup p es)) 0 + 1 < n
    go true f r = f
    go false f r = r

many_within : (k : Key) (ks : List Key) → how_many k ks ≤ length ks
many_within k [] = omega arith
many_within k (j ∷ ks) = go (same_key k j) (many_within k ks)
  where
    go : (b : Bool) → how_many k ks ≤ length ks → (if b then 1 else 0) + how_many k ks ≤ suc (length ks)
    go true r = omega (arith, r)
    go false r = omega (arith, r)

-- no class is larger than the list
pub classes_within : (ks : List Key) → All (λ (c : Key × ℕ). c.1 ≤ length ks) (classes ks)
classes_within [] = λ k d h. absurd (omega arith)
classes_within (j ∷ ks) =
    let others = All-filter (λ c. not (same_key j c.0)) (λ (c : Key × ℕ). c.1 ≤ length ks) (classes ks) (classes_within ks) in
    All-cons (λ (c : Key × ℕ). c.1 ≤ suc (length ks)) (j, how_many j (j ∷ ks)) (without j (classes ks)) (many_within j (j ∷ ks)) (λ i d h. let r = others i d h in omega (arith, r))

pub taken_within : {X Y Z : Type 0} (f : Y → Z) (g : X → Y) (i : ℕ) (xs : List X) → length (map f (map g (take i xs))) ≤ i
taken_within f g zero [] = omega arith
taken_within f g zero (x ∷ xs) = omega arith
taken_within f g (suc i) [] = omega arith
taken_within f g (suc i) (x ∷ xs) = let r = taken_within f g i xs in omega (arith, r)

-- one more of each class fits while the list is short
pub room_left : (n i : ℕ) (ks : List Key) (cs : List (Key × ℕ)) → cs ≡ classes ks → length ks ≤ i → i + 1 < n → All (λ (c : Key × ℕ). c.1 + 1 < n) cs
room_left n i ks cs e l h = subst (λ ds. All (λ (c : Key × ℕ). c.1 + 1 < n) ds) (sym e) (λ k d m. let r = classes_within ks k d m in omega (arith, r, l, h))
