-- Keys tell classes apart, and tests of parameters say what is free.
use Rattle.std.proofs.Common.{◌≡◌, ℕ, zero, suc, ◌+◌, Bool, true, false, not, ◌&&◌, List, [], ◌∷◌, map, get_or, Some, is_some, Contains, refl, sym, ap, ◌∙◌, subst, arith, if◌then◌else◌, ◌≢◌, filter, All, AllPairs}
use Rattle.std.proofs.lemmas.Bool.{eqb-true, eq-eqb}
use Rattle.std.proofs.lemmas.List.Elements.{All-nil, All-cons, All-filter, filter_passes}
use Rattle.std.proofs.lemmas.List.Kept.{AllPairs-cons, AllPairs-filter}
use Rattle.hv_world.specs.Values.{Term, object, variable, TaskName, Subtask}
use Rattle.hv_world.specs.Alike.{object_at, IsFixed, AreAlike, has_object, same_name, is_fixed, fixed_objects, Key, key, instance, subtask_instance, key_with, same_key, how_many, without, classes, is_variable, has_variable, is_argument, is_free, IsFree}
use Rattle.hv_world.proofs.AlikeLemmas.{name_same, fixed_has, key_same, key_differs, key_itself}

-- fixed positions

pub fixed_says : (ss : List Subtask) (n : TaskName) (k : ℕ) → is_fixed ss n k ≡ true → IsFixed ss n k
fixed_says ss n k f s there e = fixed_has ss s k there (ap (λ m. is_fixed ss m k) e ∙ f)

pub fixed_found : (ss : List Subtask) (n : TaskName) (k : ℕ) → IsFixed ss n k → is_fixed ss n k ≡ true
fixed_found [] n k h = refl
fixed_found (z ∷ ss) n k h = go (same_name z.name n) refl (fixed_found ss n k (λ s there e. h s (suc there.0, omega (arith, there.1), there.2) e))
  where
    go : (b : Bool) → same_name z.name n ≡ b → is_fixed ss n k ≡ true → ((if b then has_object z.terms k else true) && is_fixed ss n k) ≡ true
    go true e r = let first : has_object z.terms k ≡ true = h z (0, omega arith, refl) (name_same z.name n e) in ap (λ b. b && is_fixed ss n k) first ∙ r
    go false e r = r

-- where no position is fixed there are no objects
none_fixed : (f : ℕ → Bool) (xs : List Term) (j : ℕ) → ((k : ℕ) → f (j + k) ≡ true → ⊥) → fixed_objects f j xs ≡ []
none_fixed f [] j h = refl
none_fixed f (variable v ∷ xs) j h = none_fixed f xs (j + 1) (λ k e. h (suc k) (let z : j + suc k ≡ j + 1 + k = omega arith in rw z e))
none_fixed f (object o ∷ xs) j h = go (f j) refl (none_fixed f xs (j + 1) (λ k e. h (suc k) (let z : j + suc k ≡ j + 1 + k = omega arith in rw z e)))
  where
    go : (b : Bool) → f j ≡ b → fixed_objects f (j + 1) xs ≡ [] → (if b then o ∷ fixed_objects f (j + 1) xs else fixed_objects f (j + 1) xs) ≡ []
    go true e r = absurd (h 0 (let z : j + 0 ≡ j = omega arith in rw z e))
    go false e r = r

shift : (P : ℕ → Type 0) (j k : ℕ) → P (j + 1 + k) → P (j + suc k)
shift P j k p = let z : j + suc k ≡ j + 1 + k = omega arith in rw z p

unshift : (P : ℕ → Type 0) (j : ℕ) → P j → P (j + 0)
unshift P j p = let z : j + 0 ≡ j = omega arith in rw z p

-- the same objects at the fixed positions, one position after another
same_objects : (f : ℕ → Bool) (xs ys : List Term) (j : ℕ) → ((k : ℕ) → f (j + k) ≡ true → has_object xs k ≡ true) → ((k : ℕ) → f (j + k) ≡ true → has_object ys k ≡ true)
    → ((k : ℕ) → f (j + k) ≡ true → object_at xs k ≡ object_at ys k) → fixed_objects f j xs ≡ fixed_objects f j ys
same_objects f [] ys j h i s = sym (none_fixed f ys j (λ k e. let a : false ≡ true = h k e in cc))
same_objects f (x ∷ xs) [] j h i s = none_fixed f (x ∷ xs) j (λ k e. let a : false ≡ true = i k e in cc)
same_objects f (x ∷ xs) (y ∷ ys) j h i s =
    go x y (f j) refl (h 0) (i 0) (s 0)
    (same_objects f xs ys (j + 1) (λ k e. past x k (h (suc k) (shift (λ n. f n ≡ true) j k e))) (λ k e. later y k (i (suc k) (shift (λ n. f n ≡ true) j k e))) (λ k e. both_past x y k (s (suc k) (shift (λ n. f n ≡ true) j k e))))
  where
    past : (x : Term) (k : ℕ) → has_object (x ∷ xs) (suc k) ≡ true → has_object xs k ≡ true
    past (object o) k e = e
    past (variable v) k e = e

    later : (y : Term) (k : ℕ) → has_object (y ∷ ys) (suc k) ≡ true → has_object ys k ≡ true
    later (object o) k e = e
    later (variable v) k e = e

    both_past : (x y : Term) (k : ℕ) → object_at (x ∷ xs) (suc k) ≡ object_at (y ∷ ys) (suc k) → object_at xs k ≡ object_at ys k
    both_past (object o) (object p) k e = e
    both_past (object o) (variable v) k e = e
    both_past (variable u) (object p) k e = e
    both_past (variable u) (variable v) k e = e

    go : (x y : Term) (b : Bool) → f j ≡ b → (f (j + 0) ≡ true → has_object (x ∷ xs) 0 ≡ true) → (f (j + 0) ≡ true → has_object (y ∷ ys) 0 ≡ true)
        → (f (j + 0) ≡ true → object_at (x ∷ xs) 0 ≡ object_at (y ∷ ys) 0) → fixed_objects f (j + 1) xs ≡ fixed_objects f (j + 1) ys → fixed_objects f j (x ∷ xs) ≡ fixed_objects f j (y ∷ ys)
    go (object o) (object p) true e h i s r = let t : Some o ≡ Some p = s (unshift (λ n. f n ≡ true) j e) in let q : o ≡ p = cc in rw (e, q, r) refl
    go (object o) (object p) false e h i s r = rw (e, r) refl
    go (object o) (variable v) true e h i s r = let a : false ≡ true = i (unshift (λ n. f n ≡ true) j e) in cc
    go (object o) (variable v) false e h i s r = rw (e, r) refl
    go (variable u) (object p) true e h i s r = let a : false ≡ true = h (unshift (λ n. f n ≡ true) j e) in cc
    go (variable u) (object p) false e h i s r = rw (e, r) refl
    go (variable u) (variable v) b e h i s r = r

-- and back
agreeing : (f : ℕ → Bool) (xs ys : List Term) (j : ℕ) → ((k : ℕ) → f (j + k) ≡ true → has_object xs k ≡ true) → ((k : ℕ) → f (j + k) ≡ true → has_object ys k ≡ true)
    → fixed_objects f j xs ≡ fixed_objects f j ys → (k : ℕ) → f (j + k) ≡ true → object_at xs k ≡ object_at ys k
agreeing f [] ys j h i s k e = let a : false ≡ true = h k e in cc
agreeing f (x ∷ xs) [] j h i s k e = let a : false ≡ true = i k e in cc
agreeing f (x ∷ xs) (y ∷ ys) j h i s zero e = first x y (let z : j + 0 ≡ j = omega arith in rw z at e) (h 0 e) (i 0 e) s
  where
    first : (x y : Term) → f j ≡ true → has_object (x ∷ xs) 0 ≡ true → has_object (y ∷ ys) 0 ≡ true → fixed_objects f j (x ∷ xs) ≡ fixed_objects f j (y ∷ ys) → object_at (x ∷ xs) 0 ≡ object_at (y ∷ ys) 0
    first (object o) (object p) e h i s =
        let t : o ∷ fixed_objects f (j + 1) xs ≡ p ∷ fixed_objects f (j + 1) ys =
        sym (ap (λ b. if b then o ∷ fixed_objects f (j + 1) xs else fixed_objects f (j + 1) xs) e) ∙ s ∙ ap (λ b. if b then p ∷ fixed_objects f (j + 1) ys else fixed_objects f (j + 1) ys) e in
        let q : o ≡ p = cc in
        ap Some q
    first (object o) (variable v) e h i s = cc
    first (variable u) y e h i s = cc
agreeing f (x ∷ xs) (y ∷ ys) j h i s (suc k) e =
    next x y k (agreeing f xs ys (j + 1) (λ n d. past x n (h (suc n) (shift (λ m. f m ≡ true) j n d))) (λ n d. later y n (i (suc n) (shift (λ m. f m ≡ true) j n d)))
    (rest x y (f j) refl (λ d. h 0 (unshift (λ m. f m ≡ true) j d)) (λ d. i 0 (unshift (λ m. f m ≡ true) j d)) s) k (let z : j + suc k ≡ j + 1 + k = omega arith in rw z at e))
  where
    past : (x : Term) (k : ℕ) → has_object (x ∷ xs) (suc k) ≡ true → has_object xs k ≡ true
    past (object o) k e = e
    past (variable v) k e = e

    later : (y : Term) (k : ℕ) → has_object (y ∷ ys) (suc k) ≡ true → has_object ys k ≡ true
    later (object o) k e = e
    later (variable v) k e = e

    next : (x y : Term) (k : ℕ) → object_at xs k ≡ object_at ys k → object_at (x ∷ xs) (suc k) ≡ object_at (y ∷ ys) (suc k)
    next (object o) (object p) k e = e
    next (object o) (variable v) k e = e
    next (variable u) (object p) k e = e
    next (variable u) (variable v) k e = e

    rest : (x y : Term) (b : Bool) → f j ≡ b → (f j ≡ true → has_object (x ∷ xs) 0 ≡ true) → (f j ≡ true → has_object (y ∷ ys) 0 ≡ true)
        → fixed_objects f j (x ∷ xs) ≡ fixed_objects f j (y ∷ ys) → fixed_objects f (j + 1) xs ≡ fixed_objects f (j + 1) ys
    rest (object o) (object p) true e h i s =
        let t : o ∷ fixed_objects f (j + 1) xs ≡ p ∷ fixed_objects f (j + 1) ys =
        sym (ap (λ b. if b then o ∷ fixed_objects f (j + 1) xs else fixed_objects f (j + 1) xs) e) ∙ s ∙ ap (λ b. if b then p ∷ fixed_objects f (j + 1) ys else fixed_objects f (j + 1) ys) e in
        cc
    rest (object o) (object p) false e h i s =
        sym (ap (λ b. if b then o ∷ fixed_objects f (j + 1) xs else fixed_objects f (j + 1) xs) e) ∙ s ∙ ap (λ b. if b then p ∷ fixed_objects f (j + 1) ys else fixed_objects f (j + 1) ys) e
    rest (object o) (variable v) true e h i s = let a : false ≡ true = i e in cc
    rest (object o) (variable v) false e h i s = sym (ap (λ b. if b then o ∷ fixed_objects f (j + 1) xs else fixed_objects f (j + 1) xs) e) ∙ s
    rest (variable u) (object p) true e h i s = let a : false ≡ true = h e in cc
    rest (variable u) (object p) false e h i s = s ∙ ap (λ b. if b then p ∷ fixed_objects f (j + 1) ys else fixed_objects f (j + 1) ys) e
    rest (variable u) (variable v) b e h i s = s

from_zero : (f : ℕ → Bool) (xs : List Term) → ((k : ℕ) → f k ≡ true → has_object xs k ≡ true) → (k : ℕ) → f (0 + k) ≡ true → has_object xs k ≡ true
from_zero f xs h k e = h k (let z : 0 + k ≡ k = omega arith in rw z at e)

module _ (ss : List Subtask) (s t : Subtask) (here_s : Contains ss s) (here_t : Contains ss t) where
  has_s : (k : ℕ) → is_fixed ss s.name k ≡ true → has_object s.terms k ≡ true
  has_s k e = fixed_has ss s k here_s e

  has_t : s.name ≡ t.name → (k : ℕ) → is_fixed ss s.name k ≡ true → has_object t.terms k ≡ true
  has_t n k e = fixed_has ss t k here_t (ap (λ m. is_fixed ss m k) (sym n) ∙ e)

  pub alike_key : AreAlike ss s t → key ss s ≡ key ss t
  alike_key a =
      let f = is_fixed ss s.name in
      let objects : fixed_objects f 0 s.terms ≡ fixed_objects f 0 t.terms =
      same_objects f s.terms t.terms 0 (from_zero f s.terms has_s) (from_zero f t.terms (has_t a.name))
      (λ k e. a.objects k (fixed_says ss s.name k (let z : 0 + k ≡ k = omega arith in rw z at e))) in
      ap (key_with s.name) objects ∙ ap (λ n. key_with n (fixed_objects (is_fixed ss n) 0 t.terms)) a.name

  pub key_alike : key ss s ≡ key ss t → AreAlike ss s t
  key_alike e =
      let f = is_fixed ss s.name in
      let n : s.name ≡ t.name = ap (λ (k : Key). k.name) e in
      let objects : fixed_objects f 0 s.terms ≡ fixed_objects f 0 t.terms = ap (λ (k : Key). k.objects) e ∙ ap (λ m. fixed_objects (is_fixed ss m) 0 t.terms) (sym n) in
      record {
        name = n;
        objects = λ k h. agreeing f s.terms t.terms 0 (from_zero f s.terms has_s) (from_zero f t.terms (has_t n)) objects k (let z : 0 + k ≡ k = omega arith in rw z (fixed_found ss s.name k h));
      }

instance_there : (g : ℕ → ℕ) (xs : List Term) (k : ℕ) → has_object xs k ≡ true → object_at (map (instance g) xs) k ≡ object_at xs k
instance_there g [] k e = cc
instance_there g (object o ∷ xs) zero e = refl
instance_there g (variable v ∷ xs) zero e = cc
instance_there g (object o ∷ xs) (suc k) e = instance_there g xs k e
instance_there g (variable v ∷ xs) (suc k) e = instance_there g xs k e

pub instance_key : (ss : List Subtask) (s : Subtask) (g : ℕ → ℕ) → Contains ss s → key ss (subtask_instance g s) ≡ key ss s
instance_key ss s g there =
    let f = is_fixed ss s.name in
    let xs = map (instance g) s.terms in
    let had = from_zero f s.terms (λ k e. fixed_has ss s k there e) in
    let same : (k : ℕ) → f (0 + k) ≡ true → object_at xs k ≡ object_at s.terms k = λ k e. instance_there g s.terms k (had k e) in
    ap (key_with s.name) (same_objects f xs s.terms 0 (λ k e. ap is_some (same k e) ∙ had k e) had same)

-- free parameters

is_term : (i : ℕ) (x : Term) → is_variable i x ≡ true → x ≡ variable i
is_term i (object o) e = cc
is_term i (variable v) e = ap variable (eqb-true v i e)

pub variable_found : (i : ℕ) (xs : List Term) → Contains xs (variable i) → has_variable i xs ≡ true
variable_found i [] (k, h, e) = absurd (omega arith)
variable_found i (x ∷ xs) (zero, h, e) =
    let here : is_variable i x ≡ true = ap (is_variable i) e ∙ eq-eqb i i refl in
    ap (λ b. if b then true else has_variable i xs) here
variable_found i (x ∷ xs) (suc k, h, e) = go (is_variable i x) (variable_found i xs (k, omega arith, e))
  where
    go : (b : Bool) → has_variable i xs ≡ true → (if b then true else has_variable i xs) ≡ true
    go true r = refl
    go false r = r

pub variable_there : (i : ℕ) (xs : List Term) → has_variable i xs ≡ true → Contains xs (variable i)
variable_there i [] e = cc
variable_there i (x ∷ xs) e = go (is_variable i x) refl e (variable_there i xs)
  where
    go : (b : Bool) → is_variable i x ≡ b → (if b then true else has_variable i xs) ≡ true → (has_variable i xs ≡ true → Contains xs (variable i)) → Contains (x ∷ xs) (variable i)
    go true h e r = (0, omega arith, is_term i x h)
    go false h e r = let c = r e in (suc c.0, omega (arith, c.1), c.2)

argument_found : (i : ℕ) (ss : List Subtask) (s : Subtask) → Contains ss s → Contains s.terms (variable i) → is_argument i ss ≡ true
argument_found i [] s (k, h, e) v = absurd (omega arith)
argument_found i (z ∷ ss) s (zero, h, e) v =
    let here : has_variable i z.terms ≡ true = ap (λ (r : Subtask). has_variable i r.terms) e ∙ variable_found i s.terms v in
    ap (λ b. if b then true else is_argument i ss) here
argument_found i (z ∷ ss) s (suc k, h, e) v = go (has_variable i z.terms) (argument_found i ss s (k, omega arith, e) v)
  where
    go : (b : Bool) → is_argument i ss ≡ true → (if b then true else is_argument i ss) ≡ true
    go true r = refl
    go false r = r

argument_there : (i : ℕ) (ss : List Subtask) → is_argument i ss ≡ true → (s : Subtask) × Contains ss s × Contains s.terms (variable i)
argument_there i [] e = cc
argument_there i (z ∷ ss) e = go (has_variable i z.terms) refl e (argument_there i ss)
  where
    go : (b : Bool) → has_variable i z.terms ≡ b → (if b then true else is_argument i ss) ≡ true → (is_argument i ss ≡ true → (s : Subtask) × Contains ss s × Contains s.terms (variable i))
        → (s : Subtask) × Contains (z ∷ ss) s × Contains s.terms (variable i)
    go true h e r = (z, (0, omega arith, refl), variable_there i z.terms h)
    go false h e r = let c = r e in (c.0, (suc c.1.0, omega (arith, c.1.1), c.1.2), c.2)

pub free_says : (xs : List Term) (ss : List Subtask) (i : ℕ) → is_free xs ss i ≡ true → IsFree xs ss i
free_says xs ss i e = go (has_variable i xs) refl (is_argument i ss) refl e
  where
    go : (a : Bool) → has_variable i xs ≡ a → (b : Bool) → is_argument i ss ≡ b → (not a && not b) ≡ true → IsFree xs ss i
    go true p b q e = cc
    go false p true q e = cc
    go false p false q e =
        record {
          task = λ c. let t : has_variable i xs ≡ true = variable_found i xs c in cc;
          subtasks = λ s c d. let t : is_argument i ss ≡ true = argument_found i ss s c d in cc;
        }

pub free_found : (xs : List Term) (ss : List Subtask) (i : ℕ) → IsFree xs ss i → is_free xs ss i ≡ true
free_found xs ss i f = go (has_variable i xs) refl (is_argument i ss) refl
  where
    go : (a : Bool) → has_variable i xs ≡ a → (b : Bool) → is_argument i ss ≡ b → (not a && not b) ≡ true
    go true p b q = absurd (f.task (variable_there i xs p))
    go false p true q = let c = argument_there i ss q in absurd (f.subtasks c.0 c.1 c.2)
    go false p false q = refl

-- classes

kept_there : {X : Type 0} (p : X → Bool) (xs : List X) (x : X) → Contains xs x → p x ≡ true → Contains (filter p xs) x
kept_there p [] x (k, h, e) t = absurd (omega arith)
kept_there p (y ∷ xs) x (zero, h, e) t =
    let first : p y ≡ true = ap p e ∙ t in
    subst (λ l. Contains l x) (sym (ap (λ b. if b then y ∷ filter p xs else filter p xs) first)) (0, omega arith, e)
kept_there p (y ∷ xs) x (suc k, h, e) t = go (p y) (kept_there p xs x (k, omega arith, e) t)
  where
    go : (b : Bool) → Contains (filter p xs) x → Contains (if b then y ∷ filter p xs else filter p xs) x
    go true c = (suc c.0, omega (arith, c.1), c.2)
    go false c = c

pub sizes_right : (ks : List Key) → All (λ c. c.1 ≡ how_many c.0 ks) (classes ks)
sizes_right [] = All-nil _
sizes_right (k ∷ ks) =
    let p : Key × ℕ → Bool = λ c. not (same_key k c.0) in
    let others = All-filter p (λ c. c.1 ≡ how_many c.0 ks) (classes ks) (sizes_right ks) in
    let apart = filter_passes p (classes ks) in
    All-cons (λ (c : Key × ℕ). c.1 ≡ how_many c.0 (k ∷ ks)) (k, how_many k (k ∷ ks)) (without k (classes ks)) refl (λ i d h. more (get_or (without k (classes ks)) i d) (others i d h) (apart i d h))
  where
    more : (c : Key × ℕ) → c.1 ≡ how_many c.0 ks → not (same_key k c.0) ≡ true → c.1 ≡ how_many c.0 (k ∷ ks)
    more c e n =
        let differ : same_key c.0 k ≡ false = key_differs c.0 k (go (same_key k c.0) n) in
        let z : 0 + how_many c.0 ks ≡ how_many c.0 ks = omega arith in
        e ∙ sym z ∙ ap (λ b. (if b then 1 else 0) + how_many c.0 ks) (sym differ)
      where
        go : (b : Bool) → not b ≡ true → b ≡ false
        go true n = cc
        go false n = refl

pub classes_once : (ks : List Key) → AllPairs (λ c d. c.0 ≢ d.0) (classes ks)
classes_once [] = λ i j d h l. absurd (omega arith)
classes_once (k ∷ ks) =
    let p : Key × ℕ → Bool = λ c. not (same_key k c.0) in
    let apart = filter_passes p (classes ks) in
    AllPairs-cons (λ (c d : Key × ℕ). c.0 ≢ d.0) (k, how_many k (k ∷ ks)) (without k (classes ks)) (λ i d h e. clash (get_or (without k (classes ks)) i d) (apart i d h) e) (AllPairs-filter (λ (c d : Key × ℕ). c.0 ≢ d.0) p (classes ks) (classes_once ks))
  where
    clash : (c : Key × ℕ) → not (same_key k c.0) ≡ true → k ≡ c.0 → ⊥
    clash c n e = let same : same_key k c.0 ≡ true = ap (same_key k) (sym e) ∙ key_itself k in let a : false ≡ true = ap not (sym same) ∙ n in cc

pub each_counted : (ks : List Key) (q : Key) → Contains ks q → Contains (classes ks) (q, how_many q ks)
each_counted [] q (k, h, e) = absurd (omega arith)
each_counted (k ∷ ks) q (zero, h, e) = (0, omega arith, ap (λ z. (z, how_many z (k ∷ ks))) e)
each_counted (k ∷ ks) q (suc i, h, e) = go (same_key k q) refl (each_counted ks q (i, omega arith, e))
  where
    go : (b : Bool) → same_key k q ≡ b → Contains (classes ks) (q, how_many q ks) → Contains (classes (k ∷ ks)) (q, how_many q (k ∷ ks))
    go true s c = (0, omega arith, ap (λ z. (z, how_many z (k ∷ ks))) (key_same k q s))
    go false s c =
        let differ : same_key q k ≡ false = key_differs q k s in
        let z : 0 + how_many q ks ≡ how_many q ks = omega arith in
        let n : how_many q (k ∷ ks) ≡ how_many q ks = ap (λ b. (if b then 1 else 0) + how_many q ks) differ ∙ z in
        let there = kept_there (λ d. not (same_key k d.0)) (classes ks) (q, how_many q ks) c (ap not s) in
        subst (λ m. Contains (classes (k ∷ ks)) (q, m)) (sym n) (suc there.0, omega (arith, there.1), there.2)
