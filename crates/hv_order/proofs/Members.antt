-- Facts on members of lists, and on numbers and items that are the same or not.
use Rattle.std.proofs.Common.{◌≡◌, ℕ, ◌+◌, ◌*◌, ◌≢◌, Bool, true, false, List, [], ◌∷◌, ◌++◌, refl, sym, ap, ◌∙◌, subst, inl, inr, arith, ◌⊎◌, Contains, zero, suc, ◌<◌}
use Rattle.std.specs.Prelude.{map, ◌&&◌, ◌==◌}
use Rattle.std.proofs.lemmas.Bool.Decides.{eqb_tells}
use Rattle.std.proofs.Math.Dec.{eqb}
use Rattle.hv_lists.specs.Lists.{Once}
use Rattle.hv_lists.proofs.Contained.{at_head, in_tail, contains_cases, none_in_empty}
use Rattle.hv_plan.specs.Trees.{Item, Act, Task, Pre}

-- two numbers are the same or not, and their test says so
pub data SameNumber (a b : ℕ) : Type 0 where
  equal_numbers : a ≡ b → (a == b) ≡ true → SameNumber a b
  other_numbers : (a ≡ b → ⊥) → (a == b) ≡ false → SameNumber a b

pub number_cases : (a b : ℕ) → SameNumber a b
number_cases a b = tell (eqb_tells a b)
  where
    tell : ((eqb a b ≡ true) × (a ≡ b)) ⊎ ((eqb a b ≡ false) × (a ≢ b)) → SameNumber a b
    tell (inl yes_both) = let (test, same) = yes_both in equal_numbers same test
    tell (inr no_both) = let (test, other) = no_both in other_numbers other test

pub number_from : (a b : ℕ) → (a == b) ≡ true → a ≡ b
number_from a b test = tell (number_cases a b)
  where
    tell : SameNumber a b → a ≡ b
    tell (equal_numbers same e) = same
    tell (other_numbers other e) = absurd (let clash : true ≡ false = sym test ∙ e in cc)

pub number_test : (a : ℕ) → (a == a) ≡ true
number_test a = tell (number_cases a a)
  where
    tell : SameNumber a a → (a == a) ≡ true
    tell (equal_numbers same e) = e
    tell (other_numbers other e) = absurd (other refl)

pub and_left : (a b : Bool) → (a && b) ≡ true → a ≡ true
and_left true b both = refl
and_left false b both = both

pub and_right : (a b : Bool) → (a && b) ≡ true → b ≡ true
and_right true b both = both
and_right false b both = absurd (let clash : false ≡ true = both in cc)

pub not_true : {P : Type 0} → false ≡ true → P
not_true clash = absurd (let e : false ≡ true = clash in cc)

-- a number for each item
pub code : Item → ℕ
code (Act k) = 3 * k
code (Task k) = 3 * k + 1
code (Pre k) = 3 * k + 2

pub code_once : (x y : Item) → code x ≡ code y → x ≡ y
unfolding code
code_once (Act k) (Act j) e = let h : k ≡ j = omega arith in ap Act h
code_once (Task k) (Task j) e = let h : k ≡ j = omega arith in ap Task h
code_once (Pre k) (Pre j) e = let h : k ≡ j = omega arith in ap Pre h
code_once (Act k) (Task j) e = absurd (omega arith)
code_once (Act k) (Pre j) e = absurd (omega arith)
code_once (Task k) (Act j) e = absurd (omega arith)
code_once (Task k) (Pre j) e = absurd (omega arith)
code_once (Pre k) (Act j) e = absurd (omega arith)
code_once (Pre k) (Task j) e = absurd (omega arith)

-- two items are the same or not
pub same_item : (x y : Item) → (x ≡ y) ⊎ (x ≡ y → ⊥)
same_item x y = tell (number_cases (code x) (code y))
  where
    tell : SameNumber (code x) (code y) → (x ≡ y) ⊎ (x ≡ y → ⊥)
    tell (equal_numbers same e) = inl (code_once x y same)
    tell (other_numbers other e) = inr (λ same. other (ap code same))

pub act_not_task : (k v : ℕ) → Act k ≡ Task v → ⊥
act_not_task k v e = cc

pub pre_not_task : (k v : ℕ) → Pre k ≡ Task v → ⊥
pre_not_task k v e = cc

pub act_not_pre : (k v : ℕ) → Act k ≡ Pre v → ⊥
act_not_pre k v e = cc

pub act_same : (j k : ℕ) → Act j ≡ Act k → j ≡ k
act_same j k e = cc

pub task_same : (u v : ℕ) → Task u ≡ Task v → u ≡ v
task_same u v e = cc

pub pre_same : (u v : ℕ) → Pre u ≡ Pre v → u ≡ v
pre_same u v e = cc

-- an item is a member of a list or not
pub is_member : (x : Item) (xs : List Item) → Contains xs x ⊎ (Contains xs x → ⊥)
is_member x [] = inr (none_in_empty x)
is_member x (y ∷ ys) = tell (same_item x y) (is_member x ys)
  where
    none : (x ≡ y → ⊥) → (Contains ys x → ⊥) → Contains (y ∷ ys) x → ⊥
    none not_first not_later (zero, lt, e) = not_first (sym e)
    none not_first not_later (suc k, lt, e) = not_later (k, omega arith, e)

    tell : (x ≡ y) ⊎ (x ≡ y → ⊥) → Contains ys x ⊎ (Contains ys x → ⊥) → Contains (y ∷ ys) x ⊎ (Contains (y ∷ ys) x → ⊥)
    tell (inl e) later = inl (at_head y ys x e)
    tell (inr not_first) (inl m) = inl (in_tail y ys x m)
    tell (inr not_first) (inr not_later) = inr (none not_first not_later)

-- what holds of an item's equal
pub moved : {x y : Item} (P : Item → Type 0) → x ≡ y → P x → P y
moved P e p = subst P e p

-- members of joined lists
pub mem_left : {X : Type 0} (x : X) (xs ys : List X) → Contains xs x → Contains (xs ++ ys) x
mem_left x (z ∷ xs) ys (zero, lt, e) = at_head z (xs ++ ys) x (sym e)
mem_left x (z ∷ xs) ys (suc k, lt, e) = in_tail z (xs ++ ys) x (mem_left x xs ys (k, omega arith, e))
mem_left x [] ys m = absurd (none_in_empty x m)

pub mem_right : {X : Type 0} (x : X) (xs ys : List X) → Contains ys x → Contains (xs ++ ys) x
mem_right x [] ys m = m
mem_right x (z ∷ xs) ys m = in_tail z (xs ++ ys) x (mem_right x xs ys m)

pub mem_cases : {X : Type 0} (x : X) (xs ys : List X) → Contains (xs ++ ys) x → Contains xs x ⊎ Contains ys x
mem_cases x [] ys m = inr m
mem_cases x (z ∷ xs) ys m = by_place (contains_cases z (xs ++ ys) x m) (λ k. mem_cases x xs ys k)
  where
    tell : Contains xs x ⊎ Contains ys x → Contains (z ∷ xs) x ⊎ Contains ys x
    tell (inl k) = inl (in_tail z xs x k)
    tell (inr k) = inr k

    by_place : (x ≡ z) ⊎ Contains (xs ++ ys) x → (Contains (xs ++ ys) x → Contains xs x ⊎ Contains ys x) → Contains (z ∷ xs) x ⊎ Contains ys x
    by_place (inl e) later = inl (at_head z xs x e)
    by_place (inr k) later = tell (later k)

-- members of mapped lists
pub mem_map : {X Y : Type 0} (f : X → Y) (x : X) (xs : List X) → Contains xs x → Contains (map f xs) (f x)
mem_map f x [] m = absurd (none_in_empty x m)
mem_map f x (z ∷ xs) (zero, lt, e) = at_head (f z) (map f xs) (f x) (ap f (sym e))
mem_map f x (z ∷ xs) (suc k, lt, e) = in_tail (f z) (map f xs) (f x) (mem_map f x xs (k, omega arith, e))

pub record MappedFrom {X Y : Type 0} (f : X → Y) (y : Y) (xs : List X) : Type 0 where
  pub source : X
  pub is_member : Contains xs source
  pub image : y ≡ f source

pub mem_map_from : {X Y : Type 0} (f : X → Y) (y : Y) (xs : List X) → Contains (map f xs) y → MappedFrom f y xs
mem_map_from f y [] m = absurd (none_in_empty y m)
mem_map_from f y (z ∷ xs) m = by_place (contains_cases (f z) (map f xs) y m) (λ k. mem_map_from f y xs k)
  where
    by_place : (y ≡ f z) ⊎ Contains (map f xs) y → (Contains (map f xs) y → MappedFrom f y xs) → MappedFrom f y (z ∷ xs)
    by_place (inl e) later = record { source = z; is_member = at_head z xs z refl; image = e }
    by_place (inr k) later = let from = later k in record { source = from.source; is_member = in_tail z xs from.source from.is_member; image = from.image }

-- a list with each once: its head is not in its tail, and the tail has each once
pub once_none : {X : Type 0} → Once {X = X} []
once_none {X} = λ i j d less within. absurd (let lt : j < 0 = within in omega (arith, lt))

-- equal pairs have equal parts
pub first_same : {X Y : Type 0} (a c : X) (b d : Y) → ◌≡◌ {A = X × Y} (a, b) (c, d) → a ≡ c
first_same {X = X} {Y = Y} a c b d e = ap (λ (p : X × Y). p.0) e

pub second_same : {X Y : Type 0} (a c : X) (b d : Y) → ◌≡◌ {A = X × Y} (a, b) (c, d) → b ≡ d
second_same {X = X} {Y = Y} a c b d e = ap (λ (p : X × Y). p.1) e

pub pair_same : {X Y : Type 0} (a c : X) (b d : Y) → a ≡ c → b ≡ d → ◌≡◌ {A = X × Y} (a, b) (c, d)
pair_same a c b d e f = λ i. (e i, f i)
