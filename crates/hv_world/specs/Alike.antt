-- The classes of alike subtasks of a network, and its free parameters.
use Rattle.std.specs.Prelude.{◌≡◌, ℕ, zero, suc, ◌+◌, Bool, true, false, not, ◌&&◌, if◌then◌else◌, nat_eq, List, [], ◌∷◌, map, filter, slice_get, Option, None, Some, option_map, is_some, IsSome, Contains}
use Rattle.std.specs.List.{range_with_len}
use Rattle.std.specs.Str.{bytes_eq}
use Rattle.hv_world.specs.Values.{Term, object, variable, TaskName, compound, primitive, Subtask, subtask}

-- whether a term is an object
abbrev pub is_object : Term → Bool
is_object (object o) = true
is_object (variable v) = false

-- the object at position k, where there is one
abbrev pub object_at : List Term → ℕ → Option ℕ
object_at [] k = None
object_at (object o ∷ xs) zero = Some o
object_at (variable v ∷ xs) zero = None
object_at (x ∷ xs) (suc k) = object_at xs k

-- all the subtasks of this name have an object at position k
abbrev pub IsFixed : List Subtask → TaskName → ℕ → Type 0
IsFixed ss n k = (s : Subtask) → Contains ss s → s.name ≡ n → IsSome (object_at s.terms k)

-- two subtasks of one class: they have one name, and the same object at each position that is fixed
-- for it
pub record AreAlike (ss : List Subtask) (s t : Subtask) : Type 0 where
  pub name : s.name ≡ t.name
  pub objects : (k : ℕ) → IsFixed ss s.name k → object_at s.terms k ≡ object_at t.terms k

abbrev pub same_name : TaskName → TaskName → Bool
same_name (compound t) (compound u) = nat_eq t u
same_name (compound t) (primitive b) = false
same_name (primitive a) (compound u) = false
same_name (primitive a) (primitive b) = nat_eq a b

abbrev pub has_object : List Term → ℕ → Bool
has_object xs k = is_some (object_at xs k)

-- whether a position is fixed for a name
abbrev pub is_fixed : List Subtask → TaskName → ℕ → Bool
is_fixed [] n k = true
is_fixed (s ∷ ss) n k =
    (if same_name s.name n then has_object s.terms k else true) && is_fixed ss n k

-- the objects at the fixed positions, the first of the terms at position k
abbrev pub fixed_objects : (ℕ → Bool) → ℕ → List Term → List ℕ
fixed_objects f k [] = []
fixed_objects f k (object o ∷ xs) =
    if f k then o ∷ fixed_objects f (k + 1) xs else fixed_objects f (k + 1) xs
fixed_objects f k (variable v ∷ xs) = fixed_objects f (k + 1) xs

-- what tells classes apart
pub record Key : Type 0 where
  pub name : TaskName
  pub objects : List ℕ

abbrev pub key_with : TaskName → List ℕ → Key
key_with n os = record { name = n; objects = os }

-- the name of a subtask, and its objects at the fixed positions
abbrev pub key : List Subtask → Subtask → Key
key ss s = key_with s.name (fixed_objects (is_fixed ss s.name) 0 s.terms)

abbrev pub keys : List Subtask → List Key
keys ss = map (key ss) ss

-- a term, and a subtask, with the objects g for the variables
abbrev pub instance : (ℕ → ℕ) → Term → Term
instance g (object o) = object o
instance g (variable v) = object (g v)

abbrev pub subtask_instance : (ℕ → ℕ) → Subtask → Subtask
subtask_instance g s = subtask s.name (map (instance g) s.terms)

abbrev pub same_key : Key → Key → Bool
same_key j k = same_name j.name k.name && bytes_eq j.objects k.objects

-- how many of the keys are k
abbrev pub how_many : Key → List Key → ℕ
how_many k [] = 0
how_many k (j ∷ js) = (if same_key k j then 1 else 0) + how_many k js

-- the classes but that of k
abbrev pub without : Key → List (Key × ℕ) → List (Key × ℕ)
without k cs = filter (λ c. not (same_key k c.0)) cs

-- each class by its key, with its size: that of the first key, and then the others
abbrev pub classes : List Key → List (Key × ℕ)
classes [] = []
classes (k ∷ ks) = (k, how_many k (k ∷ ks)) ∷ without k (classes ks)

-- the sizes of the classes, in order of first sight
abbrev pub class_sizes : List Subtask → List ℕ
class_sizes ss = map (λ c. c.1) (classes (keys ss))

-- the number of the class with this key, the first of them with number 0
abbrev pub number_in : Key → List (Key × ℕ) → Option ℕ
number_in k [] = None
number_in k (c ∷ cs) = if same_key k c.0 then Some 0 else option_map suc (number_in k cs)

-- the number of the class of a subtask, in the order in which the classes are first seen
abbrev pub class_of : List Subtask → Subtask → Option ℕ
class_of ss s = number_in (key ss s) (classes (keys ss))

-- the same of the subtask of a number
abbrev pub class_at : List Subtask → ℕ → Option ℕ
class_at ss j = elim (slice_get ss j) [ None ↦ None | Some s ↦ class_of ss s ]

-- a subtask of this name with these objects for its terms
abbrev pub with_objects : TaskName → List ℕ → Subtask
with_objects n os = subtask n (map object os)

-- a parameter that is an argument neither of the task nor of a subtask
pub record IsFree (xs : List Term) (ss : List Subtask) (i : ℕ) : Type 0 where
  pub task : ¬ Contains xs (variable i)
  pub subtasks : (s : Subtask) → Contains ss s → ¬ Contains s.terms (variable i)

abbrev pub is_variable : ℕ → Term → Bool
is_variable i (object o) = false
is_variable i (variable v) = nat_eq v i

abbrev pub has_variable : ℕ → List Term → Bool
has_variable i [] = false
has_variable i (x ∷ xs) = if is_variable i x then true else has_variable i xs

abbrev pub is_argument : ℕ → List Subtask → Bool
is_argument i [] = false
is_argument i (s ∷ ss) = if has_variable i s.terms then true else is_argument i ss

-- whether a parameter is free
abbrev pub is_free : List Term → List Subtask → ℕ → Bool
is_free xs ss i = not (has_variable i xs) && not (is_argument i ss)

-- the free ones of so many parameters
abbrev pub free_parameters : ℕ → List Term → List Subtask → List ℕ
free_parameters n xs ss = filter (is_free xs ss) (range_with_len 0 n)
