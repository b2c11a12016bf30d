-- What the search for the candidates of a node works on, and what it tests.
use Rattle.std.specs.Prelude.{◌≡◌, ◌<◌, ◌≤◌, ◌*◌, ℕ, ◌+◌, ◌-◌, Bool, true, false, not, ◌&&◌, List, [], ◌∷◌, ◌++◌, map, length, take, drop, nat_eq, slice_get, slice_index, slice_index_or, Option, Some, None, if◌then◌else◌, Contains}
use Rattle.std.specs.List.{AllZip}
use Rattle.hv_world.specs.Values.{Term, TaskName, Subtask, Constraint, Atom}
use Rattle.hv_world.specs.Bindings.{object_of}
use Rattle.hv_world.specs.Alike.{same_name, is_variable, is_free, key, keys}
use Rattle.hv_lists.specs.Lists.{Once}
use Rattle.hv_match.specs.Possible.{is_possible, are_possible}
use Rattle.hv_match.specs.Counts.{product}
use Rattle.hv_match.specs.inside.Counting.{rising}
use Rattle.hv_match.specs.inside.Search.{Search, NothingBegins}

-- what a child does
pub record Work : Type 0 where
  pub name : TaskName
  pub objects : List ℕ

abbrev pub work : TaskName → List ℕ → Work
work n os = record { name = n; objects = os }

-- the objects that each parameter may have, the terms of the task and the objects that stand for
-- them, the subtasks, the constraints, what the children do, for the subtask of a number the places
-- of the children that are tried for it, the atoms that the precondition needs, and the rows of
-- atoms that are ever true, where these count
pub record Puzzle : Type 0 where
  pub ranges : List (List ℕ)
  pub task : List Term
  pub objects : List ℕ
  pub subtasks : List Subtask
  pub constraints : List Constraint
  pub children : List (Option Work)
  pub rows : ℕ → List ℕ
  pub atoms : List Atom
  pub ever : Option (List (List ℕ))

-- the child at a place, and its objects
abbrev pub child_at : List (Option Work) → ℕ → Option Work
child_at cs x = slice_index_or cs x None

abbrev pub objects_of : Option Work → List ℕ
objects_of None = []
objects_of (Some c) = c.objects

-- what may be chosen next: for a subtask a child, and then for a parameter an object

-- the place at which the i-th parameter is first among these terms of the subtask j, or of the
-- task, the first of them at position k; or the other
abbrev pub first_in : Option ℕ → ℕ → ℕ → List Term → Option (Option ℕ × ℕ) → Option (Option ℕ × ℕ)
first_in j i k [] other = other
first_in j i k (t ∷ ts) other =
    if is_variable i t then Some (j, k) else first_in j i (k + 1) ts other

-- the same for these subtasks, the first of them of number j
abbrev pub first_of : ℕ → ℕ → List Subtask → Option (Option ℕ × ℕ) → Option (Option ℕ × ℕ)
first_of i j [] other = other
first_of i j (s ∷ ss) other = first_in (Some j) i 0 s.terms (first_of i (j + 1) ss other)

-- the place from which the i-th parameter has its object
abbrev pub source_of : List Term → List Subtask → ℕ → Option (Option ℕ × ℕ)
source_of ts ss i = first_in None i 0 ts (first_of i 0 ss None)

-- the object at a place, where q are the children chosen
abbrev pub look : Puzzle → List ℕ → Option (Option ℕ × ℕ) → Option ℕ
look p q None = None
look p q (Some (None, k)) = slice_get p.objects k
look p q (Some (Some j, k)) =
    elim (slice_get q j) [ None ↦ None | Some x ↦ slice_get (objects_of (child_at p.children x)) k ]

-- what the task and the children chosen say of the i-th parameter
abbrev pub bound : Puzzle → List ℕ → ℕ → Option ℕ
bound p q i = look p q (source_of p.task p.subtasks i)

abbrev pub pick : Option ℕ → List ℕ → List ℕ
pick (Some o) os = o ∷ []
pick None os = os

abbrev pub range_of : Puzzle → ℕ → List ℕ
range_of p i = slice_index_or p.ranges i []

-- the objects are those of the terms under B
abbrev pub same_values : List ℕ → List Term → List ℕ → Bool
same_values B [] [] = true
same_values B (t ∷ ts) (o ∷ os) = nat_eq (object_of B t) o && same_values B ts os
same_values B _ _ = false

-- the places of the children that pass a test, the first of the children at place k
abbrev pub places_where : (Option Work → Bool) → ℕ → List (Option Work) → List ℕ
places_where test k [] = []
places_where test k (c ∷ cs) =
    if test c then k ∷ places_where test (k + 1) cs else places_where test (k + 1) cs

abbrev pub options : Puzzle → List ℕ → List ℕ
options p q = elim (slice_get p.subtasks (length q)) [
  | Some s ↦ p.rows (length q)
  | None ↦ pick (bound p q (length q - length p.subtasks))
      (range_of p (length q - length p.subtasks))
]

-- so many are chosen
abbrev pub levels : Puzzle → ℕ
levels p = length p.subtasks + length p.ranges

-- what a whole choice is tested for

abbrev pub has : ℕ → List ℕ → Bool
has x [] = false
has x (y ∷ ys) = if nat_eq y x then true else has x ys

-- no number stands twice
abbrev pub is_once : List ℕ → Bool
is_once [] = true
is_once (x ∷ xs) = not (has x xs) && is_once xs

-- each parameter has an object that it may have
abbrev pub are_in : List ℕ → List (List ℕ) → Bool
are_in [] [] = true
are_in (o ∷ os) (r ∷ rs) = has o r && are_in os rs
are_in _ _ = false

abbrev pub does : Option Work → List ℕ → Subtask → Bool
does None B s = false
does (Some c) B s = same_name c.name s.name && same_values B s.terms c.objects

abbrev pub all_do : List (Option Work) → List ℕ → List ℕ → List Subtask → Bool
all_do cs B [] [] = true
all_do cs B (x ∷ xs) (s ∷ ss) = does (child_at cs x) B s && all_do cs B xs ss
all_do cs B _ _ = false

abbrev pub same_bool : Bool → Bool → Bool
same_bool true b = b
same_bool false b = not b

abbrev pub holds : List ℕ → Constraint → Bool
holds B c = same_bool (nat_eq (object_of B c.left) (object_of B c.right)) c.is_equal

abbrev pub all_hold : List ℕ → List Constraint → Bool
all_hold B [] = true
all_hold B (c ∷ cs) = holds B c && all_hold B cs

-- the children at M do the subtasks under B, and all else holds under B
abbrev pub suits : Puzzle → List ℕ → List ℕ → Bool
suits p M B =
    are_in B p.ranges
    && (same_values B p.task p.objects
    && (all_do p.children B M p.subtasks
    && (all_hold B p.constraints && are_possible p.ever B p.atoms)))

-- M and B are a candidate
abbrev pub fits : Puzzle → List ℕ → List ℕ → Bool
fits p M B = is_once M && suits p M B

-- the children and the objects of a whole choice
abbrev pub places : Puzzle → List ℕ → List ℕ
places p q = take (length p.subtasks) q

abbrev pub values : Puzzle → List ℕ → List ℕ
values p q = drop (length p.subtasks) q

abbrev pub is_good : Puzzle → List ℕ → Bool
is_good p q = nat_eq (length p.subtasks) (length p.children) && fits p (places p q) (values p q)

-- the child at place x does what the subtask says under B
abbrev pub Done : List (Option Work) → List ℕ → ℕ → Subtask → Type 0
Done cs B x s = child_at cs x ≡ Some (work s.name (map (object_of B) s.terms))

-- A row that will do for a subtask: places of children, each once, and among them that of each
-- child that does a subtask alike to it, under whatever objects
pub record IsRow (ss : List Subtask) (cs : List (Option Work)) (s : Subtask)
    (row : List ℕ) : Type 0 where
  pub once : Once row
  pub within : (x : ℕ) → Contains row x → x < length cs
  pub all : (t : Subtask) → Contains ss t → key ss t ≡ key ss s → (B : List ℕ) (x : ℕ)
      → Done cs B x t → has x row ≡ true

-- each subtask has such a row
abbrev pub AreRowsOf : List Subtask → List (Option Work) → (ℕ → List ℕ) → Type 0
AreRowsOf ss cs rows = (j : ℕ) (s : Subtask) → slice_get ss j ≡ Some s → IsRow ss cs s (rows j)

abbrev pub AreRows : Puzzle → Type 0
AreRows p = AreRowsOf p.subtasks p.children p.rows

-- what the tests are for
pub record IsMatch (p : Puzzle) (M B : List ℕ) : Type 0 where
  pub once : Once M
  pub within : (x : ℕ) → Contains M x → x < length p.children
  pub all : length M ≡ length p.children
  pub typed : AllZip (λ o r. Contains r o) B p.ranges
  pub task : map (object_of B) p.task ≡ p.objects
  pub done : AllZip (Done p.children B) M p.subtasks
  pub constraints : all_hold B p.constraints ≡ true
  pub possible : are_possible p.ever B p.atoms ≡ true

-- how many objects the i-th parameter and those after it may have, apart from the arguments
abbrev pub widths : Puzzle → ℕ → List (List ℕ) → List ℕ
widths p i [] = []
widths p i (r ∷ rs) = (if is_free p.task p.subtasks i then length r else 1) ∷ widths p (i + 1) rs

-- in how many ways there may be candidates
abbrev pub ways : Puzzle → ℕ
ways p = rising (keys p.subtasks) * product (widths p 0 p.ranges)

-- B has what the task and the children chosen say of parameters
abbrev pub Agrees : Puzzle → List ℕ → List ℕ → Type 0
Agrees p q B = (v o : ℕ) → bound p q v ≡ Some o → slice_index B v ≡ o

-- by what the task and the children chosen say, the term has not this object
abbrev pub CannotBe : Puzzle → List ℕ → Term → ℕ → Type 0
CannotBe p q t o = (B : List ℕ) → Agrees p q B → object_of B t ≡ o → ⊥

-- the terms have not these objects
abbrev pub CannotAllBe : Puzzle → List ℕ → List Term → List ℕ → Type 0
CannotAllBe p q ts os = (B : List ℕ) → Agrees p q B → map (object_of B) ts ≡ os → ⊥

-- the child at place x does not do what the subtask says
abbrev pub CannotDo : Puzzle → List ℕ → ℕ → Subtask → Type 0
CannotDo p q x s = (B : List ℕ) → Agrees p q B → Done p.children B x s → ⊥

-- the object chosen for the v-th parameter
abbrev pub IsChosen : Puzzle → List ℕ → ℕ → ℕ → Type 0
IsChosen p q v o = slice_get q (length p.subtasks + v) ≡ Some o

-- the v-th parameter has this object in every match
abbrev pub IsForetold : Puzzle → ℕ → ℕ → Type 0
IsForetold p v o = (M B : List ℕ) → IsMatch p M B → slice_index B v ≡ o

-- B goes on from the choices q: it has what the task and the children chosen say of parameters, the
-- objects chosen, and for each parameter an object that it may have
pub record GoesOn (p : Puzzle) (q B : List ℕ) : Type 0 where
  pub agrees : Agrees p q B
  pub chosen : (v o : ℕ) → IsChosen p q v o → slice_index B v ≡ o
  pub typed : AllZip (λ o r. Contains r o) B p.ranges

-- the v-th parameter has this object, whatever is chosen further
abbrev pub IsValue : Puzzle → List ℕ → ℕ → ℕ → Type 0
IsValue p q v o = (B : List ℕ) → GoesOn p q B → slice_index B v ≡ o

-- the term is this object
abbrev pub IsKnown : Puzzle → List ℕ → Term → ℕ → Type 0
IsKnown p q t o = (B : List ℕ) → GoesOn p q B → object_of B t ≡ o

-- the constraint does not hold
abbrev pub CannotHold : Puzzle → List ℕ → Constraint → Type 0
CannotHold p q c = (B : List ℕ) → GoesOn p q B → holds B c ≡ false

-- the terms are these objects
abbrev pub AreKnown : Puzzle → List ℕ → List Term → List ℕ → Type 0
AreKnown p q ts os = (B : List ℕ) → GoesOn p q B → map (object_of B) ts ≡ os

-- the atom is not possible
abbrev pub CannotBeTrue : Puzzle → List ℕ → Atom → Type 0
CannotBeTrue p q a = (B : List ℕ) → GoesOn p q B → is_possible p.ever B a ≡ false

-- with each of these objects for the v-th parameter, from one on up to before another, the atom is
-- not possible
abbrev pub NeverWith : Puzzle → List ℕ → ℕ → ℕ → ℕ → Atom → Type 0
NeverWith p q v from upto a = (o : ℕ) → from ≤ o → o < upto → (B : List ℕ) → GoesOn p q B
    → slice_index B v ≡ o → is_possible p.ever B a ≡ false

-- nothing that is wanted begins with q and any of the objects of these numbers
abbrev pub NothingWith : Search → List ℕ → List ℕ → ℕ → ℕ → Type 0
NothingWith s q os from upto = (from ≤ upto)
    × ((i : ℕ) → from ≤ i → i < upto
    → (i < length os) × NothingBegins s (q ++ slice_index os i ∷ []))
