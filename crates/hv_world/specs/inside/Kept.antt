-- What the code keeps while it counts classes and looks for free parameters.
use Rattle.std.specs.Prelude.{◌≡◌, ℕ, ◌+◌, Bool, true, false, ◌&&◌, if◌then◌else◌, List, [], ◌∷◌, map, Option, None, Some, option_map, slice_index_or, Vec}
use Rattle.indexmap.specs.IndexMap.{IndexMap, get}
use Rattle.std.specs.Hash as fed
use Rattle.hv_world.specs.declared.id.TaskName as code
use Rattle.hv_world.specs.declared.alike.Key as code_key
use Rattle.hv_world.specs.declared.alike.Classes.{Classes}
use Rattle.hv_world.specs.Values.{Term, Subtask, TaskName}
use Rattle.hv_world.specs.Views.{name_view}
use Rattle.hv_world.specs.inside.Seeds.{name_writes}
use Rattle.hv_world.specs.Alike.{Key, key_with, same_name, same_key, has_object, is_fixed, keys, classes, class_sizes, class_of}

-- what a name feeds to a hasher
abbrev pub name_bytes : code.TaskName → fed.HashWrites
name_bytes n = name_writes (name_view n)

-- whether a position is marked
abbrev pub is_marked : List Bool → ℕ → Bool
is_marked marks k = slice_index_or marks k false

-- the marks, the first of them at position k, of those positions at which the terms have an object
abbrev pub kept_marks : List Term → ℕ → List Bool → List Bool
kept_marks xs k [] = []
kept_marks xs k (b ∷ bs) = (b && has_object xs k) ∷ kept_marks xs (k + 1) bs

-- whether a position is marked; with no row all are
abbrev pub is_marked_in : Option (List Bool) → ℕ → Bool
is_marked_in None k = true
is_marked_in (Some row) k = is_marked row k

-- the row of a name says which positions are fixed
abbrev pub RowSays : List Subtask → TaskName → Option (List Bool) → Type 0
RowSays ss n row = (k : ℕ) → is_marked_in row k ≡ is_fixed ss n k

abbrev pub key_view : code_key.Key → Key
key_view k = key_with (name_view k.name) k.objects.items

-- one more of the class of k
abbrev pub counted : Key → List (Key × ℕ) → List (Key × ℕ)
counted k [] = (k, 1) ∷ []
counted k (c ∷ cs) = if same_key k c.0 then (c.0, c.1 + 1) ∷ cs else c ∷ counted k cs

abbrev pub is_name : code.TaskName → code.TaskName → Bool
is_name m n = same_name (name_view m) (name_view n)

-- the rows say which positions are fixed for each name
abbrev pub RowsSay : {A S : Type 0} → List Subtask → IndexMap code.TaskName (Vec Bool A) S → Type 0
RowsSay ss m = (n : code.TaskName)
    → RowSays ss (name_view n) (option_map (λ v. v.items) (get is_name m n))

-- each class so far by its key, with its size
abbrev pub counts_in : {S : Type 0} → IndexMap code_key.Key ℕ S → List (Key × ℕ)
counts_in m = map (λ e. (key_view e.0, e.1)) m.entries

-- the numbers of the classes of subtasks
abbrev pub AreNumbers : List Subtask → List ℕ → Type 0
AreNumbers ss is = map (class_of ss) ss ≡ map Some is

-- what is kept of the classes of subtasks
pub record AreClasses (ss : List Subtask) (c : Classes) : Type 0 where
  pub fixed : RowsSay ss c.fixed
  pub counts : counts_in c.counts ≡ classes (keys ss)
  pub sizes : c.sizes.items ≡ class_sizes ss
  pub numbers : AreNumbers ss c.numbers.items
