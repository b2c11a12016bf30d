-- What the tables of the search say.
use Rattle.std.specs.Prelude.{◌≡◌, ◌<◌, ◌++◌, ℕ, nat_eq, slice_index, Bool, false, List, [], ◌∷◌, map, length, take, Option, None, Some, option_map, slice_index_or, if◌then◌else◌}
use Rattle.std.specs.Global.{Vec}
use Rattle.hv_world.specs.Bindings.{object_number}
use Rattle.hv_world.specs.Values.{Term, TaskName, Subtask}
use Rattle.hv_world.specs.Alike.{same_name, is_variable, class_sizes, class_of, class_at, with_objects}
use Rattle.hv_world.specs.NetworkViews.{network_view}
use Rattle.hv_world.specs.Views.{name_view, term_view, subtask_view}
use Rattle.hv_world.specs.declared.formula.Subtask as code_subtask
use Rattle.hv_world.specs.declared.formula.Term as code_term
use Rattle.hv_match.specs.inside.Puzzles.{Work, work, places_where, first_in, first_of, source_of, AreRowsOf}
use Rattle.hv_match.specs.declared.puzzle.Work as code_work
use Rattle.hv_match.specs.declared.child_rows.ChildRows.{ChildRows}
use Rattle.hv_match.specs.declared.child_rows.ChildRows.TheVariants as kinds
use Rattle.hv_match.specs.declared.sources.Source.{Source}

abbrev pub work_view : code_work.Work → Work
work_view j = work (name_view j.name) (map object_number j.objects.now)

-- whether a child does what has the name
abbrev pub has_name : TaskName → Option Work → Bool
has_name n None = false
has_name n (Some c) = same_name c.name n

-- the number of the class of what a child does, if some subtask is of it
abbrev pub class_of_work : List Subtask → Option Work → Option ℕ
class_of_work ss None = None
class_of_work ss (Some c) = class_of ss (with_objects c.name c.objects)

abbrev pub is_number : ℕ → Option ℕ → Bool
is_number i None = false
is_number i (Some n) = nat_eq n i

-- whether a child is of the class of a number
abbrev pub is_of_class : List Subtask → ℕ → Option Work → Bool
is_of_class ss i c = is_number i (class_of_work ss c)

abbrev pub row_at : List (Vec ℕ) → ℕ → List ℕ
row_at rows i = slice_index_or (map (λ v. v.items) rows) i []

-- a place stands behind those of a class, if there is one, and the other rows are as they were
abbrev pub HasPut : Option ℕ → ℕ → List (Vec ℕ) → List (Vec ℕ) → Type 0
HasPut class place old new =
    (i : ℕ) → i < length old
    → row_at new i ≡ row_at old i ++ (if is_number i class then place ∷ [] else [])

-- the row of each class has the places of the children that are of it
abbrev pub AreClassRows : List Subtask → List (Option Work) → List (Vec ℕ) → Type 0
AreClassRows ss cs rows =
    (i : ℕ) → i < length (class_sizes ss) → row_at rows i ≡ places_where (is_of_class ss i) 0 cs

-- the same with the children of the code
abbrev pub AreClassRowsOf : List Subtask → List (Option code_work.Work) → List (Vec ℕ) → Type 0
AreClassRowsOf ss cs rows = AreClassRows ss (map (option_map work_view) cs) rows

-- the places of the children that do what has the name
abbrev pub places_named : TaskName → List (Option code_work.Work) → List ℕ
places_named n cs = places_where (has_name n) 0 (map (option_map work_view) cs)

-- there is a row for each subtask of the code, by its name
abbrev pub AreNamedRows : List code_subtask.Subtask → List (Option code_work.Work) → List (List ℕ)
    → Type 0
AreNamedRows ss cs rows = rows ≡ map (λ s. places_named s.name cs) (map subtask_view ss)

-- how many subtasks are of the class of the subtask of a number
abbrev pub size_at : List Subtask → ℕ → ℕ
size_at ss j = elim (class_at ss j) [ None ↦ 0 | Some i ↦ slice_index (class_sizes ss) i ]

-- the places of as many children as are all tried
abbrev pub few_places : List ℕ
few_places = 0 ∷ 1 ∷ 2 ∷ 3 ∷ []

-- the row of the class of the subtask of a number
abbrev pub alike_row : List Subtask → List (List ℕ) → ℕ → List ℕ
alike_row ss rows j = elim (class_at ss j) [ None ↦ [] | Some i ↦ slice_index_or rows i [] ]

-- the row of the subtask of a number
abbrev pub row_for : ChildRows → ℕ → List ℕ
row_for (kinds.All n) j = take n few_places
row_for (kinds.Named rows) j = slice_index_or rows j []
row_for (kinds.Alike n rows) j = alike_row (network_view n.now).subtasks rows j

-- each subtask has a row
abbrev pub ArePlaces : List Subtask → List (Option code_work.Work) → ChildRows → Type 0
ArePlaces ss cs p = AreRowsOf ss (map (option_map work_view) cs) (row_for p)

abbrev pub source_view : Source → Option ℕ × ℕ
source_view s = (s.subtask, s.position)

abbrev pub source_at : List (Option Source) → ℕ → Option (Option ℕ × ℕ)
source_at xs i = option_map source_view (slice_index_or xs i None)

-- each of so many parameters has its source
pub record AreSources (n : ℕ) (ts : List Term) (ss : List Subtask)
    (xs : List (Option Source)) : Type 0 where
  pub size : length xs ≡ n
  pub sources : (i : ℕ) → i < n → source_at xs i ≡ source_of ts ss i

-- the same with the terms and subtasks of the code
abbrev pub AreSourcesOf : ℕ → List code_term.Term → List code_subtask.Subtask → List (Option Source)
    → Type 0
AreSourcesOf n ts ss xs = AreSources n (map term_view ts) (map subtask_view ss) xs

-- the parameter that the term is, if it is one, has the source, and the others have what they had
abbrev pub IsWritten : List (Option Source) → Term → Option ℕ × ℕ → List (Option Source) → Type 0
IsWritten old t s new =
    (i : ℕ) → i < length old
    → source_at new i ≡ (if is_variable i t then Some s else source_at old i)

-- each parameter among the terms of a subtask or of the task has its first position there
-- for its source
abbrev pub AreWritten : List (Option Source) → Option ℕ → List Term → List (Option Source) → Type 0
AreWritten old j ts new = (i : ℕ) → i < length old
    → source_at new i ≡ first_in j i 0 ts (source_at old i)

-- each parameter among the terms of subtasks has its first position there for its source
abbrev pub AreAllWritten : List (Option Source) → List Subtask → List (Option Source) → Type 0
AreAllWritten old ss new = (i : ℕ) → i < length old
    → source_at new i ≡ first_of i 0 ss (source_at old i)
