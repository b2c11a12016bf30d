-- How the code reads: the grammar of typed lists: names or variables wait for their type, which
-- stands behind the next `-`; at the end none is written.
use Rattle.std.specs.Prelude.{Bool, true, false, List, [], ◌∷◌, ◌++◌, Option, Some, None, codes, option_map, if◌then◌else◌}
use Rattle.hv_text.specs.Trees.{Tree, word, list, Trees, none, more}
use Rattle.hv_reading.specs.declared.word.Sort.{Sort}
use Rattle.hv_reading.specs.declared.word.Sort.TheVariants as sorts
use Rattle.hv_reading.specs.Words.{is, is_sort, is_the_word}
use Rattle.hv_reading.specs.inside.Words.{sorted_word_of}
use Rattle.hv_reading.specs.inside.Reading.{both, every}
use Rattle.hv_reading.specs.inside.Lists.{single}
use Rattle.hv_syntax.specs.Values.{WordAt, word_at, TypeOf, no_type, of_type, TypedBy, Typed, Variable}
use Rattle.hv_reading.specs.TypedLists.{with_type}

-- no words wait
abbrev pub is_empty : {A : Type 0} → List A → Bool
is_empty [] = true
is_empty (x ∷ xs) = false

-- words of this type, and behind them what the rest of their list says
abbrev pub with_rest : {T : Type 0} → List WordAt → T → List (TypedBy T) → List (TypedBy T)
with_rest ws t xs = with_type t ws ++ xs

-- the rest of a typed list of words of this sort, where these wait for their type, and `wanted`
-- says that it stands next
abbrev pub typed_by : {T : Type 0} → (Tree → Option T) → T → Sort → Bool → List WordAt → Trees
    → Option (List (TypedBy T))
typed_by read not_written sort false waiting none = Some (with_type not_written waiting)
typed_by read not_written sort true waiting none = None
typed_by read not_written sort true waiting (more t ts) =
    both (with_rest waiting) (read t) (typed_by read not_written sort false [] ts)
typed_by read not_written sort false waiting (more (list us s) ts) = None
typed_by read not_written sort false waiting (more (word w s) ts) =
    if is w (codes "-") then
    (if is_empty waiting then None else typed_by read not_written sort true waiting ts) else
    if is_sort sort w then typed_by read not_written sort false
    (waiting ++ word_at w s ∷ []) ts else None

-- the type of names: a name
abbrev pub type_name_of : Tree → Option TypeOf
type_name_of t = option_map of_type (sorted_word_of sorts.Name t)

-- a typed list of names
abbrev pub typed_list_of : Trees → Option (List Typed)
typed_list_of ts = typed_by type_name_of no_type sorts.Name false [] ts

-- one or more names
abbrev pub some_names : Trees → Option (List WordAt)
some_names none = None
some_names (more t ts) = every (sorted_word_of sorts.Name) (more t ts)

-- the names behind `either`
abbrev pub either_among : Trees → Option (List WordAt)
either_among none = None
either_among (more t ts) = if is_the_word (codes "either") t then some_names ts else None

-- the type of variables: a name, or `(either name+)`
abbrev pub type_of : Tree → Option (List WordAt)
type_of (word w s) = option_map single (sorted_word_of sorts.Name (word w s))
type_of (list ts s) = either_among ts

-- a typed list of variables
abbrev pub typed_variables_of : Trees → Option (List Variable)
typed_variables_of ts = typed_by type_of [] sorts.Variable false [] ts
