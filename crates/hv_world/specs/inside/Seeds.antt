-- What a table of names, or of subtasks, is hashed from: a start that has taken in
-- each of its keys.
use Rattle.std.specs.Prelude.{ℕ, List, [], ◌∷◌, ◌++◌, fold}
use Rattle.std.specs.List.{flat_map}
use Rattle.std.specs.Hash as fed
use Rattle.std.specs.Hash.DefaultHasher as sip
use Rattle.std.specs.declared.hash.DefaultHasher.{DefaultHasher}
use Rattle.hv_text.specs.Bytes.{words_of}
use Rattle.hv_syntax.specs.Values.{TypeOf, no_type, of_type, Typed}
use Rattle.hv_world.specs.Values.{Term, object, variable, TaskName, compound, primitive, Subtask}

-- what a hasher has become when it has taken in these names
abbrev pub with_taken_in : DefaultHasher → List (List ℕ) → DefaultHasher
with_taken_in s [] = s
with_taken_in s (n ∷ ns) = with_taken_in (fold sip.write s (words_of n)) ns

-- the start that these names make
abbrev pub start_from : List (List ℕ) → DefaultHasher
start_from ns = with_taken_in sip.initial ns

-- the type that stands beside a name, where one is written
abbrev pub written_type : TypeOf → List (List ℕ)
written_type no_type = []
written_type (of_type w) = w.text ∷ []

-- a name of a typed list, and its type
abbrev pub written_names : Typed → List (List ℕ)
written_names v = v.name.text ∷ written_type v.of

-- what the name of a subtask feeds to a hasher, and an object that it names
abbrev pub name_writes : TaskName → fed.HashWrites
name_writes (compound t) = fed.usize t
name_writes (primitive a) = fed.usize a

abbrev pub term_writes : Term → fed.HashWrites
term_writes (object o) = fed.usize o
term_writes (variable v) = []

-- a subtask: its name, and each object that it names
abbrev pub subtask_writes : Subtask → fed.HashWrites
subtask_writes s = name_writes s.name ++ flat_map term_writes s.terms
