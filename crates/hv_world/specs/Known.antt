-- What is known of the names of a domain and a problem.
use Rattle.std.specs.Prelude.{ℕ, suc, ◌≤◌, List, [], ◌∷◌, ◌++◌, map, length, take_while, drop, Option, Some, None, nat_lt, codes}
use Rattle.std.specs.List.{AllPairs, slice_get, flat_map}
use Rattle.hv_syntax.specs.Values.{WordAt, type_name, TypedBy, Typed, Predicate, Task, Action, Domain, Problem}
use Rattle.hv_world.specs.Values.{TaskName, compound, primitive}
use Rattle.hv_world.specs.Names.{names, place_in, by_sight}
use Rattle.hv_world.specs.Eithers.{either_types}

-- a predicate, a task or an action as it is declared: its number and how many terms it takes
pub record Signature : Type 0 where
  pub number : ℕ
  pub arity : ℕ

abbrev pub signature : ℕ → ℕ → Signature
signature n k = record { number = n; arity = k }

-- a task or an action as it is declared: what it is, how many terms it takes, its name, and where
-- its section starts
pub record Declaration : Type 0 where
  pub what : TaskName
  pub arity : ℕ
  pub name : WordAt
  pub start : ℕ

abbrev pub declaration : TaskName → ℕ → WordAt → ℕ → Declaration
declaration x k w s = record { what = x; arity = k; name = w; start = s }

abbrev pub task_declarations : ℕ → List Task → List Declaration
task_declarations n [] = []
task_declarations n (t ∷ ts) =
    declaration (compound n) (length t.parameters) t.name t.place.start
    ∷ task_declarations (suc n) ts

abbrev pub action_declarations : ℕ → List Action → List Declaration
action_declarations n [] = []
action_declarations n (a ∷ as') =
    declaration (primitive n) (length a.parameters) a.name a.place.start
    ∷ action_declarations (suc n) as'

-- the first of these that start before a declaration
abbrev pub those_before : Declaration → List Declaration → List Declaration
those_before d es = take_while (λ e. nat_lt e.start d.start) es

-- two lists in one, by their places: each of the first stands behind those of the second that start
-- before it
abbrev pub by_place : List Declaration → List Declaration → List Declaration
by_place [] es = es
by_place (d ∷ ds) es = those_before d es ++ d ∷ by_place ds (drop (length (those_before d es)) es)

-- none starts before one that stands in front of it
abbrev pub GoByPlace : List Declaration → Type 0
GoByPlace ds = AllPairs (λ d e. d.start ≤ e.start) ds

-- the tasks and actions of a domain, as they stand in its text
abbrev pub declarations : Domain → List Declaration
declarations d = by_place (task_declarations 0 d.tasks) (action_declarations 0 d.actions)

abbrev pub declared_words : List Declaration → List WordAt
declared_words ds = map (λ e. e.name) ds

abbrev pub predicate_words : List Predicate → List WordAt
predicate_words ps = map (λ q. q.name) ps

-- what stands at the place of a name
abbrev pub at_place : {A : Type 0} → List A → Option ℕ → Option A
at_place xs None = None
at_place xs (Some i) = slice_get xs i

abbrev pub signature_at : List Predicate → Option ℕ → Option Signature
signature_at ps None = None
signature_at ps (Some i) =
    elim (slice_get ps i) [ None ↦ None | Some q ↦ Some (signature i (length q.parameters)) ]

-- the names or variables of a typed list
abbrev pub variables : {T : Type 0} → List (TypedBy T) → List (List ℕ)
variables vs = map (λ v. v.name.text) vs

abbrev pub typed_words : {T : Type 0} → List (TypedBy T) → List WordAt
typed_words vs = map (λ v. v.name) vs

-- a type and its parent
abbrev pub both_types : Typed → List (List ℕ)
both_types v = v.name.text ∷ type_name v.of ∷ []

-- the types by first sight: `object`, and each declared type and its parent
abbrev pub type_names : Domain → List (List ℕ)
type_names d = by_sight (codes "object" ∷ flat_map both_types d.types)

-- the constants and objects by first sight
abbrev pub object_names : Domain → Problem → List (List ℕ)
object_names d p = by_sight (variables (d.constants ++ p.objects))

-- what the static rules ask of names: which are types and objects, and how predicates, tasks
-- and actions are declared, a name declared twice as it is first; and which lists of names are
-- types of variables
pub record Known : Type 0 where
  pub types : List (List ℕ)
  pub eithers : List (List (List ℕ))
  pub objects : List (List ℕ)
  pub predicate : List ℕ → Option Signature
  pub task : List ℕ → Option Declaration

abbrev pub known_in : Domain → Problem → Known
known_in d p =
    record {
      types = type_names d;
      eithers = either_types d p;
      objects = object_names d p;
      predicate =
          λ n. signature_at d.predicates (place_in (names (predicate_words d.predicates)) n);
      task = λ n. at_place (declarations d) (place_in (names (declared_words (declarations d))) n);
    }
