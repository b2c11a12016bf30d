-- What the tables of the code say.
use Rattle.std.specs.Prelude.{◌≡◌, ℕ, List, [], ◌∷◌, map, Option, Some, None, bytes_eq, if◌then◌else◌, Vec}
use Rattle.std.specs.List.{slice_get}
use Rattle.std.specs.declared.hash.DefaultHasher.{DefaultHasher}
use Rattle.indexmap.specs.IndexMap.{hasher_of}
use Rattle.hv_text.specs.Seeds.{start_of}
use Rattle.hv_text.specs.Names.{text_of}
use Rattle.hv_text.specs.declared.name.Name.{Name}
use Rattle.hv_syntax.specs.Views.{word_view, variable_view}
use Rattle.hv_world.specs.declared.names.Names.{Names}
use Rattle.hv_world.specs.declared.scope.Scope as code
use Rattle.hv_world.specs.declared.scope.Scope.TheVariants as scopes
use Rattle.hv_world.specs.declared.tables.Signature as code_signature
use Rattle.hv_world.specs.declared.tables.Declared as code_declared
use Rattle.hv_world.specs.declared.tables.Tables.{Tables}
use Rattle.hv_world.specs.Views.{name_view}
use Rattle.hv_world.specs.Scopes.{Scope, outer, inside}
use Rattle.hv_syntax.specs.Values.{Domain, Htn}
use Rattle.hv_world.specs.Names.{names, place_in}
use Rattle.hv_world.specs.Known.{Signature, signature, Declaration, declaration, Known, at_place, variables, predicate_words, declared_words, declarations}

-- the place that stands beside a name
abbrev pub place_beside : List (Name × ℕ) → List ℕ → Option ℕ
place_beside [] n = None
place_beside (e ∷ es) n = if bytes_eq n (text_of e.0) then Some e.1 else place_beside es n

abbrev pub places_by : Names → List ℕ → Option ℕ
places_by t n = place_beside t.places.entries n

-- the start that its names are hashed from
abbrev pub seed_of : Names → DefaultHasher
seed_of t = start_of (hasher_of t.places)

-- these places, and one for a name that has none
abbrev pub with_place : (List ℕ → Option ℕ) → List ℕ → ℕ → List ℕ → Option ℕ
with_place places m k n =
    elim (places n) [ None ↦ if bytes_eq n m then Some k else None | Some i ↦ Some i ]

abbrev pub scope_view : code.Scope → Scope
scope_view (scopes.Parameters t n) = outer n (places_by t.now)
scope_view (scopes.Inside' p s vs) = inside (scope_view s) (variables (map variable_view vs.now))

abbrev pub signature_view : code_signature.Signature → Signature
signature_view g = signature g.predicate.0 g.arity

abbrev pub declaration_view : code_declared.Declared → Declaration
declaration_view d = declaration (name_view d.what) d.arity (word_view d.name) d.start

abbrev pub signature_beside : List ℕ → Option ℕ → Option Signature
signature_beside arities None = None
signature_beside arities (Some i) =
    elim (slice_get arities i) [ None ↦ None | Some k ↦ Some (signature i k) ]

-- the names that a list of the code has
abbrev pub names_in : {A : Type 0} → Vec Name A → List (List ℕ)
names_in v = map text_of v.items

abbrev pub known_by : Tables → Known
known_by t =
    record {
      types = map text_of t.types.names.keys;
      eithers = map names_in t.types.eithers.keys;
      objects = map text_of t.objects.keys;
      predicate =
          λ n. signature_beside t.predicates.arities.items (places_by t.predicates.places n);
      task = λ n. at_place (map declaration_view t.tasks.list.items) (places_by t.tasks.places n);
    }

-- The tables have the places of the names that a domain declares: those of its predicates, and
-- those of its tasks and actions, which are listed as they stand in its text
pub record HavePlaces (d : Domain) (t : Tables) : Type 0 where
  pub predicates : places_by t.predicates.places ≡ place_in (names (predicate_words d.predicates))
  pub list : map declaration_view t.tasks.list.items ≡ declarations d
  pub tasks : places_by t.tasks.places ≡ place_in (names (declared_words (declarations d)))

-- the tables have the places of the names of the parameters of an initial network
abbrev pub HaveParameters : Htn → Tables → Type 0
HaveParameters h t = places_by t.parameters ≡ place_in (variables h.parameters)
