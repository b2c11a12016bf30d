-- The tables of a domain and a problem, from their parts.
use Rattle.std.proofs.Common.{◌≡◌, ℕ, suc, ◌+◌, ◌-◌, ◌<◌, ◌≤◌, nat_lt, Bool, true, false, cond, List, [], ◌∷◌, ◌++◌, map, length, take, drop, get_or, Option, Some, None, option_map, bytes_eq, if◌then◌else◌, slice_get, refl, ap, sym, ◌∙◌, arith}
use Rattle.std.specs.List.{list_any, prefix_len, flat_map}
use Rattle.std.proofs.lemmas.List.{map-append, append_assoc, append-nil, drop_more, drop_all, drop-drop, length-drop, take-map, drop-map, take_all}
use Rattle.std.proofs.lemmas.List.Folds.{length-prefix_len}
use Rattle.std.proofs.lemmas.Option.{slice_get-map}
use Rattle.std.proofs.lemmas.Bool.Decides.{nat_tests}
use Rattle.indexmap.specs.IndexSet.{insert_key}
use Rattle.hv_text.specs.Names.{text_of}
use Rattle.hv_text.specs.declared.name.Name.{Name}
use Rattle.hv_syntax.specs.declared.typed.TypedText.{TypedText}
use Rattle.hv_syntax.specs.Values.{Predicate, Domain, Problem, type_name}
use Rattle.hv_syntax.specs.Views.{typed_view}
use Rattle.hv_world.specs.declared.tables.Declared.{Declared}
use Rattle.hv_world.specs.Names.{names, is_among, place_in, with_names}
use Rattle.hv_world.specs.Eithers.{either_types}
use Rattle.hv_world.specs.Known.{Declaration, both_types, variables, those_before, by_place, signature_at, Signature, signature, Known, known_in, at_place, type_names, object_names, predicate_words, declared_words, declarations}
use Rattle.hv_world.specs.inside.Tables.{declaration_view, signature_beside}
use Rattle.hv_world.proofs.NameLemmas.{any-map}

-- names with one more, unless it is among them
abbrev pub with_name : List (List ℕ) → List ℕ → List (List ℕ)
with_name ns n = if is_among ns n then ns else ns ++ n ∷ []

pub insert_is : (k : Name) (xs : List Name) → map text_of (insert_key (λ a b. bytes_eq (text_of a) (text_of b)) xs k) ≡ with_name (map text_of xs) (text_of k)
insert_is k xs = picked (list_any (λ x. bytes_eq (text_of k) (text_of x)) xs) (is_among (map text_of xs) (text_of k)) (sym (any-map text_of (text_of k) xs))
  where
    picked : (b c : Bool) → b ≡ c → map text_of (if b then xs else xs ++ k ∷ []) ≡ (if c then map text_of xs else map text_of xs ++ text_of k ∷ [])
    picked true true e = refl
    picked false false e = map-append text_of xs (k ∷ [])
    picked true false e = absurd (cc)
    picked false true e = absurd (cc)

pub with_names-append : (seen ns ms : List (List ℕ)) → with_names seen (ns ++ ms) ≡ with_names (with_names seen ns) ms
with_names-append seen [] ms = refl
with_names-append seen (n ∷ ns) ms = with_names-append (with_name seen n) ns ms

module _ (list : List TypedText) (i : ℕ) (x : TypedText) (lt : i < length list) (is : x ≡ get_or list i x) where
  split : drop i list ≡ x ∷ drop (i + 1) list
  split = drop_more list i x lt ∙ ap (λ y. y ∷ drop (i + 1) list) (sym is)

  pub names_next : (old new : List Name) (name : Name) (all : List (List ℕ)) → text_of name ≡ (typed_view x).name.text → new ≡ insert_key (λ a b. bytes_eq (text_of a) (text_of b)) old name
      → with_names (map text_of old) (variables (map typed_view (drop i list))) ≡ all → with_names (map text_of new) (variables (map typed_view (drop (i + 1) list))) ≡ all
  names_next old new name all said grown so_far =
      ap (λ ns. with_names ns (variables (map typed_view (drop (i + 1) list)))) (ap (map text_of) grown ∙ insert_is name old ∙ ap (with_name (map text_of old)) said)
      ∙ ap (λ ys. with_names (map text_of old) (variables (map typed_view ys))) (sym split) ∙ so_far

  pub types_next : (old between new : List Name) (child parent : Name) (all : List (List ℕ)) → text_of child ≡ (typed_view x).name.text
      → between ≡ insert_key (λ a b. bytes_eq (text_of a) (text_of b)) old child → text_of parent ≡ type_name (typed_view x).of → new ≡ insert_key (λ a b. bytes_eq (text_of a) (text_of b)) between parent
      → with_names (map text_of old) (flat_map both_types (map typed_view (drop i list))) ≡ all
      → with_names (map text_of new) (flat_map both_types (map typed_view (drop (i + 1) list))) ≡ all
  types_next old between new child parent all said grown above again so_far =
      let rest = flat_map both_types (map typed_view (drop (i + 1) list)) in
      let name = (typed_view x).name.text in
      let first : map text_of between ≡ with_name (map text_of old) name = ap (map text_of) grown ∙ insert_is child old ∙ ap (with_name (map text_of old)) said in
      let second : map text_of new ≡ with_name (with_name (map text_of old) name) (type_name (typed_view x).of) =
      ap (map text_of) again ∙ insert_is parent between ∙ (λ j. with_name (first j) (above j)) in
      ap (λ ns. with_names ns rest) second
      ∙ ap (λ ys. with_names (map text_of old) (flat_map both_types (map typed_view ys))) (sym split) ∙ so_far

-- one declaration starts before another
abbrev pub starts_before : Declaration → Declaration → Bool
starts_before d e = nat_lt e.start d.start

module _ (d : Declaration) (list : List Declared) (i : ℕ) (x : Declared) (all : ℕ) (lt : i < length list) (is : x ≡ get_or list i x) where
  split_here : drop i list ≡ x ∷ drop (i + 1) list
  split_here = drop_more list i x lt ∙ ap (λ y. y ∷ drop (i + 1) list) (sym is)

  abbrev behind : List Declared → ℕ
  behind xs = prefix_len (starts_before d) (map declaration_view xs)

  pub count_stops : d.start ≤ x.start → i + behind (drop i list) ≡ all → i ≡ all
  count_stops le so_far =
      let no_more : nat_lt x.start d.start ≡ false = grind (arith, nat_tests, le) in
      let here : behind (drop i list) ≡ 0 = ap behind split_here ∙ ap (λ b. cond b (1 + behind (drop (i + 1) list)) 0) no_more in
      let none_left : i ≡ i + behind (drop i list) = omega (arith, here) in
      none_left ∙ so_far

  pub count_goes_on : x.start < d.start → i + behind (drop i list) ≡ all → i + 1 + behind (drop (i + 1) list) ≡ all
  count_goes_on less so_far =
      let one_more : nat_lt x.start d.start ≡ true = grind (arith, nat_tests, less) in
      let here : behind (drop i list) ≡ 1 + behind (drop (i + 1) list) = ap behind split_here ∙ ap (λ b. cond b (1 + behind (drop (i + 1) list)) 0) one_more in
      let one_later : i + 1 + behind (drop (i + 1) list) ≡ i + behind (drop i list) = omega (arith, here) in
      one_later ∙ so_far

pub counted : (d : Declaration) (es : List Declaration) → length (those_before d es) ≡ prefix_len (starts_before d) es
counted d es = length-prefix_len (starts_before d) es

-- the arities of predicates stand beside their numbers
pub signature_is : (ps : List Predicate) (o : Option ℕ) → signature_beside (map (λ p. length p.parameters) ps) o ≡ signature_at ps o
signature_is ps None = refl
signature_is ps (Some i) =
    ap (λ o. with_number o) (slice_get-map (λ (p : Predicate). length p.parameters) ps i) ∙ known (slice_get ps i)
  where
    with_number : Option ℕ → Option Signature
    with_number None = None
    with_number (Some k) = Some (signature i k)

    known : (o : Option Predicate)
        → ◌≡◌ {A = Option Signature} (with_number (option_map (λ (p : Predicate). length p.parameters) o))
        (elim o [ None ↦ None | Some p ↦ Some (signature i (length p.parameters)) ])
    known None = refl
    known (Some p) = refl

-- the steps of pushing a part of a list
pub push_next : {X : Type 0} (list : List X) (i to : ℕ) (x : X) (old new all : List X) → i < length list → x ≡ get_or list i x → i < to → new ≡ old ++ x ∷ []
    → old ++ take (to - i) (drop i list) ≡ all → new ++ take (to - (i + 1)) (drop (i + 1) list) ≡ all
push_next list i to x old new all lt is less pushed so_far =
    let split : drop i list ≡ x ∷ drop (i + 1) list = drop_more list i x lt ∙ ap (λ y. y ∷ drop (i + 1) list) (sym is) in
    let one : to - i ≡ suc (to - (i + 1)) = omega arith in
    let front : take (to - i) (drop i list) ≡ x ∷ take (to - (i + 1)) (drop (i + 1) list) = (λ j. take (one j) (split j)) in
    ap (λ xs. xs ++ take (to - (i + 1)) (drop (i + 1) list)) pushed ∙ append_assoc old (x ∷ []) (take (to - (i + 1)) (drop (i + 1) list)) ∙ ap (λ xs. old ++ xs) (sym front) ∙ so_far

pub push_end : {X : Type 0} (list : List X) (i to : ℕ) (old all : List X) → to ≤ i → old ++ take (to - i) (drop i list) ≡ all → old ≡ all
push_end list i to old all le so_far =
    let done : to - i ≡ 0 = omega arith in
    sym (append-nil old) ∙ ap (λ n. old ++ take n (drop i list)) (sym done) ∙ so_far

-- the step of merging declarations
module _ (tasks actions : List Declared) (i : ℕ) (t : Declared) (done next : ℕ) (lt : i < length tasks) (is : t ≡ get_or tasks i t) where
  abbrev rest : List Declaration
  rest = map declaration_view (drop done actions)

  pub merge_next : (merged new : List Declared) (all : List Declaration) → next ≡ done + length (those_before (declaration_view t) rest)
      → new ≡ merged ++ take (next - done) (drop done actions) ++ t ∷ []
      → map declaration_view merged ++ by_place (map declaration_view (drop i tasks)) rest ≡ all
      → map declaration_view new ++ by_place (map declaration_view (drop (i + 1) tasks)) (map declaration_view (drop next actions)) ≡ all
  merge_next merged new all counts pushes so_far =
      let pushed = merged ++ take (next - done) (drop done actions) in
      let d = declaration_view t in
      let before = those_before d rest in
      let others = map declaration_view (drop (i + 1) tasks) in
      let split : drop i tasks ≡ t ∷ drop (i + 1) tasks = drop_more tasks i t lt ∙ ap (λ y. y ∷ drop (i + 1) tasks) (sym is) in
      let many : next - done ≡ length before = omega (arith, counts) in
      let part : map declaration_view (take (next - done) (drop done actions)) ≡ before =
      sym (take-map declaration_view (next - done) (drop done actions)) ∙ ap (λ n. take n rest) (many ∙ counted d rest) in
      let behind_it : map declaration_view (drop next actions) ≡ drop (length before) rest =
      ap (λ n. map declaration_view (drop n actions)) counts ∙ ap (map declaration_view) (sym (drop-drop (length before) done actions))
      ∙ sym (drop-map declaration_view (length before) (drop done actions)) in
      let front : map declaration_view new ≡ (map declaration_view merged ++ before) ++ d ∷ [] =
      ap (map declaration_view) pushes ∙ map-append declaration_view pushed (t ∷ [])
      ∙ ap (λ xs. xs ++ d ∷ []) (map-append declaration_view merged (take (next - done) (drop done actions)) ∙ ap (λ xs. map declaration_view merged ++ xs) part) in
      (λ j. front j ++ by_place others (behind_it j))
      ∙ append_assoc (map declaration_view merged ++ before) (d ∷ []) (by_place others (drop (length before) rest))
      ∙ append_assoc (map declaration_view merged) before (d ∷ by_place others (drop (length before) rest))
      ∙ ap (λ ts. map declaration_view merged ++ by_place (map declaration_view ts) rest) (sym split) ∙ so_far

pub merge_end : (tasks actions : List Declared) (i done : ℕ) (merged new : List Declared) (all : List Declaration) → length tasks ≤ i
    → new ≡ merged ++ take (length actions - done) (drop done actions) → done ≤ length actions
    → map declaration_view merged ++ by_place (map declaration_view (drop i tasks)) (map declaration_view (drop done actions)) ≡ all → map declaration_view new ≡ all
merge_end tasks actions i done merged new all le pushes within so_far =
    let gone = length-drop done actions in
    let long : length (drop done actions) ≤ length actions - done = omega (arith, gone) in
    ap (map declaration_view) (pushes ∙ ap (λ xs. merged ++ xs) (take_all (length actions - done) (drop done actions) long)) ∙ map-append declaration_view merged (drop done actions)
    ∙ ap (λ ts. map declaration_view merged ++ by_place (map declaration_view ts) (map declaration_view (drop done actions))) (sym (drop_all i tasks le)) ∙ so_far

-- what tables say that have these parts
pub known_is : (d : Domain) (p : Problem) (ts os : List (List ℕ)) (es : List (List (List ℕ))) (arities : List ℕ) (ds : List Declaration) (predicates tasks : List ℕ → Option ℕ)
    → ts ≡ type_names d → es ≡ either_types d p → os ≡ object_names d p → predicates ≡ place_in (names (predicate_words d.predicates)) → arities ≡ map (λ q. length q.parameters) d.predicates
    → ds ≡ declarations d → tasks ≡ place_in (names (declared_words (declarations d)))
    → ◌≡◌ {A = Known} (record { types = ts; eithers = es; objects = os; predicate = λ n. signature_beside arities (predicates n); task = λ n. at_place ds (tasks n) }) (known_in d p)
known_is d p ts os es arities ds predicates tasks ts_are es_are os_are placed counts ds_are tasked =
    let signed : (n : List ℕ) → signature_beside arities (predicates n) ≡ (known_in d p).predicate n =
    λ n. (λ i. signature_beside (counts i) (placed i n)) ∙ signature_is d.predicates (place_in (names (predicate_words d.predicates)) n) in
    λ i. record { types = ts_are i; eithers = es_are i; objects = os_are i; predicate = λ n. signed n i; task = λ n. at_place (ds_are i) (tasked i n) }
