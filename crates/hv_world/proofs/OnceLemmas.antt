-- Names that stand once, and where a look-up finds them.
use Rattle.std.proofs.Common.{◌≡◌, ◌≢◌, ℕ, zero, suc, ◌<◌, Bool, true, false, ◌||◌, List, [], ◌∷◌, ◌++◌, map, length, get_or, Some, None, option_map, bytes_eq, codes, if◌then◌else◌, All, refl, ap, sym, subst, ◌∙◌, arith, true≢false}
use Rattle.std.specs.List.{AllPairs, slice_get, flat_map}
use Rattle.std.specs.Cmp.Lexicographic.{bytes_decides}
use Rattle.std.proofs.lemmas.List.Elements.{All-cons, All-nil, All-head, All-tail, All-map, All-weaker}
use Rattle.std.proofs.lemmas.List.{length-map, map-append}
use Rattle.std.proofs.lemmas.List.Kept.{AllPairs-cons}
use Rattle.std.proofs.lemmas.Option.{get_or_from_slice_get, slice_get_within, slice_get-map}
use Rattle.std.proofs.lemmas.List.Quantifiers.{all_pairs_push}
use Rattle.hv_lists.specs.Lists.{Once}
use Rattle.hv_lists.proofs.Places.{first_none}
use Rattle.hv_syntax.specs.Values.{WordAt, Domain, Problem}
use Rattle.hv_syntax.specs.Values as text
use Rattle.hv_world.specs.declared.fault.StaticKind.{StaticKind}
use Rattle.hv_world.specs.declared.fault.StaticKind.TheVariants as kinds
use Rattle.hv_world.specs.declared.fault.Side.{Side}
use Rattle.hv_world.specs.declared.fault.Side.TheVariants as sides
use Rattle.hv_world.specs.Bounds.{AreNamedOnce, IsSoundNetwork, IsSound}
use Rattle.hv_world.specs.Faults.{faults_at}
use Rattle.hv_world.specs.Known.{Declaration, Known, known_in, by_place, task_declarations, action_declarations, declarations, declared_words, predicate_words, variables, both_types}
use Rattle.hv_world.specs.Names.{names, is_among, place_in, with_names, repeated_after}
use Rattle.hv_world.specs.Networks.{written_by, IsArrangeable}
use Rattle.hv_world.specs.Scopes.{Scope, parameters}
use Rattle.hv_world.specs.StaticRules.{IsStatic, method_words}
use Rattle.hv_world.specs.Values.{compound, primitive}
use Rattle.hv_world.specs.Worlds.{World, Task, Action, world_of, task_names, action_names, said_task_names, said_action_names, said_method_names, task_by, action_in, task_named, network_in, method_in, task_in}
use Rattle.hv_world.proofs.BuildLemmas.{of_mapped, predicates_named, tasks_named, actions_named, methods_named}
use Rattle.hv_world.proofs.NameLemmas.{found_there, same_name}
use Rattle.hv_world.proofs.PlaceLemmas.{pairs_nil, pairs_head, pairs_tail, pairs_front, pairs_back, pairs_cross, by_place_apart}
use Rattle.hv_world.proofs.NoFaults.{last_none}
use Rattle.hv_world.proofs.AmongLemmas.{among_append}
use Rattle.hv_world.proofs.StaticLemmas.{methods_arrangeable, top_arrangeable, typing_in_range}

pub once_none : {X : Type 0} → Once {X = X} []
once_none i j d lt within = absurd (omega arith)

or_false : (a b : Bool) → (a || b) ≡ false → (a ≡ false) × (b ≡ false)
or_false true b e = absurd (true≢false e)
or_false false b e = (refl, e)

other_name : (n m : List ℕ) → bytes_eq n m ≡ false → m ≢ n
other_name n m e same = absurd (true≢false (sym ((bytes_decides n m).1 (sym same)) ∙ e))

not_among : (xs : List (List ℕ)) (n : List ℕ) → is_among xs n ≡ false → (k : ℕ) (d : List ℕ) → k < length xs → get_or xs k d ≢ n
not_among [] n e k d lt = absurd (omega arith)
not_among (x ∷ xs) n e zero d lt = other_name n x (or_false (bytes_eq n x) (is_among xs n) e).0
not_among (x ∷ xs) n e (suc k) d lt = not_among xs n (or_false (bytes_eq n x) (is_among xs n) e).1 k d (omega arith)

-- names by first sight
pub with_once : (seen ns : List (List ℕ)) → Once seen → Once (with_names seen ns)
with_once seen [] once = once
with_once seen (n ∷ ns) once = with_once (if is_among seen n then seen else seen ++ n ∷ []) ns (noted (is_among seen n) refl) where
  noted : (b : Bool) → is_among seen n ≡ b → Once (if b then seen else seen ++ n ∷ [])
  noted true e = once
  noted false e = all_pairs_push ◌≢◌ seen n once (not_among seen n e)

-- words of which none repeats a name before it
pub once_of : (before : List (List ℕ)) (ws : List WordAt) → repeated_after before ws ≡ [] → All (λ n. is_among before n ≡ false) (names ws) × Once (names ws)
once_of before [] e = (All-nil (λ n. is_among before n ≡ false), once_none)
once_of before (w ∷ ws) e = by (is_among before w.text) refl (once_of (before ++ w.text ∷ []) ws) e where
  by : (b : Bool) → is_among before w.text ≡ b
      → (repeated_after (before ++ w.text ∷ []) ws ≡ [] → All (λ n. is_among (before ++ w.text ∷ []) n ≡ false) (names ws) × Once (names ws))
      → (if b then w ∷ repeated_after (before ++ w.text ∷ []) ws else repeated_after (before ++ w.text ∷ []) ws) ≡ []
      → All (λ n. is_among before n ≡ false) (names (w ∷ ws)) × Once (names (w ∷ ws))
  by true f again g = absurd (cc)
  by false f again g =
      let rest = again g in
      let both : (n : List ℕ) → is_among (before ++ w.text ∷ []) n ≡ false → (is_among before n ≡ false) × (is_among (w.text ∷ []) n ≡ false) =
      λ n h. or_false (is_among before n) (is_among (w.text ∷ []) n) (sym (among_append before (w.text ∷ []) n) ∙ h) in (
        All-cons (λ n. is_among before n ≡ false) w.text (names ws) f (All-weaker (λ n. is_among (before ++ w.text ∷ []) n ≡ false) (λ n. is_among before n ≡ false) (λ n h. (both n h).0) (names ws) rest.0),
        AllPairs-cons ◌≢◌ w.text (names ws)
            (All-weaker (λ n. is_among (before ++ w.text ∷ []) n ≡ false) (λ n. w.text ≢ n) (λ n h. other_name n w.text (or_false (bytes_eq n w.text) false (both n h).1).0) (names ws) rest.0) rest.1,
      )

no_words : (k : StaticKind) (s : Side) (ws : List WordAt) → faults_at k s ws ≡ [] → ws ≡ []
no_words k s [] e = refl
no_words k s (w ∷ ws) e = absurd (cc)

methods_of : (ms : List text.Method) → names (method_words ms) ≡ said_method_names ms
methods_of [] = refl
methods_of (m ∷ ms) = ap (λ ns. m.name.text ∷ ns) (methods_of ms)

-- of tasks and actions together
abbrev name_of : Declaration → List ℕ
name_of e = e.name.text

abbrev Differ : Declaration → Declaration → Type 0
Differ d e = name_of d ≢ name_of e

names_differ : (ds : List Declaration) → Once (names (declared_words ds)) → AllPairs Differ ds
names_differ [] once = pairs_nil Differ
names_differ (d ∷ ds) once =
    let others = pairs_head ◌≢◌ (name_of d) (names (declared_words ds)) once in
    AllPairs-cons Differ d ds (of_mapped (λ w. name_of d ≢ w.text) (λ e. e.name) ds (of_mapped (λ n. name_of d ≢ n) (λ w. w.text) (declared_words ds) others))
    (names_differ ds (pairs_tail ◌≢◌ (name_of d) (names (declared_words ds)) once))

named_once : (ds : List Declaration) → AllPairs Differ ds → Once (map name_of ds)
named_once [] differ = once_none
named_once (d ∷ ds) differ =
    AllPairs-cons ◌≢◌ (name_of d) (map name_of ds) (All-map (λ n. name_of d ≢ n) name_of ds (pairs_head Differ d ds differ)) (named_once ds (pairs_tail Differ d ds differ))

tasks_said : (k : ℕ) (ts : List text.Task) → map name_of (task_declarations k ts) ≡ said_task_names ts
tasks_said k [] = refl
tasks_said k (t ∷ ts) = ap (λ ns. t.name.text ∷ ns) (tasks_said (suc k) ts)

actions_said : (k : ℕ) (xs : List text.Action) → map name_of (action_declarations k xs) ≡ said_action_names xs
actions_said k [] = refl
actions_said k (x ∷ xs) = ap (λ ns. x.name.text ∷ ns) (actions_said (suc k) xs)

tasks_once : (k : Known) (ts : List text.Task) (xs : List text.Action) → Once (names (declared_words (by_place (task_declarations 0 ts) (action_declarations 0 xs))))
    → Once (task_names (map (task_by k) ts) ++ action_names (map (action_in k) xs))
tasks_once k ts xs once =
    let ds = task_declarations 0 ts in
    let es = action_declarations 0 xs in
    let apart : Once (map name_of (ds ++ es)) =
    named_once (ds ++ es) (by_place_apart Differ (λ d e differ same. differ (sym same)) ds es (names_differ (by_place ds es) once)) in
    let firsts : map name_of ds ≡ task_names (map (task_by k) ts) = tasks_said 0 ts ∙ sym (tasks_named k ts) in
    let seconds : map name_of es ≡ action_names (map (action_in k) xs) = actions_said 0 xs ∙ sym (actions_named k xs) in
    subst Once (map-append name_of ds es ∙ (λ i. firsts i ++ seconds i)) apart

pub world_named : (d : Domain) (p : Problem) → IsStatic d p → AreNamedOnce (world_of d p)
world_named d p static =
    let three = first_none _ _ (first_none _ _ static.of_domain) in
    let duplicates = first_none _ _ (first_none _ _ three) in
    let repeats = first_none _ _ duplicates in
    let tasks = no_words kinds.DuplicateName sides.Domain _ (last_none _ _ duplicates) in
    let predicates = no_words kinds.DuplicateName sides.Domain _ (first_none _ _ repeats) in
    let methods = no_words kinds.DuplicateName sides.Domain _ (last_none _ _ repeats) in
    record {
      types = with_once [] (codes "object" ∷ flat_map both_types d.types) once_none;
      objects = with_once [] (variables (d.constants ++ p.objects)) once_none;
      tasks = tasks_once (known_in d p) d.tasks d.actions (once_of [] (declared_words (declarations d)) tasks).1;
      predicates = subst Once (predicates_named d.predicates) (once_of [] (predicate_words d.predicates) predicates).1;
      methods = subst Once (methods_of d.methods ∙ sym (methods_named (known_in d p) d.methods)) (once_of [] (method_words d.methods) methods).1;
    }

network_sound : (k : Known) (scope : Scope) (n : text.Network) → IsArrangeable (written_by n) → IsSoundNetwork (network_in k scope n)
network_sound k scope n sound = record { order = sym (length-map n.subtasks (λ x. task_in k scope x.task)); arrangeable = sound }

pub world_sound : (d : Domain) (p : Problem) → IsStatic d p → IsSound (world_of d p)
world_sound d p static =
    let k = known_in d p in
    record {
      named = world_named d p static;
      typing = typing_in_range d p static;
      type_count = omega arith;
      object_count = refl;
      methods =
          All-map (λ m. IsSoundNetwork m.network) (method_in k) d.methods
          (All-weaker (λ m. IsArrangeable (written_by m.network)) (λ m. IsSoundNetwork (method_in k m).network) (λ m h. network_sound k (parameters (variables m.parameters)) m.network h) d.methods (methods_arrangeable d p static));
      top = network_sound k (parameters (variables p.htn.parameters)) p.htn.network (top_arrangeable d p static);
    }

-- a look-up of a name that stands once finds its place
place_at : (ns : List (List ℕ)) → Once ns → (k : ℕ) → k < length ns → place_in ns (get_or ns k []) ≡ Some k
place_at [] once k lt = absurd (omega arith)
place_at (m ∷ ms) once zero lt = rw (same_name m) refl
place_at (m ∷ ms) once (suc k) lt = by (bytes_eq (get_or ms k []) m) refl (place_at ms (λ i j d less within. once (suc i) (suc j) d (omega arith) (omega arith)) k (omega arith)) where
  by : (b : Bool) → bytes_eq (get_or ms k []) m ≡ b → place_in ms (get_or ms k []) ≡ Some k → (if b then Some 0 else option_map suc (place_in ms (get_or ms k []))) ≡ Some (suc k)
  by true e rest = absurd (once 0 (suc k) [] (omega arith) lt (sym ((bytes_decides (get_or ms k []) m).0 e)))
  by false e rest = ap (option_map suc) rest

pub found_at : (ns : List (List ℕ)) → Once ns → (k : ℕ) (n : List ℕ) → slice_get ns k ≡ Some n → place_in ns n ≡ Some k
found_at ns once k n e = subst (λ m. place_in ns m ≡ Some k) (get_or_from_slice_get ns k n [] e) (place_at ns once k (slice_get_within ns k n e))

-- a name that differs from all of a list has no place in it
absent : (ns : List (List ℕ)) (n : List ℕ) → All (λ m. m ≢ n) ns → place_in ns n ≡ None
absent [] n differ = refl
absent (m ∷ ms) n differ = by (bytes_eq n m) refl (absent ms n (All-tail (λ x. x ≢ n) m ms differ)) where
  by : (b : Bool) → bytes_eq n m ≡ b → place_in ms n ≡ None → (if b then Some 0 else option_map suc (place_in ms n)) ≡ None
  by true e rest = absurd (All-head (λ x. x ≢ n) m ms differ (sym ((bytes_decides n m).0 e)))
  by false e rest = ap (option_map suc) rest

-- the tasks and actions of a world whose names stand once
module _ (w : World) (once : Once (task_names w.tasks ++ action_names w.actions)) where
  pub task_found : (k : ℕ) (t : Task) → slice_get w.tasks k ≡ Some t → task_named w t.name ≡ Some (compound k)
  task_found k t e =
      let there : slice_get (task_names w.tasks) k ≡ Some t.name = slice_get-map (λ (x : Task). x.name) w.tasks k ∙ ap (option_map (λ x. x.name)) e in
      let place = found_at (task_names w.tasks) (pairs_front ◌≢◌ (task_names w.tasks) (action_names w.actions) once) k t.name there in
      ap (λ o. elim o [ None ↦ option_map primitive (place_in (action_names w.actions) t.name) | Some i ↦ Some (compound i) ]) place

  pub action_found : (k : ℕ) (a : Action) → slice_get w.actions k ≡ Some a → task_named w a.name ≡ Some (primitive k)
  action_found k a e =
      let tasks = task_names w.tasks in
      let actions = action_names w.actions in
      let there : slice_get actions k ≡ Some a.name = slice_get-map (λ (x : Action). x.name) w.actions k ∙ ap (option_map (λ x. x.name)) e in
      let place = found_at actions (pairs_back ◌≢◌ tasks actions once) k a.name there in
      let differ : All (λ m. m ≢ a.name) tasks =
      All-weaker (λ m. All (λ n. m ≢ n) actions) (λ m. m ≢ a.name)
      (λ m others. subst (λ n. m ≢ n) (get_or_from_slice_get actions k a.name [] there) (others k [] (slice_get_within actions k a.name there))) tasks (pairs_cross ◌≢◌ tasks actions once) in
      ap (λ o. elim o [ None ↦ option_map primitive (place_in actions a.name) | Some i ↦ Some (compound i) ]) (absent tasks a.name differ) ∙ ap (option_map primitive) place

  -- a name of an action is that of no task
  pub action_named : (n : List ℕ) (k : ℕ) → place_in (action_names w.actions) n ≡ Some k → task_named w n ≡ Some (primitive k)
  action_named n k e =
      let tasks = task_names w.tasks in
      let actions = action_names w.actions in
      let there = found_there actions n k e in
      let differ : All (λ m. m ≢ n) tasks =
      All-weaker (λ m. All (λ o. m ≢ o) actions) (λ m. m ≢ n)
      (λ m others. subst (λ o. m ≢ o) (get_or_from_slice_get actions k n [] there) (others k [] (slice_get_within actions k n there))) tasks (pairs_cross ◌≢◌ tasks actions once) in
      ap (λ o. elim o [ None ↦ option_map primitive (place_in actions n) | Some i ↦ Some (compound i) ]) (absent tasks n differ) ∙ ap (option_map primitive) e
