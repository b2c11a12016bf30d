-- What the parts of a world are made of.
use Rattle.std.proofs.Common.{◌≡◌, ℕ, suc, ◌<◌, List, [], ◌∷◌, ◌++◌, map, Option, All, refl, ap, sym, subst, ◌∙◌, arith}
use Rattle.std.proofs.lemmas.List.{map-append}
use Rattle.std.proofs.lemmas.List.Elements.{All-cons, All-nil}
use Rattle.hv_syntax.specs.Values as text
use Rattle.hv_world.specs.Known.{Known, predicate_words}
use Rattle.hv_world.specs.Names.{names, place_in}
use Rattle.hv_world.specs.Worlds.{World, Task, Action, Method, task_by, action_in, method_in, task_names, action_names, method_names, said_task_names, said_action_names, said_method_names}

-- what holds of all members of a list as they are seen
pub of_mapped : {X Y : Type 0} (P : Y → Type 0) (f : X → Y) (xs : List X) → All P (map f xs) → All (λ x. P (f x)) xs
of_mapped P f [] h = All-nil (λ x. P (f x))
of_mapped P f (x ∷ xs) h = All-cons (λ y. P (f y)) x xs (h 0 (f x) (omega arith)) (of_mapped P f xs (λ k d lt. h (suc k) d (omega arith)))

pub of_seen : {X Y : Type 0} (P : Y → Type 0) (f : X → Y) (xs : List X) (ys : List Y) → map f xs ≡ ys → All P ys → All (λ x. P (f x)) xs
of_seen P f xs ys e h = of_mapped P f xs (subst (All P) (sym e) h)

-- pairs whose numbers are below these
pub pairs_below : {X : Type 0} (f : X → ℕ × ℕ) (ps : List X) (qs : List (ℕ × ℕ)) (n m a b : ℕ) → map f ps ≡ qs → All (λ q. (q.0 < n) × (q.1 < m)) qs → n ≡ a → m ≡ b
    → All (λ p. ((f p).0 < a) × ((f p).1 < b)) ps
pairs_below f ps qs n m a b e h na mb =
    of_seen (λ q. (q.0 < a) × (q.1 < b)) f ps qs e (subst (λ x. All (λ q. (q.0 < x) × (q.1 < b)) qs) na (subst (λ y. All (λ q. (q.0 < n) × (q.1 < y)) qs) mb h))

-- two lists, one put behind the other
pub both_added : {A B : Type 0} (g : A → B) (xs ys : List A) {a b c : List B} → a ≡ [] → b ≡ a ++ map g xs → c ≡ b ++ map g ys → c ≡ map g (xs ++ ys)
both_added g xs ys none e h = h ∙ ap (λ z. z ++ map g ys) (e ∙ ap (λ z. z ++ map g xs) none) ∙ sym (map-append g xs ys)

-- a world by its parts
pub world_is : (w v : World) → w.types ≡ v.types → w.objects ≡ v.objects → w.typing ≡ v.typing → w.predicates ≡ v.predicates → w.tasks ≡ v.tasks → w.methods ≡ v.methods → w.actions ≡ v.actions
    → w.init ≡ v.init → w.goal ≡ v.goal → w.top ≡ v.top → w ≡ v
world_is w v types objects typing predicates tasks methods actions init goal top =
    λ i. record {
      types = types i;
      objects = objects i;
      typing = typing i;
      predicates = predicates i;
      tasks = tasks i;
      methods = methods i;
      actions = actions i;
      init = init i;
      goal = goal i;
      top = top i;
    }

-- the names of predicates are those of the text
pub predicates_named : (ps : List text.Predicate) → names (predicate_words ps) ≡ map (λ q. q.name.text) ps
predicates_named [] = refl
predicates_named (q ∷ ps) = ap (λ ns. q.name.text ∷ ns) (predicates_named ps)

pub predicate_places : (places : List ℕ → Option ℕ) (n : List ℕ) (ps : List text.Predicate) (xs : List (List ℕ)) → places ≡ place_in (names (predicate_words ps)) → xs ≡ map (λ q. q.name.text) ps
    → places n ≡ place_in xs n
predicate_places places n ps xs e made = ap (λ f. f n) (e ∙ ap place_in (predicates_named ps ∙ sym made))

-- the names of tasks, actions and methods are those of the text
module _ (k : Known) where
  pub tasks_named : (ts : List text.Task) → task_names (map (task_by k) ts) ≡ said_task_names ts
  tasks_named [] = refl
  tasks_named (t ∷ ts) = ap (λ ns. t.name.text ∷ ns) (tasks_named ts)

  pub actions_named : (xs : List text.Action) → action_names (map (action_in k) xs) ≡ said_action_names xs
  actions_named [] = refl
  actions_named (x ∷ xs) = ap (λ ns. x.name.text ∷ ns) (actions_named xs)

  pub methods_named : (ms : List text.Method) → method_names (map (method_in k) ms) ≡ said_method_names ms
  methods_named [] = refl
  methods_named (m ∷ ms) = ap (λ ns. m.name.text ∷ ns) (methods_named ms)

  -- their tables
  module _ (places : List ℕ → Option ℕ) (n : List ℕ) where
    pub task_places : (ts us : List text.Task) (xs : List Task) → places ≡ place_in (said_task_names us) → us ≡ ts → xs ≡ map (task_by k) ts → places n ≡ place_in (task_names xs) n
    task_places ts us xs e same made = ap (λ f. f n) (e ∙ ap (λ vs. place_in (said_task_names vs)) same ∙ ap place_in (sym (ap task_names made ∙ tasks_named ts)))

    pub action_places : (ts us : List text.Action) (xs : List Action) → places ≡ place_in (said_action_names us) → us ≡ ts → xs ≡ map (action_in k) ts → places n ≡ place_in (action_names xs) n
    action_places ts us xs e same made = ap (λ f. f n) (e ∙ ap (λ vs. place_in (said_action_names vs)) same ∙ ap place_in (sym (ap action_names made ∙ actions_named ts)))

    pub method_places : (ts us : List text.Method) (xs : List Method) → places ≡ place_in (said_method_names us) → us ≡ ts → xs ≡ map (method_in k) ts → places n ≡ place_in (method_names xs) n
    method_places ts us xs e same made = ap (λ f. f n) (e ∙ ap (λ vs. place_in (said_method_names vs)) same ∙ ap place_in (sym (ap method_names made ∙ methods_named ts)))
