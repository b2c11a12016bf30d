-- Where there is no static fault, the numbers of networks, methods and actions are those of what the world has.
use Rattle.std.proofs.Common.{◌≡◌, ℕ, suc, ◌+◌, Bool, true, not, List, [], ◌∷◌, ◌++◌, map, filter, length, drop, Option, Some, None, option_map, nat_eq, nat_lt, All, refl, ap, sym, subst, ◌∙◌, arith}
use Rattle.std.specs.Prelude.{MatchOption}
use Rattle.std.specs.List.{slice_get, prefix_len}
use Rattle.std.proofs.lemmas.Bool.Decides.{nat_tests}
use Rattle.std.proofs.lemmas.List.{length-map}
use Rattle.std.proofs.lemmas.Option.{get_or_from_slice_get, slice_get-map, slice_get_within}
use Rattle.std.proofs.lemmas.List.Elements.{All-cons, All-nil, All-weaker, All-map, All-append, All-drop, All-take, All-filter}
use Rattle.hv_lists.proofs.Places.{first_none}
use Rattle.hv_syntax.specs.Values as text
use Rattle.hv_syntax.specs.Values.{WordAt, Variable, Domain, Problem}
use Rattle.hv_text.specs.declared.span.Span.{Span}
use Rattle.hv_world.specs.declared.fault.StaticKind.TheVariants as kinds
use Rattle.hv_world.specs.declared.fault.Side.{Side}
use Rattle.hv_world.specs.declared.fault.Side.TheVariants as sides
use Rattle.hv_world.specs.Values.{TaskName, compound, primitive}
use Rattle.hv_world.specs.Names.{names, place_in}
use Rattle.hv_world.specs.Known.{Known, Declaration, declaration, task_declarations, action_declarations, those_before, by_place, declarations, declared_words, at_place, known_in, variables}
use Rattle.hv_world.specs.Scopes.{Scope, parameters, size}
use Rattle.hv_world.specs.StaticRules.{at_word_if, head_faults, declared_arity, arity_of_task, variable_faults, atom_faults, literals_faults, term_faults, task_faults, subtask_faults, network_faults, method_faults, action_faults, htn_faults, goal_faults, IsStatic}
use Rattle.hv_world.specs.Worlds.{World, world_of, variable_type, types_of, term_in, terms_in, atom_in, formula_in, task_of, task_in, constraint_in, network_in, method_in, top_in, task_by, action_in, effects_in}
use Rattle.hv_world.specs.Bounds.{IsType, IsBoundAtom, IsBoundFormula, AreBoundEffects, TaskTakes, ActionTakes, Takes, IsBoundSubtask, IsBoundConstraint, IsBoundNetwork, IsBoundTask, IsBoundMethod, IsBoundAction, IsBoundGoal, IsBound}
use Rattle.hv_world.proofs.NoFaults.{last_none, none_of_each, no_fault}
use Rattle.hv_world.proofs.BoundLemmas.{IsScope, parameters_scope, terms_bound, term_bound, atom_bound, types_bound, as_many, formula_bound, effects_bound}

got : {A : Type 0} (P : A → Type 0) (xs : List A) (i : ℕ) (x : A) → slice_get xs i ≡ Some x → All P xs → P x
got P xs i x e h = subst P (get_or_from_slice_get xs i x x e) (h i x (slice_get_within xs i x e))

at_get : {A : Type 0} (P : A → Type 0) (xs : List A) (o : Option ℕ) (x : A) → at_place xs o ≡ Some x → All P xs → P x
at_get P xs None x e h = absurd (cc)
at_get P xs (Some i) x e h = got P xs i x e h

both_places : (P : Declaration → Type 0) (ds es : List Declaration) → All P ds → All P es → All P (by_place ds es)
both_places P [] es h g = g
both_places P (d ∷ ds) es h g =
    let rest = both_places P ds (drop (length (those_before d es)) es) (λ i x lt. h (suc i) x (omega arith)) (All-drop P (length (those_before d es)) es g) in
    All-append P (those_before d es) (d ∷ by_place ds (drop (length (those_before d es)) es)) (All-take P (prefix_len (λ e. nat_lt e.start d.start) es) es g)
    (All-cons P d (by_place ds (drop (length (those_before d es)) es)) (h 0 d (omega arith)) rest)

-- a head that is not at fault is declared, with so many terms
same_number : (a n : ℕ) (s : Side) (w : WordAt) → at_word_if (not (nat_eq a n)) kinds.Arity s w ≡ [] → a ≡ n
same_number a n s w e = let t : nat_eq a n ≡ true = no_fault (nat_eq a n) kinds.Arity s w e in grind (arith, nat_tests, t)

called : (s : Side) (w : WordAt) (o : Option Declaration) (n : ℕ) → head_faults kinds.UnknownTask s w (declared_arity o) n ≡ [] → (g : Declaration) × (o ≡ Some g) × (g.arity ≡ n)
called s w None n e = absurd (cc)
called s w (Some g) n e = (g, refl, same_number g.arity n s w e)

-- one that is for a task
record IsTaskOf (o : Option Declaration) (n : ℕ) : Type 0 where
  declared : Declaration
  number : ℕ
  is : o ≡ Some declared
  what : declared.what ≡ compound number
  arity : declared.arity ≡ n

for_task : (s : Side) (w : WordAt) (o : Option Declaration) (n : ℕ) → head_faults kinds.UnknownTask s w (arity_of_task o) n ≡ [] → IsTaskOf o n
for_task s w None n e = absurd (cc)
for_task s w (Some g) n e = go g.what refl e
  where
    go : (x : TaskName) → g.what ≡ x → head_faults kinds.UnknownTask s w (elim x [ compound m ↦ Some g.arity | primitive m ↦ None ]) n ≡ [] → IsTaskOf (Some g) n
    go (compound m) t h = record { declared = g; number = m; is = refl; what = t; arity = same_number g.arity n s w h }
    go (primitive m) t h = absurd (cc)

module _ (d : Domain) (p : Problem) where
  abbrev k : Known
  k = known_in d p

  abbrev w : World
  w = world_of d p

  -- what is declared is there, with its parameters
  abbrev IsTaken : Declaration → Type 0
  IsTaken e = Takes w e.what e.arity

  task_takes : (i : ℕ) (t : text.Task) → slice_get d.tasks i ≡ Some t → TaskTakes w i (length t.parameters)
  task_takes i t e =
      subst (λ o. MatchOption o ⊥ (λ x. length x.parameters ≡ length t.parameters)) (sym (slice_get-map (task_by k) d.tasks i ∙ ap (option_map (task_by k)) e)) (length-map t.parameters (variable_type k))

  action_takes : (i : ℕ) (a : text.Action) → slice_get d.actions i ≡ Some a → ActionTakes w i (length a.parameters)
  action_takes i a e =
      subst (λ o. MatchOption o ⊥ (λ x. length x.parameters ≡ length a.parameters)) (sym (slice_get-map (action_in k) d.actions i ∙ ap (option_map (action_in k)) e)) (length-map a.parameters (variable_type k))

  tasks_taken : (n : ℕ) (ts : List text.Task) → ((i : ℕ) → slice_get ts i ≡ slice_get d.tasks (n + i)) → All IsTaken (task_declarations n ts)
  tasks_taken n [] h = All-nil IsTaken
  tasks_taken n (t ∷ ts) h =
      let here : n + 0 ≡ n = omega arith in
      All-cons IsTaken (declaration (compound n) (length t.parameters) t.name t.place.start) (task_declarations (suc n) ts) (task_takes n t (sym (h 0 ∙ ap (slice_get d.tasks) here)))
      (tasks_taken (suc n) ts (λ i. let next : n + suc i ≡ suc n + i = omega arith in h (suc i) ∙ ap (slice_get d.tasks) next))

  actions_taken : (n : ℕ) (xs : List text.Action) → ((i : ℕ) → slice_get xs i ≡ slice_get d.actions (n + i)) → All IsTaken (action_declarations n xs)
  actions_taken n [] h = All-nil IsTaken
  actions_taken n (a ∷ xs) h =
      let here : n + 0 ≡ n = omega arith in
      All-cons IsTaken (declaration (primitive n) (length a.parameters) a.name a.place.start) (action_declarations (suc n) xs) (action_takes n a (sym (h 0 ∙ ap (slice_get d.actions) here)))
      (actions_taken (suc n) xs (λ i. let next : n + suc i ≡ suc n + i = omega arith in h (suc i) ∙ ap (slice_get d.actions) next))

  all_taken : All IsTaken (declarations d)
  all_taken =
      both_places IsTaken (task_declarations 0 d.tasks) (action_declarations 0 d.actions)
      (tasks_taken 0 d.tasks (λ i. let z : i ≡ 0 + i = omega arith in ap (slice_get d.tasks) z)) (actions_taken 0 d.actions (λ i. let z : i ≡ 0 + i = omega arith in ap (slice_get d.actions) z))

  taken : (word : List ℕ) (g : Declaration) → k.task word ≡ Some g → IsTaken g
  taken word g e = at_get IsTaken (declarations d) (place_in (names (declared_words (declarations d))) word) g e all_taken

  module _ (s : Side) where
    subtask_bound : (scope : Scope) (x : text.Subtask) → IsScope scope → subtask_faults k s scope x ≡ [] → IsBoundSubtask w (size scope) (task_in k scope x.task)
    subtask_bound scope x ok e =
        let call = called s x.task.symbol (k.task x.task.symbol.text) (length x.task.terms) (first_none _ _ e) in
        let arity : call.0.arity ≡ length (terms_in k scope x.task.terms) = call.2 ∙ sym (length-map x.task.terms (term_in k scope)) in (
          subst (λ o. Takes w (task_of o) (length (terms_in k scope x.task.terms))) (sym call.1) (subst (Takes w call.0.what) arity (taken x.task.symbol.text call.0 call.1)),
          terms_bound d p s scope x.task.terms ok (last_none _ _ e),
        )

    abbrev OfTask : TaskName → ℕ → Type 0
    OfTask x n = elim x [ compound t ↦ TaskTakes w t n | primitive a ↦ ⊥ ]

    task_bound : (scope : Scope) (a : text.Atom) → IsScope scope → task_faults k s scope a ≡ [] → IsBoundTask w (size scope) (Some (task_in k scope a))
    task_bound scope a ok e =
        let g = for_task s a.symbol (k.task a.symbol.text) (length a.terms) (first_none _ _ e) in
        let n = length (terms_in k scope a.terms) in
        let arity : g.declared.arity ≡ n = g.arity ∙ sym (length-map a.terms (term_in k scope)) in
        let there : Takes w (compound g.number) n = subst (λ x. Takes w x n) g.what (subst (Takes w g.declared.what) arity (taken a.symbol.text g.declared g.is)) in
        (subst (λ o. OfTask (task_of o) n) (sym g.is) (subst (λ x. OfTask x n) (sym g.what) there), terms_bound d p s scope a.terms ok (last_none _ _ e))

    network_bound : (scope : Scope) (place : Span) (n : text.Network) → IsScope scope → network_faults k s scope place n ≡ [] → IsBoundNetwork w (size scope) (network_in k scope n)
    network_bound scope place n ok e =
        let parts = first_none _ _ e in
        record {
          subtasks =
              All-map (IsBoundSubtask w (size scope)) (λ x. task_in k scope x.task) n.subtasks
              (All-weaker (λ x. subtask_faults k s scope x ≡ []) (λ x. IsBoundSubtask w (size scope) (task_in k scope x.task)) (λ x h. subtask_bound scope x ok h) n.subtasks
              (none_of_each (subtask_faults k s scope) n.subtasks (first_none _ _ parts)));
          constraints =
              All-map (IsBoundConstraint w (size scope)) (constraint_in k scope) n.constraints
              (All-weaker (λ c. (term_faults k s scope c.left ++ term_faults k s scope c.right) ≡ []) (λ c. IsBoundConstraint w (size scope) (constraint_in k scope c))
              (λ c h. (term_bound d p s scope c.left ok (first_none _ _ h), term_bound d p s scope c.right ok (last_none _ _ h))) n.constraints
              (none_of_each (λ c. term_faults k s scope c.left ++ term_faults k s scope c.right) n.constraints (last_none _ _ parts)));
        }

    section_types : (vs : List Variable) → variable_faults k s vs ≡ [] → All (IsType w) (types_of k vs)
    section_types vs e = types_bound d p s vs (first_none _ _ e)

    pub method_bound : (m : text.Method) → method_faults k s m ≡ [] → IsBoundMethod w (method_in k m)
    method_bound m e =
        let scope = parameters (variables m.parameters) in
        let ok = parameters_scope (variables m.parameters) in
        let same = as_many d p s m.parameters in
        let three = first_none _ _ e in
        let two = first_none _ _ three in
        record {
          parameters = section_types m.parameters (first_none _ _ two);
          task = subst (λ n. IsBoundTask w n (Some (task_in k scope m.task))) same (task_bound scope m.task ok (last_none _ _ two));
          precondition = subst (λ n. IsBoundFormula w n (formula_in k scope m.precondition)) same (formula_bound d p s scope m.precondition ok (last_none _ _ three));
          network = subst (λ n. IsBoundNetwork w n (network_in k scope m.network)) same (network_bound scope m.place m.network ok (last_none _ _ e));
        }

    pub top_bound : (h : text.Htn) → htn_faults k s h ≡ [] → IsBoundMethod w (top_in k h)
    top_bound h e =
        let scope = parameters (variables h.parameters) in
        record {
          parameters = section_types h.parameters (first_none _ _ e);
          task = tt;
          precondition = tt;
          network =
              subst (λ n. IsBoundNetwork w n (network_in k scope h.network)) (as_many d p s h.parameters) (network_bound scope h.place h.network (parameters_scope (variables h.parameters)) (last_none _ _ e));
        }

    literals_bound : (scope : Scope) (q : text.Literal → Bool) (ls : List text.Literal) → IsScope scope → literals_faults k s scope ls ≡ []
        → All (IsBoundAtom w (size scope)) (map (λ l. atom_in k scope l.atom) (filter q ls))
    literals_bound scope q ls ok e =
        let each = none_of_each (λ l. atom_faults k s scope l.atom) ls e in
        All-map (IsBoundAtom w (size scope)) (λ l. atom_in k scope l.atom) (filter q ls)
        (All-weaker (λ l. atom_faults k s scope l.atom ≡ []) (λ l. IsBoundAtom w (size scope) (atom_in k scope l.atom)) (λ l h. atom_bound d p s scope l.atom ok h) (filter q ls)
        (All-filter q (λ l. atom_faults k s scope l.atom ≡ []) ls each))

    pub action_bound : (a : text.Action) → action_faults k s a ≡ [] → IsBoundAction w (action_in k a)
    action_bound a e =
        let scope = parameters (variables a.parameters) in
        let ok = parameters_scope (variables a.parameters) in
        let same = as_many d p s a.parameters in
        let two = first_none _ _ e in
        record {
          parameters = section_types a.parameters (first_none _ _ two);
          precondition = subst (λ n. IsBoundFormula w n (formula_in k scope a.precondition)) same (formula_bound d p s scope a.precondition ok (last_none _ _ two));
          effect = subst (λ n. AreBoundEffects w n (effects_in k scope a.effect)) same (effects_bound d p s scope a.effect ok (last_none _ _ e));
        }

    goal_bound : (o : Option text.Formula) → goal_faults k s o ≡ [] → IsBoundGoal w (option_map (formula_in k (parameters [])) o)
    goal_bound None e = tt
    goal_bound (Some f) e = formula_bound d p s (parameters []) f (parameters_scope []) e

  pub world_bound : IsStatic d p → IsBound w
  world_bound static =
      let four = first_none _ _ static.of_domain in
      let three = first_none _ _ four in
      let rest = first_none _ _ static.of_problem in
      record {
        tasks =
            All-map (λ t. All (IsType w) t.parameters) (task_by k) d.tasks
            (All-weaker (λ t. variable_faults k sides.Domain t.parameters ≡ []) (λ t. All (IsType w) (types_of k t.parameters)) (λ t h. section_types sides.Domain t.parameters h) d.tasks
            (none_of_each (λ t. variable_faults k sides.Domain t.parameters) d.tasks (last_none _ _ three)));
        methods =
            All-map (IsBoundMethod w) (method_in k) d.methods
            (All-weaker (λ m. method_faults k sides.Domain m ≡ []) (λ m. IsBoundMethod w (method_in k m)) (λ m h. method_bound sides.Domain m h) d.methods
            (none_of_each (method_faults k sides.Domain) d.methods (last_none _ _ four)));
        actions =
            All-map (IsBoundAction w) (action_in k) d.actions
            (All-weaker (λ a. action_faults k sides.Domain a ≡ []) (λ a. IsBoundAction w (action_in k a)) (λ a h. action_bound sides.Domain a h) d.actions
            (none_of_each (action_faults k sides.Domain) d.actions (last_none _ _ static.of_domain)));
        init = literals_bound sides.Problem (parameters []) (λ l. l.is_positive) p.init (parameters_scope []) (last_none _ _ rest);
        goal = goal_bound sides.Problem p.goal (last_none _ _ static.of_problem);
        top = top_bound sides.Problem p.htn (last_none _ _ (first_none _ _ rest));
      }
