-- The static faults of a domain and a problem: where each rule is broken, in whatever order.
use Rattle.std.specs.Prelude.{◌≡◌, ℕ, Bool, not, List, [], ◌∷◌, ◌++◌, map, length, Option, Some, None, ◌⊎◌, if◌then◌else◌, nat_eq}
use Rattle.std.specs.List.{flat_map}
use Rattle.std.specs.Option.{option_or}
use Rattle.hv_text.specs.declared.span.Span.{Span}
use Rattle.hv_world.specs.declared.fault.StaticKind.{StaticKind}
use Rattle.hv_world.specs.declared.fault.StaticKind.TheVariants as kinds
use Rattle.hv_world.specs.declared.fault.Side.{Side}
use Rattle.hv_world.specs.declared.fault.Side.TheVariants as sides
use Rattle.hv_world.specs.declared.fault.StaticFault.{StaticFault}
use Rattle.hv_syntax.specs.Values.{WordAt, Term, constant, variable, Atom, TypeOf, no_type, of_type, Typed, Variable, Formula, Formulas, holds, and, or, imply, forall, exists, equal, no_formulas, more_formulas, Literal, Effect, no_items, more_items, Item, becomes, for_each, Subtask, Pair, Constraint, Network, Method, Action, Domain, Htn, Problem}
use Rattle.hv_syntax.specs.Values.{not as negation}
use Rattle.hv_world.specs.Values.{compound, primitive}
use Rattle.hv_world.specs.Faults.{fault_on, fault_at, faults_at, IsFirst, least}
use Rattle.hv_world.specs.Names.{is_among, repeated}
use Rattle.hv_world.specs.Scopes.{Scope, parameters, inside, is_bound}
use Rattle.hv_world.specs.Known.{Signature, Declaration, Known, known_in, variables, typed_words, predicate_words, declared_words, declarations}
use Rattle.hv_world.specs.Networks.{labels, label_names, written_by}
use Rattle.hv_world.specs.Cycles.{is_cyclic}

-- a fault at a word, where the test says so
abbrev pub at_word_if : Bool → StaticKind → Side → WordAt → List StaticFault
at_word_if b k s w = if b then fault_at k s w ∷ [] else []

-- a known name has this number of terms, or it is at fault; an unknown one is at fault
-- in its own way
abbrev pub head_faults : StaticKind → Side → WordAt → Option ℕ → ℕ → List StaticFault
head_faults k s w None n = fault_at k s w ∷ []
head_faults k s w (Some arity) n = at_word_if (not (nat_eq arity n)) kinds.Arity s w

abbrev pub signature_arity : Option Signature → Option ℕ
signature_arity None = None
signature_arity (Some g) = Some g.arity

abbrev pub declared_arity : Option Declaration → Option ℕ
declared_arity None = None
declared_arity (Some d) = Some d.arity

-- how many terms a task takes, but not an action
abbrev pub arity_of_task : Option Declaration → Option ℕ
arity_of_task None = None
arity_of_task (Some d) = elim d.what [ compound n ↦ Some d.arity | primitive n ↦ None ]

module _ (k : Known) (s : Side) where
  -- a type is declared
  abbrev pub type_word_faults : WordAt → List StaticFault
  type_word_faults w = at_word_if (not (is_among k.types w.text)) kinds.UnknownType s w

  -- the type of a name is declared
  abbrev pub type_faults : TypeOf → List StaticFault
  type_faults no_type = []
  type_faults (of_type w) = type_word_faults w

  abbrev pub typed_faults : List Typed → List StaticFault
  typed_faults vs = flat_map (λ v. type_faults v.of) vs

  -- each name of a variable's type is declared
  abbrev pub types_faults : List WordAt → List StaticFault
  types_faults ws = flat_map type_word_faults ws

  abbrev pub variable_types_faults : List Variable → List StaticFault
  variable_types_faults vs = flat_map (λ v. types_faults v.of) vs

  -- the types are declared, and no variable stands twice
  abbrev pub variable_faults : List Variable → List StaticFault
  variable_faults vs =
      variable_types_faults vs ++ faults_at kinds.DuplicateVariable s (repeated (typed_words vs))

  -- a constant is declared, a variable is bound
  abbrev pub term_faults : Scope → Term → List StaticFault
  term_faults scope (constant w) =
      at_word_if (not (is_among k.objects w.text)) kinds.UnknownObject s w
  term_faults scope (variable w) =
      at_word_if (not (is_bound scope w.text)) kinds.UnboundVariable s w

  abbrev pub terms_faults : Scope → List Term → List StaticFault
  terms_faults scope xs = flat_map (term_faults scope) xs

  abbrev pub atom_faults : Scope → Atom → List StaticFault
  atom_faults scope a =
      head_faults kinds.UnknownPredicate s a.symbol (signature_arity (k.predicate a.symbol.text))
      (length a.terms) ++ terms_faults scope a.terms

  abbrev mutual
    pub formula_faults : Scope → Formula → List StaticFault
    formula_faults scope (holds a) = atom_faults scope a
    formula_faults scope (and fs) = all_formula_faults scope fs
    formula_faults scope (or fs) = all_formula_faults scope fs
    formula_faults scope (negation f) = formula_faults scope f
    formula_faults scope (imply f g) = formula_faults scope f ++ formula_faults scope g
    formula_faults scope (forall vs f) =
        variable_faults vs ++ formula_faults (inside scope (variables vs)) f
    formula_faults scope (exists vs f) =
        variable_faults vs ++ formula_faults (inside scope (variables vs)) f
    formula_faults scope (equal x y) = term_faults scope x ++ term_faults scope y

    pub all_formula_faults : Scope → Formulas → List StaticFault
    all_formula_faults scope no_formulas = []
    all_formula_faults scope (more_formulas f fs) =
        formula_faults scope f ++ all_formula_faults scope fs

  abbrev pub literals_faults : Scope → List Literal → List StaticFault
  literals_faults scope ls = flat_map (λ l. atom_faults scope l.atom) ls

  abbrev mutual
    pub effect_faults : Scope → Effect → List StaticFault
    effect_faults scope no_items = []
    effect_faults scope (more_items i e) = item_faults scope i ++ effect_faults scope e

    pub item_faults : Scope → Item → List StaticFault
    item_faults scope (becomes l) = atom_faults scope l.atom
    item_faults scope (for_each vs e) =
        variable_faults vs ++ effect_faults (inside scope (variables vs)) e

  -- the task of a method is declared as a task
  abbrev pub task_faults : Scope → Atom → List StaticFault
  task_faults scope a =
      head_faults kinds.UnknownTask s a.symbol (arity_of_task (k.task a.symbol.text))
      (length a.terms) ++ terms_faults scope a.terms

  -- a subtask is a task or an action
  abbrev pub subtask_faults : Scope → Subtask → List StaticFault
  subtask_faults scope x =
      head_faults kinds.UnknownTask s x.task.symbol (declared_arity (k.task x.task.symbol.text))
      (length x.task.terms) ++ terms_faults scope x.task.terms

  abbrev pub subtasks_faults : Scope → List Subtask → List StaticFault
  subtasks_faults scope xs = flat_map (subtask_faults scope) xs

  abbrev pub constraints_faults : Scope → List Constraint → List StaticFault
  constraints_faults scope cs =
      flat_map (λ c. term_faults scope c.left ++ term_faults scope c.right) cs

  -- labels stand once, and pairs name labels
  abbrev pub pair_faults : List (List ℕ) → Pair → List StaticFault
  pair_faults ls p =
      at_word_if (not (is_among ls p.earlier.text)) kinds.UnknownLabel s p.earlier
      ++ at_word_if (not (is_among ls p.later.text)) kinds.UnknownLabel s p.later

  abbrev pub label_faults : Network → List StaticFault
  label_faults n =
      faults_at kinds.DuplicateLabel s (repeated (labels n.subtasks))
      ++ flat_map (pair_faults (label_names n.subtasks)) n.pairs

  -- the order of a network whose labels are sound has no cycle
  abbrev pub order_faults : Span → Network → List StaticFault
  order_faults place n =
      elim (label_faults n) [
        | f ∷ fs ↦ f
            ∷ fs
        | [] ↦ if is_cyclic (written_by n) then fault_on kinds.CyclicOrdering s place
            ∷ [] else []
      ]

  abbrev pub network_faults : Scope → Span → Network → List StaticFault
  network_faults scope place n =
      (subtasks_faults scope n.subtasks ++ constraints_faults scope n.constraints)
      ++ order_faults place n

  abbrev pub method_faults : Method → List StaticFault
  method_faults m =
      let scope = parameters (variables m.parameters) in
      variable_faults m.parameters ++ task_faults scope m.task
      ++ formula_faults scope m.precondition ++ network_faults scope m.place m.network

  abbrev pub action_faults : Action → List StaticFault
  action_faults a =
      let scope = parameters (variables a.parameters) in
      variable_faults a.parameters ++ formula_faults scope a.precondition
      ++ effect_faults scope a.effect

  abbrev pub htn_faults : Htn → List StaticFault
  htn_faults h =
      variable_faults h.parameters
      ++ network_faults (parameters (variables h.parameters)) h.place h.network

  abbrev pub goal_faults : Option Formula → List StaticFault
  goal_faults None = []
  goal_faults (Some f) = formula_faults (parameters []) f

abbrev pub method_words : List Method → List WordAt
method_words ms = map (λ m. m.name) ms

-- names that are declared twice: predicates, methods, and tasks and actions, which share one space
abbrev pub duplicate_faults : Domain → List StaticFault
duplicate_faults d =
    faults_at kinds.DuplicateName sides.Domain (repeated (predicate_words d.predicates))
    ++ faults_at kinds.DuplicateName sides.Domain (repeated (method_words d.methods))
    ++ faults_at kinds.DuplicateName sides.Domain (repeated (declared_words (declarations d)))

abbrev pub domain_faults_by : Known → Domain → List StaticFault
domain_faults_by k d =
    duplicate_faults d
    ++ typed_faults k sides.Domain d.constants
    ++ flat_map (λ t. variable_faults k sides.Domain t.parameters) d.tasks
    ++ flat_map (method_faults k sides.Domain) d.methods
    ++ flat_map (action_faults k sides.Domain) d.actions

abbrev pub problem_faults_by : Known → Problem → List StaticFault
problem_faults_by k p =
    typed_faults k sides.Problem p.objects
    ++ htn_faults k sides.Problem p.htn
    ++ literals_faults k sides.Problem (parameters []) p.init
    ++ goal_faults k sides.Problem p.goal

-- the static faults of a domain and of its problem, whatever their order
abbrev pub domain_faults : Domain → Problem → List StaticFault
domain_faults d p = domain_faults_by (known_in d p) d

abbrev pub problem_faults : Domain → Problem → List StaticFault
problem_faults d p = problem_faults_by (known_in d p) p

-- no static fault
pub record IsStatic (d : Domain) (p : Problem) : Type 0 where
  pub of_domain : domain_faults d p ≡ []
  pub of_problem : problem_faults d p ≡ []

-- the fault that is reported: the one of the domain's that stands first; where it has none, that of
-- the problem's
abbrev pub first_fault : Domain → Problem → Option StaticFault
first_fault d p = option_or (least (domain_faults d p)) (least (problem_faults d p))

-- one of the domain's, and none stands before it; where it has none, so of the problem's
abbrev pub IsFirstFault : Domain → Problem → StaticFault → Type 0
IsFirstFault d p f = IsFirst (domain_faults d p) f
    ⊎ ((domain_faults d p ≡ []) × IsFirst (problem_faults d p) f)
