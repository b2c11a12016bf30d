-- The world of a domain and a problem: what they say, with a number for each name.
use Rattle.std.specs.Prelude.{ℕ, suc, ◌+◌, List, [], ◌∷◌, ◌++◌, map, filter, length, Option, Some, None, option_map}
use Rattle.hv_syntax.specs.Values as text
use Rattle.hv_syntax.specs.Values.{WordAt, Typed, type_name, Variable, Domain, Problem}
use Rattle.hv_world.specs.Values.{Term, object, variable, Atom, atom, Formula, Formulas, holds, and, or, not as negation, imply, forall, exists, equal, no_formulas, more_formulas, Effect, Effects, becomes, for_each, no_effects, more_effects, TaskName, compound, primitive, Subtask, subtask, Constraint, constraint}
use Rattle.hv_world.specs.Names.{names, place_in, number_or, number_in}
use Rattle.hv_world.specs.Eithers.{either_place}
use Rattle.hv_world.specs.Scopes.{Scope, parameters, inside, size, variable_in}
use Rattle.hv_world.specs.Known.{Signature, Declaration, Known, known_in, variables}
use Rattle.hv_world.specs.Orders.{Written}
use Rattle.hv_world.specs.Networks.{written_by}
use Rattle.hv_world.specs.Types.{Typing}

-- a network: its subtasks, the order that is written of them, and its constraints
pub record Network : Type 0 where
  pub subtasks : List Subtask
  pub order : Written
  pub constraints : List Constraint

abbrev pub network : List Subtask → Written → List Constraint → Network
network xs o cs = record { subtasks = xs; order = o; constraints = cs }

-- a method: the types of its parameters, the task that it is for, when it may be used, and its
-- network; the initial network is a method without a name and without a task
pub record Method : Type 0 where
  pub name : Option (List ℕ)
  pub parameters : List ℕ
  pub task : Option Subtask
  pub precondition : Formula
  pub network : Network

abbrev pub method : Option (List ℕ) → List ℕ → Option Subtask → Formula → Network → Method
method n ts x f w = record { name = n; parameters = ts; task = x; precondition = f; network = w }

-- the name of a method; the empty one, which no word has, where there is none
abbrev pub word_of : Option (List ℕ) → List ℕ
word_of None = []
word_of (Some n) = n

-- the terms of a task; none where there is no task
abbrev pub terms_of : Option Subtask → List Term
terms_of None = []
terms_of (Some x) = x.terms

-- a task that methods decompose: its name and the types of its parameters
pub record Task : Type 0 where
  pub name : List ℕ
  pub parameters : List ℕ

abbrev pub task : List ℕ → List ℕ → Task
task n ts = record { name = n; parameters = ts }

-- an action: the types of its parameters, when it may be done, and its effects
pub record Action : Type 0 where
  pub name : List ℕ
  pub parameters : List ℕ
  pub precondition : Formula
  pub effect : Effects

abbrev pub action : List ℕ → List ℕ → Formula → Effects → Action
action n ts f es = record { name = n; parameters = ts; precondition = f; effect = es }

pub record World : Type 0 where
  pub types : List (List ℕ)
  pub objects : List (List ℕ)
  pub typing : Typing
  pub predicates : List (List ℕ)
  pub tasks : List Task
  pub methods : List Method
  pub actions : List Action
  pub init : List Atom
  pub goal : Option Formula
  pub top : Method

-- the names of tasks, actions and methods
abbrev pub task_names : List Task → List (List ℕ)
task_names ts = map (λ t. t.name) ts

abbrev pub action_names : List Action → List (List ℕ)
action_names as' = map (λ a. a.name) as'

abbrev pub method_names : List Method → List (List ℕ)
method_names ms = map (λ m. word_of m.name) ms

-- their names in a domain
abbrev pub said_task_names : List text.Task → List (List ℕ)
said_task_names ts = map (λ t. t.name.text) ts

abbrev pub said_action_names : List text.Action → List (List ℕ)
said_action_names as' = map (λ a. a.name.text) as'

abbrev pub said_method_names : List text.Method → List (List ℕ)
said_method_names ms = map (λ m. m.name.text) ms

-- what a name of a task or an action names: they share one space
abbrev pub task_named : World → List ℕ → Option TaskName
task_named w n =
    elim (place_in (task_names w.tasks) n) [
      | None ↦ option_map primitive (place_in (action_names w.actions) n)
      | Some i ↦ Some
          (compound i)
    ]

-- the number of the method of a name
abbrev pub method_named : World → List ℕ → Option ℕ
method_named w n = place_in (method_names w.methods) n

-- the number of a declared predicate, and what a declared task or action is
abbrev pub number_of : Option Signature → ℕ
number_of None = 0
number_of (Some g) = g.number

abbrev pub task_of : Option Declaration → TaskName
task_of None = compound 0
task_of (Some d) = d.what

module _ (k : Known) where
  abbrev pub type_of : Typed → ℕ
  type_of v = number_in k.types (type_name v.of)

  -- the number of the type of this place among the either types, which stand behind those declared;
  -- without a place it is `object`
  abbrev pub either_number : Option ℕ → ℕ
  either_number None = 0
  either_number (Some i) = length k.types + i

  -- the number of the type of a variable: of `object` where none is written, of the one that is
  -- written, or of that which several names make
  abbrev pub number_of_type : List WordAt → ℕ
  number_of_type [] = 0
  number_of_type (w ∷ []) = number_in k.types w.text
  number_of_type (v ∷ w ∷ ws) = either_number (either_place k.eithers (names (v ∷ w ∷ ws)))

  abbrev pub variable_type : Variable → ℕ
  variable_type v = number_of_type v.of

  abbrev pub types_of : List Variable → List ℕ
  types_of vs = map variable_type vs

  abbrev pub term_in : Scope → text.Term → Term
  term_in scope (text.constant w) = object (number_in k.objects w.text)
  term_in scope (text.variable w) = variable (number_or (size scope) (variable_in scope w.text))

  abbrev pub terms_in : Scope → List text.Term → List Term
  terms_in scope xs = map (term_in scope) xs

  abbrev pub atom_in : Scope → text.Atom → Atom
  atom_in scope a = atom (number_of (k.predicate a.symbol.text)) (terms_in scope a.terms)

  abbrev mutual
    pub formula_in : Scope → text.Formula → Formula
    formula_in scope (text.holds a) = holds (atom_in scope a)
    formula_in scope (text.and fs) = and (formulas_in scope fs)
    formula_in scope (text.or fs) = or (formulas_in scope fs)
    formula_in scope (text.not f) = negation (formula_in scope f)
    formula_in scope (text.imply f g) = imply (formula_in scope f) (formula_in scope g)
    formula_in scope (text.forall vs f) =
        forall (types_of vs) (formula_in (inside scope (variables vs)) f)
    formula_in scope (text.exists vs f) =
        exists (types_of vs) (formula_in (inside scope (variables vs)) f)
    formula_in scope (text.equal x y) = equal (term_in scope x) (term_in scope y)

    pub formulas_in : Scope → text.Formulas → Formulas
    formulas_in scope text.no_formulas = no_formulas
    formulas_in scope (text.more_formulas f fs) =
        more_formulas (formula_in scope f) (formulas_in scope fs)

  -- the atoms of those literals that are positive
  abbrev pub added : Scope → List text.Literal → List Atom
  added scope ls = map (λ l. atom_in scope l.atom) (filter (λ l. l.is_positive) ls)

  abbrev mutual
    pub effects_in : Scope → text.Effect → Effects
    effects_in scope text.no_items = no_effects
    effects_in scope (text.more_items i e) = more_effects (effect_in scope i) (effects_in scope e)

    pub effect_in : Scope → text.Item → Effect
    effect_in scope (text.becomes l) = becomes l.is_positive (atom_in scope l.atom)
    effect_in scope (text.for_each vs e) =
        for_each (types_of vs) (effects_in (inside scope (variables vs)) e)

  abbrev pub task_in : Scope → text.Atom → Subtask
  task_in scope a = subtask (task_of (k.task a.symbol.text)) (terms_in scope a.terms)

  abbrev pub subtasks_in : Scope → List text.Subtask → List Subtask
  subtasks_in scope xs = map (λ x. task_in scope x.task) xs

  abbrev pub constraint_in : Scope → text.Constraint → Constraint
  constraint_in scope c = constraint c.is_equal (term_in scope c.left) (term_in scope c.right)

  abbrev pub constraints_in : Scope → List text.Constraint → List Constraint
  constraints_in scope cs = map (constraint_in scope) cs

  abbrev pub network_in : Scope → text.Network → Network
  network_in scope n =
      record {
        subtasks = subtasks_in scope n.subtasks;
        order = written_by n;
        constraints = constraints_in scope n.constraints;
      }

  abbrev pub method_in : text.Method → Method
  method_in m =
      let scope = parameters (variables m.parameters) in
      record {
        name = Some m.name.text;
        parameters = types_of m.parameters;
        task = Some (task_in scope m.task);
        precondition = formula_in scope m.precondition;
        network = network_in scope m.network;
      }

  -- the initial network as a method: its precondition is always true
  abbrev pub top_in : text.Htn → Method
  top_in h =
      record {
        name = None;
        parameters = types_of h.parameters;
        task = None;
        precondition = and no_formulas;
        network = network_in (parameters (variables h.parameters)) h.network;
      }

  abbrev pub task_by : text.Task → Task
  task_by t = record { name = t.name.text; parameters = types_of t.parameters }

  abbrev pub action_in : text.Action → Action
  action_in a =
      let scope = parameters (variables a.parameters) in
      record {
        name = a.name.text;
        parameters = types_of a.parameters;
        precondition = formula_in scope a.precondition;
        effect = effects_in scope a.effect;
      }

  -- a type and its parent, an object and its type, by number
  abbrev pub type_pair : Typed → ℕ × ℕ
  type_pair v = (number_in k.types v.name.text, type_of v)

  abbrev pub object_pair : Typed → ℕ × ℕ
  object_pair v = (number_in k.objects v.name.text, type_of v)

  -- each type that these names name, and the type of this number, which is above it
  abbrev pub either_pairs : ℕ → List (List ℕ) → List (ℕ × ℕ)
  either_pairs t ns = map (λ n. (number_in k.types n, t)) ns

  -- so for either types, of which the first has number t
  abbrev pub eithers_pairs : ℕ → List (List (List ℕ)) → List (ℕ × ℕ)
  eithers_pairs t [] = []
  eithers_pairs t (ns ∷ others) = either_pairs t ns ++ eithers_pairs (suc t) others

  -- the types are those declared, and behind them the either types, each of them a parent of those
  -- that it names
  abbrev pub typing_by : Domain → Problem → Typing
  typing_by d p =
      record {
        types = length k.types + length k.eithers;
        objects = length k.objects;
        parents = map type_pair d.types ++ eithers_pairs (length k.types) k.eithers;
        declared = map object_pair (d.constants ++ p.objects);
      }

  abbrev pub world_by : Domain → Problem → World
  world_by d p =
      record {
        types = k.types;
        objects = k.objects;
        typing = typing_by d p;
        predicates = map (λ q. q.name.text) d.predicates;
        tasks = map task_by d.tasks;
        methods = map method_in d.methods;
        actions = map action_in d.actions;
        init = added (parameters []) p.init;
        goal = option_map (formula_in (parameters [])) p.goal;
        top = top_in p.htn;
      }

-- the world that a domain and a problem spell
abbrev pub world_of : Domain → Problem → World
world_of d p = world_by (known_in d p) d p
