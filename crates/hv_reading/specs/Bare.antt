-- Values with their places aside: every place is 0 to 0, and a type stands by its names.
use Rattle.std.specs.Prelude.{List, [], ◌∷◌, map, option_map, codes}
use Rattle.hv_text.specs.Words.{nowhere}
use Rattle.hv_syntax.specs.Values.{WordAt, word_at, Term, constant, variable, Atom, atom_with, TypeOf, of_type, type_name, TypedBy, Typed, typed, Variable, Formula, Formulas, holds, and, or, not, imply, forall, exists, equal, no_formulas, more_formulas, Literal, literal, Effect, no_items, more_items, Item, becomes, for_each, Subtask, subtask, Pair, pair, Constraint, constraint, Network, network, Predicate, predicate, Task, task, Method, method, Action, action, Domain, Htn, htn, Problem}

abbrev pub bare_word : WordAt → WordAt
bare_word w = word_at w.text nowhere

abbrev pub bare_term : Term → Term
bare_term (constant w) = constant (bare_word w)
bare_term (variable w) = variable (bare_word w)

abbrev pub bare_atom : Atom → Atom
bare_atom a = atom_with (bare_word a.symbol) (map bare_term a.terms)

-- a name or a variable, where its type is made bare so
abbrev pub bare_by : {T : Type 0} → (T → T) → TypedBy T → TypedBy T
bare_by bare v = typed (bare v.of) (bare_word v.name)

-- the name of a type; `object` where none is written
abbrev pub bare_type_name : TypeOf → TypeOf
bare_type_name t = of_type (word_at (type_name t) nowhere)

abbrev pub bare_typed : Typed → Typed
bare_typed v = bare_by bare_type_name v

-- the names of a type; `object` where none is written
abbrev pub bare_type : List WordAt → List WordAt
bare_type [] = word_at (codes "object") nowhere ∷ []
bare_type (n ∷ ns) = map bare_word (n ∷ ns)

abbrev pub bare_variable : Variable → Variable
bare_variable v = bare_by bare_type v

abbrev mutual
  pub bare_formula : Formula → Formula
  bare_formula (holds a) = holds (bare_atom a)
  bare_formula (and fs) = and (bare_formulas fs)
  bare_formula (or fs) = or (bare_formulas fs)
  bare_formula (not f) = not (bare_formula f)
  bare_formula (imply f g) = imply (bare_formula f) (bare_formula g)
  bare_formula (forall vs f) = forall (map bare_variable vs) (bare_formula f)
  bare_formula (exists vs f) = exists (map bare_variable vs) (bare_formula f)
  bare_formula (equal x y) = equal (bare_term x) (bare_term y)

  pub bare_formulas : Formulas → Formulas
  bare_formulas no_formulas = no_formulas
  bare_formulas (more_formulas f fs) = more_formulas (bare_formula f) (bare_formulas fs)

abbrev pub bare_literal : Literal → Literal
bare_literal l = literal l.is_positive (bare_atom l.atom)

abbrev mutual
  pub bare_effect : Effect → Effect
  bare_effect no_items = no_items
  bare_effect (more_items i e) = more_items (bare_item i) (bare_effect e)

  pub bare_item : Item → Item
  bare_item (becomes l) = becomes (bare_literal l)
  bare_item (for_each vs e) = for_each (map bare_variable vs) (bare_effect e)

abbrev pub bare_subtask : Subtask → Subtask
bare_subtask s = subtask (option_map bare_word s.label) (bare_atom s.task)

abbrev pub bare_pair : Pair → Pair
bare_pair p = pair (bare_word p.earlier) (bare_word p.later)

abbrev pub bare_constraint : Constraint → Constraint
bare_constraint c = constraint c.is_equal (bare_term c.left, bare_term c.right)

abbrev pub bare_network : Network → Network
bare_network n =
    network (map bare_subtask n.subtasks) n.is_ordered (map bare_pair n.pairs)
    (map bare_constraint n.constraints)

abbrev pub bare_predicate : Predicate → Predicate
bare_predicate p = predicate (bare_word p.name) (map bare_variable p.parameters)

abbrev pub bare_task : Task → Task
bare_task t = task nowhere (bare_word t.name) (map bare_variable t.parameters)

abbrev pub bare_method : Method → Method
bare_method m =
    method nowhere (bare_word m.name)
    ((map bare_variable m.parameters, bare_atom m.task), bare_network m.network)
    (bare_formula m.precondition)

abbrev pub bare_action : Action → Action
bare_action a =
    action nowhere (bare_word a.name) (map bare_variable a.parameters, bare_effect a.effect)
    (bare_formula a.precondition)

abbrev pub bare_domain : Domain → Domain
bare_domain d =
    record {
      name = bare_word d.name;
      requirements = map bare_word d.requirements;
      types = map bare_typed d.types;
      constants = map bare_typed d.constants;
      predicates = map bare_predicate d.predicates;
      tasks = map bare_task d.tasks;
      methods = map bare_method d.methods;
      actions = map bare_action d.actions;
    }

abbrev pub bare_htn : Htn → Htn
bare_htn h = htn nowhere (map bare_variable h.parameters) (bare_network h.network)

abbrev pub bare_problem : Problem → Problem
bare_problem p =
    record {
      name = bare_word p.name;
      domain = bare_word p.domain;
      requirements = map bare_word p.requirements;
      objects = map bare_typed p.objects;
      htn = bare_htn p.htn;
      init = map bare_literal p.init;
      goal = option_map bare_formula p.goal;
    }
