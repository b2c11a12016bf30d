-- Each static fault of a domain and a problem is of a kind that is reported: none of them is want
-- of memory.
use Rattle.std.proofs.Common.{◌≡◌, ◌++◌, ℕ, Bool, true, false, not, List, [], ◌∷◌, length, Option, Some, None, MatchOption, refl, subst, nat_eq, nat_le, if◌then◌else◌}
use Rattle.std.specs.List.{flat_map}
use Rattle.std.specs.Option.{option_or}
use Rattle.hv_text.specs.declared.span.Span.{Span}
use Rattle.hv_syntax.specs.Values.{WordAt, Task, Term, constant, variable, Atom, TypeOf, no_type, of_type, Typed, Variable, Formula, Formulas, holds, and, or, imply, forall, exists, equal, no_formulas, more_formulas, Literal, Effect, no_items, more_items, Item, becomes, for_each, Subtask, Pair, Constraint, Network, Method, Action, Domain, Htn, Problem}
use Rattle.hv_syntax.specs.Values.{not as negation}
use Rattle.hv_world.specs.declared.fault.StaticKind.{StaticKind}
use Rattle.hv_world.specs.declared.fault.StaticKind.TheVariants as kinds
use Rattle.hv_world.specs.declared.fault.Side.{Side}
use Rattle.hv_world.specs.declared.fault.Side.TheVariants as sides
use Rattle.hv_world.specs.declared.fault.StaticFault.{StaticFault}
use Rattle.hv_world.specs.Cycles.{is_cyclic}
use Rattle.hv_world.specs.Faults.{fault_on, fault_at, faults_at, least, earlier}
use Rattle.hv_world.specs.Known.{Known, known_in, variables, typed_words, predicate_words, declared_words, declarations}
use Rattle.hv_world.specs.Names.{is_among, repeated}
use Rattle.hv_world.specs.Networks.{labels, label_names, written_by}
use Rattle.hv_world.specs.Scopes.{Scope, parameters, inside, is_bound}
use Rattle.hv_world.specs.StaticRules.{at_word_if, head_faults, signature_arity, declared_arity, arity_of_task, type_word_faults, type_faults, typed_faults, types_faults, variable_types_faults, variable_faults, term_faults, terms_faults, atom_faults, formula_faults, all_formula_faults, literals_faults, effect_faults, item_faults, task_faults, subtask_faults, subtasks_faults, constraints_faults, pair_faults, label_faults, order_faults, network_faults, method_faults, action_faults, htn_faults, goal_faults, method_words, duplicate_faults, domain_faults_by, problem_faults_by, domain_faults, problem_faults, first_fault}
use Rattle.hv_answer.specs.declared.answer.FaultKind.{FaultKind}
use Rattle.hv_answer.specs.declared.answer.FaultKind.TheVariants as faults
use Rattle.hv_judge.specs.Rejections.{reported_static}

-- a kind that is reported under some number and name
pub record IsReported (kind : StaticKind) : Type 0 where
  pub as_kind : FaultKind
  pub is : reported_static kind ≡ Some as_kind

-- so are the kinds of all these faults
data Reported : List StaticFault → Type 0 where
  none : Reported []
  more : (f : StaticFault) (fs : List StaticFault) → IsReported f.kind → Reported fs
      → Reported (f ∷ fs)

append : (fs gs : List StaticFault) → Reported fs → Reported gs → Reported (fs ++ gs)
append _ gs none h = h
append _ gs (more f fs is rest) h = more f (fs ++ gs) is (append fs gs rest h)

flat : {X : Type 0} (g : X → List StaticFault) → ((x : X) → Reported (g x)) → (xs : List X)
    → Reported (flat_map g xs)
flat g each [] = none
flat g each (x ∷ xs) = append (g x) (flat_map g xs) (each x) (flat g each xs)

words : (kind : StaticKind) (s : Side) (ws : List WordAt) → IsReported kind
    → Reported (faults_at kind s ws)
words kind s [] is = none
words kind s (w ∷ ws) is = more (fault_at kind s w) (faults_at kind s ws) is (words kind s ws is)

at_word : (b : Bool) (kind : StaticKind) (s : Side) (w : WordAt) → IsReported kind
    → Reported (at_word_if b kind s w)
at_word true kind s w is = more (fault_at kind s w) [] is none
at_word false kind s w is = none

unknown_type : IsReported kinds.UnknownType
unknown_type = record { as_kind = faults.UnknownType; is = refl }

unknown_object : IsReported kinds.UnknownObject
unknown_object = record { as_kind = faults.UnknownObject; is = refl }

unknown_predicate : IsReported kinds.UnknownPredicate
unknown_predicate = record { as_kind = faults.UnknownPredicate; is = refl }

unknown_task : IsReported kinds.UnknownTask
unknown_task = record { as_kind = faults.UnknownTask; is = refl }

unbound : IsReported kinds.UnboundVariable
unbound = record { as_kind = faults.UnboundVariable; is = refl }

arity : IsReported kinds.Arity
arity = record { as_kind = faults.Arity; is = refl }

duplicate_name : IsReported kinds.DuplicateName
duplicate_name = record { as_kind = faults.DuplicateName; is = refl }

duplicate_variable : IsReported kinds.DuplicateVariable
duplicate_variable = record { as_kind = faults.DuplicateVariable; is = refl }

duplicate_label : IsReported kinds.DuplicateLabel
duplicate_label = record { as_kind = faults.DuplicateLabel; is = refl }

unknown_label : IsReported kinds.UnknownLabel
unknown_label = record { as_kind = faults.UnknownLabel; is = refl }

cyclic : IsReported kinds.CyclicOrdering
cyclic = record { as_kind = faults.CyclicOrdering; is = refl }

head : (kind : StaticKind) (s : Side) (w : WordAt) (o : Option ℕ) (n : ℕ) → IsReported kind
    → Reported (head_faults kind s w o n)
head kind s w None n is = more (fault_at kind s w) [] is none
head kind s w (Some m) n is = at_word (not (nat_eq m n)) kinds.Arity s w arity

module _ (k : Known) (s : Side) where
  type_word : (w : WordAt) → Reported (type_word_faults k s w)
  type_word w = at_word (not (is_among k.types w.text)) kinds.UnknownType s w unknown_type

  type : (t : TypeOf) → Reported (type_faults k s t)
  type no_type = none
  type (of_type w) = type_word w

  typed : (vs : List Typed) → Reported (typed_faults k s vs)
  typed vs = flat (λ (v : Typed). type_faults k s v.of) (λ (v : Typed). type v.of) vs

  types : (ws : List WordAt) → Reported (types_faults k s ws)
  types ws = flat (type_word_faults k s) type_word ws

  variable_types : (vs : List Variable) → Reported (variable_types_faults k s vs)
  variable_types vs =
      flat (λ (v : Variable). types_faults k s v.of) (λ (v : Variable). types v.of) vs

  variable_list : (vs : List Variable) → Reported (variable_faults k s vs)
  variable_list vs =
      append (variable_types_faults k s vs)
      (faults_at kinds.DuplicateVariable s (repeated (typed_words vs))) (variable_types vs)
      (words kinds.DuplicateVariable s (repeated (typed_words vs)) duplicate_variable)

  term : (scope : Scope) (x : Term) → Reported (term_faults k s scope x)
  term scope (constant w) =
      at_word (not (is_among k.objects w.text)) kinds.UnknownObject s w unknown_object
  term scope (variable w) = at_word (not (is_bound scope w.text)) kinds.UnboundVariable s w unbound

  terms : (scope : Scope) (xs : List Term) → Reported (terms_faults k s scope xs)
  terms scope xs = flat (term_faults k s scope) (term scope) xs

  headed : (kind : StaticKind) (w : WordAt) (o : Option ℕ) (scope : Scope) (xs : List Term)
      → IsReported kind
      → Reported (head_faults kind s w o (length xs) ++ terms_faults k s scope xs)
  headed kind w o scope xs is =
      append (head_faults kind s w o (length xs)) (terms_faults k s scope xs)
      (head kind s w o (length xs) is) (terms scope xs)

  atom : (scope : Scope) (a : Atom) → Reported (atom_faults k s scope a)
  atom scope a =
      headed kinds.UnknownPredicate a.symbol (signature_arity (k.predicate a.symbol.text)) scope
      a.terms unknown_predicate

  mutual
    formula : (scope : Scope) (f : Formula) → Reported (formula_faults k s scope f)
    formula scope (holds a) = atom scope a
    formula scope (and fs) = all_formulas scope fs
    formula scope (or fs) = all_formulas scope fs
    formula scope (negation f) = formula scope f
    formula scope (imply f g) =
        append (formula_faults k s scope f) (formula_faults k s scope g) (formula scope f)
        (formula scope g)
    formula scope (forall vs f) =
        append (variable_faults k s vs) (formula_faults k s (inside scope (variables vs)) f)
        (variable_list vs) (formula (inside scope (variables vs)) f)
    formula scope (exists vs f) =
        append (variable_faults k s vs) (formula_faults k s (inside scope (variables vs)) f)
        (variable_list vs) (formula (inside scope (variables vs)) f)
    formula scope (equal x y) =
        append (term_faults k s scope x) (term_faults k s scope y) (term scope x) (term scope y)

    all_formulas : (scope : Scope) (fs : Formulas) → Reported (all_formula_faults k s scope fs)
    all_formulas scope no_formulas = none
    all_formulas scope (more_formulas f fs) =
        append (formula_faults k s scope f) (all_formula_faults k s scope fs) (formula scope f)
        (all_formulas scope fs)

  literals : (scope : Scope) (ls : List Literal) → Reported (literals_faults k s scope ls)
  literals scope ls =
      flat (λ (l : Literal). atom_faults k s scope l.atom) (λ (l : Literal). atom scope l.atom) ls

  mutual
    effects : (scope : Scope) (e : Effect) → Reported (effect_faults k s scope e)
    effects scope no_items = none
    effects scope (more_items i e) =
        append (item_faults k s scope i) (effect_faults k s scope e) (item scope i)
        (effects scope e)

    item : (scope : Scope) (i : Item) → Reported (item_faults k s scope i)
    item scope (becomes l) = atom scope l.atom
    item scope (for_each vs e) =
        append (variable_faults k s vs) (effect_faults k s (inside scope (variables vs)) e)
        (variable_list vs) (effects (inside scope (variables vs)) e)

  task : (scope : Scope) (a : Atom) → Reported (task_faults k s scope a)
  task scope a =
      headed kinds.UnknownTask a.symbol (arity_of_task (k.task a.symbol.text)) scope a.terms
      unknown_task

  subtasks : (scope : Scope) (xs : List Subtask) → Reported (subtasks_faults k s scope xs)
  subtasks scope xs =
      flat (subtask_faults k s scope)
      (λ (x : Subtask). headed kinds.UnknownTask x.task.symbol
      (declared_arity (k.task x.task.symbol.text)) scope x.task.terms unknown_task) xs

  constraints : (scope : Scope) (cs : List Constraint) → Reported (constraints_faults k s scope cs)
  constraints scope cs =
      flat (λ (c : Constraint). term_faults k s scope c.left ++ term_faults k s scope c.right)
      (λ (c : Constraint). append (term_faults k s scope c.left) (term_faults k s scope c.right)
      (term scope c.left) (term scope c.right)) cs

  pair : (ls : List (List ℕ)) (p : Pair) → Reported (pair_faults k s ls p)
  pair ls p =
      append (at_word_if (not (is_among ls p.earlier.text)) kinds.UnknownLabel s p.earlier)
      (at_word_if (not (is_among ls p.later.text)) kinds.UnknownLabel s p.later)
      (at_word (not (is_among ls p.earlier.text)) kinds.UnknownLabel s p.earlier unknown_label)
      (at_word (not (is_among ls p.later.text)) kinds.UnknownLabel s p.later unknown_label)

  label : (n : Network) → Reported (label_faults k s n)
  label n =
      append (faults_at kinds.DuplicateLabel s (repeated (labels n.subtasks)))
      (flat_map (pair_faults k s (label_names n.subtasks)) n.pairs)
      (words kinds.DuplicateLabel s (repeated (labels n.subtasks)) duplicate_label)
      (flat (pair_faults k s (label_names n.subtasks)) (pair (label_names n.subtasks)) n.pairs)

  cycle : (b : Bool) (place : Span)
      → Reported (if b then fault_on kinds.CyclicOrdering s place ∷ [] else [])
  cycle true place = more (fault_on kinds.CyclicOrdering s place) [] cyclic none
  cycle false place = none

  order_by : (fs : List StaticFault) (place : Span) (n : Network) → Reported fs
      → Reported (elim fs [
        | f ∷ gs ↦ f ∷ gs
        | [] ↦ if is_cyclic (written_by n) then fault_on
            kinds.CyclicOrdering s place ∷ [] else []
      ])
  order_by [] place n h = cycle (is_cyclic (written_by n)) place
  order_by (f ∷ gs) place n h = h

  network : (scope : Scope) (place : Span) (n : Network)
      → Reported (network_faults k s scope place n)
  network scope place n =
      append (subtasks_faults k s scope n.subtasks ++ constraints_faults k s scope n.constraints)
      (order_faults k s place n)
      (append (subtasks_faults k s scope n.subtasks) (constraints_faults k s scope n.constraints)
      (subtasks scope n.subtasks) (constraints scope n.constraints))
      (order_by (label_faults k s n) place n (label n))

  method : (m : Method) → Reported (method_faults k s m)
  method m =
      let scope = parameters (variables m.parameters) in
      let vs = variable_faults k s m.parameters in
      let ts = task_faults k s scope m.task in
      let fs = formula_faults k s scope m.precondition in
      append ((vs ++ ts) ++ fs) (network_faults k s scope m.place m.network)
      (append (vs ++ ts) fs (append vs ts (variable_list m.parameters) (task scope m.task))
      (formula scope m.precondition))
      (network scope m.place m.network)

  action : (a : Action) → Reported (action_faults k s a)
  action a =
      let scope = parameters (variables a.parameters) in
      let vs = variable_faults k s a.parameters in
      let fs = formula_faults k s scope a.precondition in
      append (vs ++ fs) (effect_faults k s scope a.effect)
      (append vs fs (variable_list a.parameters) (formula scope a.precondition))
      (effects scope a.effect)

  goal : (o : Option Formula) → Reported (goal_faults k s o)
  goal None = none
  goal (Some f) = formula (parameters []) f

duplicates : (d : Domain) → Reported (duplicate_faults d)
duplicates d =
    let ps = faults_at kinds.DuplicateName sides.Domain (repeated (predicate_words d.predicates)) in
    let ms = faults_at kinds.DuplicateName sides.Domain (repeated (method_words d.methods)) in
    append (ps ++ ms) (faults_at kinds.DuplicateName sides.Domain
    (repeated (declared_words (declarations d))))
    (append ps ms
    (words kinds.DuplicateName sides.Domain (repeated (predicate_words d.predicates))
    duplicate_name)
    (words kinds.DuplicateName sides.Domain (repeated (method_words d.methods)) duplicate_name))
    (words kinds.DuplicateName sides.Domain (repeated (declared_words (declarations d)))
    duplicate_name)

of_domain : (k : Known) (d : Domain) → Reported (domain_faults_by k d)
of_domain k d =
    let ds = duplicate_faults d in
    let cs = typed_faults k sides.Domain d.constants in
    let ts = flat_map (λ (t : Task). variable_faults k sides.Domain t.parameters) d.tasks in
    let ms = flat_map (method_faults k sides.Domain) d.methods in
    append (((ds ++ cs) ++ ts) ++ ms) (flat_map (action_faults k sides.Domain) d.actions)
    (append ((ds ++ cs) ++ ts) ms
    (append (ds ++ cs) ts (append ds cs (duplicates d) (typed k sides.Domain d.constants))
    (flat (λ (t : Task). variable_faults k sides.Domain t.parameters)
    (λ (t : Task). variable_list k sides.Domain t.parameters) d.tasks))
    (flat (method_faults k sides.Domain) (method k sides.Domain) d.methods))
    (flat (action_faults k sides.Domain) (action k sides.Domain) d.actions)

of_htn : (k : Known) (h : Htn) → Reported (htn_faults k sides.Problem h)
of_htn k h =
    let scope = parameters (variables h.parameters) in
    append (variable_faults k sides.Problem h.parameters)
    (network_faults k sides.Problem scope h.place h.network)
    (variable_list k sides.Problem h.parameters) (network k sides.Problem scope h.place h.network)

of_problem : (k : Known) (p : Problem) → Reported (problem_faults_by k p)
of_problem k p =
    let os = typed_faults k sides.Problem p.objects in
    let hs = htn_faults k sides.Problem p.htn in
    let is = literals_faults k sides.Problem (parameters []) p.init in
    append ((os ++ hs) ++ is) (goal_faults k sides.Problem p.goal)
    (append (os ++ hs) is (append os hs (typed k sides.Problem p.objects) (of_htn k p.htn))
    (literals k sides.Problem (parameters []) p.init))
    (goal k sides.Problem p.goal)

-- the fault that is reported is one of these

earlier_reported : (f : StaticFault) (o : Option StaticFault) → IsReported f.kind
    → MatchOption o (Unit {0}) (λ g. IsReported g.kind)
    → MatchOption (earlier (Some f) o) (Unit {0}) (λ g. IsReported g.kind)
earlier_reported f None is h = is
earlier_reported f (Some g) is h = picked (nat_le f.span.start g.span.start) where
  picked : (b : Bool)
      → MatchOption (if b then Some f else Some g) (Unit {0}) (λ x. IsReported x.kind)
  picked true = is
  picked false = h

least_reported : (fs : List StaticFault) → Reported fs
    → MatchOption (least fs) (Unit {0}) (λ g. IsReported g.kind)
least_reported _ none = tt
least_reported _ (more f fs is rest) = earlier_reported f (least fs) is (least_reported fs rest)

either_reported : (o u : Option StaticFault) → MatchOption o (Unit {0}) (λ g. IsReported g.kind)
    → MatchOption u (Unit {0}) (λ g. IsReported g.kind)
    → MatchOption (option_or o u) (Unit {0}) (λ g. IsReported g.kind)
either_reported None u h g = g
either_reported (Some f) u h g = h

pub static_reported : (d : Domain) (p : Problem) (f : StaticFault) → first_fault d p ≡ Some f
    → IsReported f.kind
static_reported d p f first =
    subst (λ o. MatchOption o (Unit {0}) (λ g. IsReported g.kind)) first
    (either_reported (least (domain_faults d p)) (least (problem_faults d p))
    (least_reported (domain_faults d p) (of_domain (known_in d p) d))
    (least_reported (problem_faults d p) (of_problem (known_in d p) p)))
