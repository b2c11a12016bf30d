-- A value is printed as the same value with its places aside.
use Rattle.std.proofs.Common.{◌≡◌, ◌++◌, ℕ, List, [], ◌∷◌, map, Option, Some, None, option_map, refl, sym, ap, ◌∙◌, codes}
use Rattle.hv_text.specs.Trees.{Tree, Trees, none, more}
use Rattle.hv_syntax.specs.Values.{WordAt, Term, constant, variable, Atom, TypedBy, Typed, Variable, Formula, Formulas, holds, and, or, not, imply, forall, exists, equal, no_formulas, more_formulas, Literal, Effect, no_items, more_items, Item, becomes, for_each, Subtask, Pair, Constraint, Network, Predicate, Task, Method, Action, Domain, Htn, Problem}
use Rattle.hv_reading.specs.Canonical.{each, the_list, form, conjunction, conjunction_or_one, signed, labelled_by, two_members, with_field, with_members, subtasks_keyword, word_expression, term_expression, atom_expression, type_name_expression, type_expression, members_by, typed_members, variable_members, formula_expression, formula_expressions, literal_expression, item_expression, item_expressions, effect_expression, subtask_expression, pair_expression, constraint_expression, network_fields}
use Rattle.hv_reading.specs.CanonicalSections.{predicate_expression, task_section, method_section, action_section, htn_section, goal_section, unless_empty, section_of_each, domain_sections, problem_sections, definition_text, canonical_domain, canonical_problem}
use Rattle.hv_reading.specs.Bare.{bare_word, bare_term, bare_atom, bare_by, bare_type_name, bare_typed, bare_type, bare_variable, bare_formula, bare_formulas, bare_literal, bare_effect, bare_item, bare_subtask, bare_pair, bare_constraint, bare_network, bare_predicate, bare_task, bare_method, bare_action, bare_domain, bare_htn, bare_problem}

each_alike : {A : Type 0} (write : A → Tree) (bare : A → A) → ((x : A) → write (bare x) ≡ write x) → (xs : List A) → each write (map bare xs) ≡ each write xs
each_alike write bare h [] = refl
each_alike write bare h (x ∷ xs) = ap (λ t. more t (each write (map bare xs))) (h x) ∙ ap (more (write x)) (each_alike write bare h xs)

sections_alike : {A : Type 0} (write : A → Tree) (bare : A → A) → ((x : A) → write (bare x) ≡ write x) → (xs : List A) → section_of_each write (map bare xs) ≡ section_of_each write xs
sections_alike write bare h [] = refl
sections_alike write bare h (x ∷ xs) = ap (λ t. t ∷ section_of_each write (map bare xs)) (h x) ∙ ap (λ ts. write x ∷ ts) (sections_alike write bare h xs)

word_alike : (w : WordAt) → word_expression (bare_word w) ≡ word_expression w
word_alike w = refl

term_alike : (x : Term) → term_expression (bare_term x) ≡ term_expression x
term_alike (constant w) = refl
term_alike (variable w) = refl

atom_alike : (a : Atom) → atom_expression (bare_atom a) ≡ atom_expression a
atom_alike a = ap (form a.symbol.text) (each_alike term_expression bare_term term_alike a.terms)

members_alike : {T : Type 0} (write : T → Tree) (bare : T → T) → ((t : T) → write (bare t) ≡ write t) → (vs : List (TypedBy T)) → members_by write (map (bare_by bare) vs) ≡ members_by write vs
members_alike write bare h [] = refl
members_alike write bare h (v ∷ vs) = rw (h v.of, members_alike write bare h vs) refl

typed_alike : (vs : List Typed) → typed_members (map bare_typed vs) ≡ typed_members vs
typed_alike = members_alike type_name_expression bare_type_name (λ t. refl)

type_alike : (ns : List WordAt) → type_expression (bare_type ns) ≡ type_expression ns
type_alike [] = refl
type_alike (n ∷ []) = refl
type_alike (n ∷ m ∷ ns) = ap (form (codes "either")) (each_alike word_expression bare_word word_alike (n ∷ m ∷ ns))

variables_alike : (vs : List Variable) → variable_members (map bare_variable vs) ≡ variable_members vs
variables_alike = members_alike type_expression bare_type type_alike

mutual
  formula_alike : (f : Formula) → formula_expression (bare_formula f) ≡ formula_expression f
  formula_alike (holds a) = atom_alike a
  formula_alike (and fs) = ap conjunction (formulas_alike fs)
  formula_alike (or fs) = ap (form (codes "or")) (formulas_alike fs)
  formula_alike (not f) = ap (λ t. form (codes "not") (more t none)) (formula_alike f)
  formula_alike (imply f g) = rw (formula_alike f, formula_alike g) refl
  formula_alike (forall vs f) = rw (variables_alike vs, formula_alike f) refl
  formula_alike (exists vs f) = rw (variables_alike vs, formula_alike f) refl
  formula_alike (equal x y) = rw (term_alike x, term_alike y) refl

  formulas_alike : (fs : Formulas) → formula_expressions (bare_formulas fs) ≡ formula_expressions fs
  formulas_alike no_formulas = refl
  formulas_alike (more_formulas f fs) = rw (formula_alike f, formulas_alike fs) refl

literal_alike : (l : Literal) → literal_expression (bare_literal l) ≡ literal_expression l
literal_alike l = ap (signed l.is_positive) (atom_alike l.atom)

mutual
  item_alike : (i : Item) → item_expression (bare_item i) ≡ item_expression i
  item_alike (becomes l) = literal_alike l
  item_alike (for_each vs e) = rw (variables_alike vs, items_alike e) refl

  items_alike : (e : Effect) → item_expressions (bare_effect e) ≡ item_expressions e
  items_alike no_items = refl
  items_alike (more_items i e) = rw (item_alike i, items_alike e) refl

effect_alike : (e : Effect) → effect_expression (bare_effect e) ≡ effect_expression e
effect_alike no_items = refl
effect_alike (more_items (becomes l) e) = ap conjunction (items_alike (more_items (becomes l) e))
effect_alike (more_items (for_each vs f) e) = ap conjunction_or_one (items_alike (more_items (for_each vs f) e))

labelled_alike : (l : Option WordAt) (t : Tree) → labelled_by (option_map bare_word l) t ≡ labelled_by l t
labelled_alike None t = refl
labelled_alike (Some l) t = refl

subtask_alike : (s : Subtask) → subtask_expression (bare_subtask s) ≡ subtask_expression s
subtask_alike s = labelled_alike s.label (atom_expression (bare_atom s.task)) ∙ ap (labelled_by s.label) (atom_alike s.task)

pair_alike : (p : Pair) → pair_expression (bare_pair p) ≡ pair_expression p
pair_alike p = refl

constraint_alike : (c : Constraint) → constraint_expression (bare_constraint c) ≡ constraint_expression c
constraint_alike c =
    ap (λ t. signed c.is_equal (form (codes "=") (two_members t (term_expression (bare_term c.right))))) (term_alike c.left)
    ∙ ap (λ t. signed c.is_equal (form (codes "=") (two_members (term_expression c.left) t))) (term_alike c.right)

abbrev fields_with : List ℕ → Trees → Trees → Trees → Trees
fields_with k xs ps cs = with_field k (conjunction xs) (with_members (codes ":ordering") ps (with_members (codes ":constraints") cs none))

fields_alike : (k : List ℕ) (xs xs2 ps ps2 cs cs2 : Trees) → xs ≡ xs2 → ps ≡ ps2 → cs ≡ cs2 → fields_with k xs ps cs ≡ fields_with k xs2 ps2 cs2
fields_alike k xs xs2 ps ps2 cs cs2 e f g = ap (λ x. fields_with k x ps cs) e ∙ ap (λ x. fields_with k xs2 x cs) f ∙ ap (λ x. fields_with k xs2 ps2 x) g

network_alike : (n : Network) → network_fields (bare_network n) ≡ network_fields n
network_alike n =
    fields_alike (subtasks_keyword n.is_ordered) (each subtask_expression (map bare_subtask n.subtasks)) (each subtask_expression n.subtasks)
    (each pair_expression (map bare_pair n.pairs)) (each pair_expression n.pairs) (each constraint_expression (map bare_constraint n.constraints)) (each constraint_expression n.constraints)
    (each_alike subtask_expression bare_subtask subtask_alike n.subtasks) (each_alike pair_expression bare_pair pair_alike n.pairs) (each_alike constraint_expression bare_constraint constraint_alike n.constraints)

predicate_alike : (p : Predicate) → predicate_expression (bare_predicate p) ≡ predicate_expression p
predicate_alike p = ap (form p.name.text) (variables_alike p.parameters)

task_alike : (t : Task) → task_section (bare_task t) ≡ task_section t
task_alike t = ap (λ vs. form (codes ":task") (more (word_expression t.name) (with_field (codes ":parameters") (the_list vs) none))) (variables_alike t.parameters)

abbrev method_with : WordAt → Trees → Tree → Tree → Trees → Tree
method_with w vs t f n =
    form (codes ":method") (more (word_expression w) (with_field (codes ":parameters") (the_list vs) (with_field (codes ":task") t (with_field (codes ":precondition") f n))))

method_alike : (m : Method) → method_section (bare_method m) ≡ method_section m
method_alike m =
    ap (λ vs. method_with m.name vs (atom_expression (bare_atom m.task)) (formula_expression (bare_formula m.precondition)) (network_fields (bare_network m.network))) (variables_alike m.parameters)
    ∙ ap (λ t. method_with m.name (variable_members m.parameters) t (formula_expression (bare_formula m.precondition)) (network_fields (bare_network m.network))) (atom_alike m.task)
    ∙ ap (λ f. method_with m.name (variable_members m.parameters) (atom_expression m.task) f (network_fields (bare_network m.network))) (formula_alike m.precondition)
    ∙ ap (λ n. method_with m.name (variable_members m.parameters) (atom_expression m.task) (formula_expression m.precondition) n) (network_alike m.network)

abbrev action_with : WordAt → Trees → Tree → Tree → Tree
action_with w vs f e =
    form (codes ":action") (more (word_expression w) (with_field (codes ":parameters") (the_list vs) (with_field (codes ":precondition") f (with_field (codes ":effect") e none))))

action_alike : (a : Action) → action_section (bare_action a) ≡ action_section a
action_alike a =
    ap (λ vs. action_with a.name vs (formula_expression (bare_formula a.precondition)) (effect_expression (bare_effect a.effect))) (variables_alike a.parameters)
    ∙ ap (λ f. action_with a.name (variable_members a.parameters) f (effect_expression (bare_effect a.effect))) (formula_alike a.precondition)
    ∙ ap (λ e. action_with a.name (variable_members a.parameters) (formula_expression a.precondition) e) (effect_alike a.effect)

htn_alike : (h : Htn) → htn_section (bare_htn h) ≡ htn_section h
htn_alike h =
    ap (λ vs. form (codes ":htn") (with_field (codes ":parameters") (the_list vs) (network_fields (bare_network h.network)))) (variables_alike h.parameters)
    ∙ ap (λ n. form (codes ":htn") (with_field (codes ":parameters") (the_list (variable_members h.parameters)) n)) (network_alike h.network)

goal_alike : (f : Option Formula) → goal_section (option_map bare_formula f) ≡ goal_section f
goal_alike None = refl
goal_alike (Some f) = ap (λ t. form (codes ":goal") (more t none) ∷ []) (formula_alike f)

six : (a b c d e f a2 b2 c2 d2 e2 f2 : List Tree) → a ≡ a2 → b ≡ b2 → c ≡ c2 → d ≡ d2 → e ≡ e2 → f ≡ f2 → a ++ b ++ c ++ d ++ e ++ f ≡ a2 ++ b2 ++ c2 ++ d2 ++ e2 ++ f2
six a b c d e f a2 b2 c2 d2 e2 f2 h i j k l m = rw (h, i, j, k, l, m) refl

domain_alike : (d : Domain) → domain_sections (bare_domain d) ≡ domain_sections d
domain_alike d =
    ap (λ x. x ++ section_of_each action_section (map bare_action d.actions))
    (six _ _ _ _ _ _
    (unless_empty (codes ":requirements") (each word_expression d.requirements)) (unless_empty (codes ":types") (typed_members d.types)) (unless_empty (codes ":constants") (typed_members d.constants))
    (unless_empty (codes ":predicates") (each predicate_expression d.predicates)) (section_of_each task_section d.tasks) (section_of_each method_section d.methods)
    (ap (unless_empty (codes ":requirements")) (each_alike word_expression bare_word word_alike d.requirements))
    (ap (unless_empty (codes ":types")) (typed_alike d.types))
    (ap (unless_empty (codes ":constants")) (typed_alike d.constants))
    (ap (unless_empty (codes ":predicates")) (each_alike predicate_expression bare_predicate predicate_alike d.predicates))
    (sections_alike task_section bare_task task_alike d.tasks)
    (sections_alike method_section bare_method method_alike d.methods))
    ∙ ap (λ x. unless_empty (codes ":requirements") (each word_expression d.requirements) ++ unless_empty (codes ":types") (typed_members d.types) ++ unless_empty (codes ":constants") (typed_members d.constants)
    ++ unless_empty (codes ":predicates") (each predicate_expression d.predicates) ++ section_of_each task_section d.tasks ++ section_of_each method_section d.methods ++ x)
    (sections_alike action_section bare_action action_alike d.actions)

problem_alike : (p : Problem) → problem_sections (bare_problem p) ≡ problem_sections p
problem_alike p =
    six _ _ _ _ _ _
    (form (codes ":domain") (more (word_expression p.domain) none) ∷ []) (unless_empty (codes ":requirements") (each word_expression p.requirements)) (unless_empty (codes ":objects") (typed_members p.objects))
    (htn_section p.htn ∷ []) (form (codes ":init") (each literal_expression p.init) ∷ []) (goal_section p.goal)
    refl
    (ap (unless_empty (codes ":requirements")) (each_alike word_expression bare_word word_alike p.requirements))
    (ap (unless_empty (codes ":objects")) (typed_alike p.objects))
    (ap (λ t. t ∷ []) (htn_alike p.htn))
    (ap (λ ts. form (codes ":init") ts ∷ []) (each_alike literal_expression bare_literal literal_alike p.init))
    (goal_alike p.goal)

domain_text_alike : (d : Domain) → canonical_domain (bare_domain d) ≡ canonical_domain d
domain_text_alike d = ap (definition_text (codes "domain") d.name) (domain_alike d)

problem_text_alike : (p : Problem) → canonical_problem (bare_problem p) ≡ canonical_problem p
problem_text_alike p = ap (definition_text (codes "problem") p.name) (problem_alike p)

pub domains_alike : (d e : Domain) → bare_domain d ≡ bare_domain e → canonical_domain d ≡ canonical_domain e
domains_alike d e h = sym (domain_text_alike d) ∙ ap canonical_domain h ∙ domain_text_alike e

pub problems_alike : (p q : Problem) → bare_problem p ≡ bare_problem q → canonical_problem p ≡ canonical_problem q
problems_alike p q h = sym (problem_text_alike p) ∙ ap canonical_problem h ∙ problem_text_alike q
