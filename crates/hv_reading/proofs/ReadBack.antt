-- What is read from the canonical text of a domain.
use Rattle.std.proofs.Common.{◌≡◌, ◌≤◌, ℕ, List, length, map, Option, Some, None, option_map, refl, ap, ◌∙◌, codes, arith}
use Rattle.hv_text.specs.Trees.{Tree, Trees, none, more}
use Rattle.hv_text.specs.Words.{pieces}
use Rattle.hv_text.specs.Sexps.{spelled_all, AreExpressions}
use Rattle.hv_text.specs.declared.fault.TheConstants.{MOST_BYTES, MOST_OPEN}
use Rattle.hv_syntax.specs.Values.{WordAt, Effect, no_items, more_items, Item, becomes, for_each, Subtask, Constraint, Network, network, Predicate, Task, Method, Action, Domain}
use Rattle.hv_reading.specs.Tables.{IsDomain}
use Rattle.hv_reading.specs.Texts.{IsDomainText}
use Rattle.hv_reading.specs.ReadBack.{IsReadBack}
use Rattle.hv_reading.specs.CanonicalSections.{definition, definition_text, domain_sections, domain_expression, canonical_domain}
use Rattle.hv_reading.specs.Bare.{bare_word, bare_term, bare_atom, bare_typed, bare_variable, bare_effect, bare_item, bare_subtask, bare_pair, bare_constraint, bare_network, bare_predicate, bare_task, bare_method, bare_action, bare_domain}
use Rattle.hv_text.specs.Shapes.{bare_piece, bare_trees, AreTidy, depth, depth_all}
use Rattle.hv_reading.proofs.AgainDomains.{domain_again}
use Rattle.hv_reading.proofs.Alike.{domains_alike}
use Rattle.hv_reading.proofs.TextWords.{definition_pieces}
use Rattle.hv_reading.proofs.TextSpellings.{domain_table, one_domain, one_text}
use Rattle.hv_reading.proofs.Fitting.{Fits, is_tidy, is_within, all_fit}
use Rattle.hv_reading.proofs.FittingTexts.{domain_said_fits}
use Rattle.hv_reading.proofs.PlacesSections.{map_twice, term_twice, atom_twice, typed_twice, variables_twice, formula_twice, literal_twice, domain_found}

mutual
  effect_twice : (e : Effect) → bare_effect (bare_effect e) ≡ bare_effect e
  effect_twice no_items = refl
  effect_twice (more_items i e) = rw (item_twice i, effect_twice e) refl

  item_twice : (i : Item) → bare_item (bare_item i) ≡ bare_item i
  item_twice (becomes l) = ap becomes (literal_twice l)
  item_twice (for_each vs e) = rw (variables_twice vs, effect_twice e) refl

label_twice : (l : Option WordAt) → option_map bare_word (option_map bare_word l) ≡ option_map bare_word l
label_twice None = refl
label_twice (Some w) = refl

subtask_twice : (s : Subtask) → bare_subtask (bare_subtask s) ≡ bare_subtask s
subtask_twice s = ap (λ l. record { label = l; task = bare_atom (bare_atom s.task) }) (label_twice s.label) ∙ ap (λ a. record { label = option_map bare_word s.label; task = a }) (atom_twice s.task)

constraint_twice : (c : Constraint) → bare_constraint (bare_constraint c) ≡ bare_constraint c
constraint_twice c =
    ap (λ x. record { is_equal = c.is_equal; left = x; right = bare_term (bare_term c.right) }) (term_twice c.left) ∙ ap (λ x. record { is_equal = c.is_equal; left = bare_term c.left; right = x }) (term_twice c.right)

pub network_twice : (n : Network) → bare_network (bare_network n) ≡ bare_network n
network_twice n =
    ap (λ xs. network xs n.is_ordered (map bare_pair (map bare_pair n.pairs)) (map bare_constraint (map bare_constraint n.constraints))) (map_twice bare_subtask subtask_twice n.subtasks)
    ∙ ap (λ ps. network (map bare_subtask n.subtasks) n.is_ordered ps (map bare_constraint (map bare_constraint n.constraints))) (map_twice bare_pair (λ p. refl) n.pairs)
    ∙ ap (λ cs. network (map bare_subtask n.subtasks) n.is_ordered (map bare_pair n.pairs) cs) (map_twice bare_constraint constraint_twice n.constraints)

predicate_twice : (p : Predicate) → bare_predicate (bare_predicate p) ≡ bare_predicate p
predicate_twice p = ap (λ vs. record { name = bare_word p.name; parameters = vs }) (variables_twice p.parameters)

task_twice : (t : Task) → bare_task (bare_task t) ≡ bare_task t
task_twice t = ap (λ vs. record (bare_task t) { parameters = vs }) (variables_twice t.parameters)

method_twice : (m : Method) → bare_method (bare_method m) ≡ bare_method m
method_twice m =
    ap (λ vs. record (bare_method (bare_method m)) { parameters = vs }) (variables_twice m.parameters)
    ∙ ap (λ a. record (bare_method (bare_method m)) { parameters = map bare_variable m.parameters; task = a }) (atom_twice m.task)
    ∙ ap (λ f. record (bare_method m) { precondition = f; network = bare_network (bare_network m.network) }) (formula_twice m.precondition)
    ∙ ap (λ n. record (bare_method m) { network = n }) (network_twice m.network)

action_twice : (a : Action) → bare_action (bare_action a) ≡ bare_action a
action_twice a =
    ap (λ vs. record (bare_action (bare_action a)) { parameters = vs }) (variables_twice a.parameters)
    ∙ ap (λ f. record (bare_action a) { precondition = f; effect = bare_effect (bare_effect a.effect) }) (formula_twice a.precondition)
    ∙ ap (λ e. record (bare_action a) { effect = e }) (effect_twice a.effect)

domain_twice : (d : Domain) → bare_domain (bare_domain d) ≡ bare_domain d
domain_twice d =
    ap (λ x. record (bare_domain (bare_domain d)) { requirements = x }) (map_twice bare_word (λ w. refl) d.requirements)
    ∙ ap (λ x. record (bare_domain (bare_domain d)) { requirements = map bare_word d.requirements; types = x }) (typed_twice d.types)
    ∙ ap (λ x. record (bare_domain (bare_domain d)) { requirements = map bare_word d.requirements; types = map bare_typed d.types; constants = x }) (typed_twice d.constants)
    ∙ ap (λ x. record (bare_domain d) { predicates = x; tasks = map bare_task (map bare_task d.tasks); methods = map bare_method (map bare_method d.methods); actions = map bare_action (map bare_action d.actions) }) (map_twice bare_predicate predicate_twice d.predicates)
    ∙ ap (λ x. record (bare_domain d) { tasks = x; methods = map bare_method (map bare_method d.methods); actions = map bare_action (map bare_action d.actions) }) (map_twice bare_task task_twice d.tasks)
    ∙ ap (λ x. record (bare_domain d) { methods = x; actions = map bare_action (map bare_action d.actions) }) (map_twice bare_method method_twice d.methods)
    ∙ ap (λ x. record (bare_domain d) { actions = x }) (map_twice bare_action action_twice d.actions)

-- what is known of the expressions of texts
abbrev pub Tidied : Type 0
Tidied = (text : List ℕ) (ts : Trees) → AreExpressions text ts → AreTidy ts × (depth_all ts ≤ MOST_OPEN)

abbrev pub Found : Type 0
Found = (text : List ℕ) (ts : Trees) → length text ≤ MOST_BYTES → map bare_piece (pieces text) ≡ map bare_piece (spelled_all ts) → depth_all ts ≤ MOST_OPEN → (us : Trees) × AreExpressions text us × (bare_trees us ≡ bare_trees ts)

abbrev pub One : Type 0
One = (text : List ℕ) (ts us : Trees) → AreExpressions text ts → AreExpressions text us → ts ≡ us

-- the text of a definition has it alone
pub definition_found : Found → (kind : List ℕ) (n : WordAt) (ts : List Tree) → Fits (definition kind n ts) MOST_OPEN → length (definition_text kind n ts) ≤ MOST_BYTES
    → (us : Trees) × AreExpressions (definition_text kind n ts) us × (bare_trees us ≡ bare_trees (more (definition kind n ts) none))
definition_found found kind n ts f l =
    let t : Tree = definition kind n ts in
    let deep : depth t ≤ MOST_OPEN = is_within t MOST_OPEN f in
    found (definition_text kind n ts) (more t none) l (definition_pieces kind n ts (is_tidy t MOST_OPEN f)) (omega arith)

domain_fits : Tidied → (text : List ℕ) (d : Domain) → IsDomainText text d → Fits (domain_expression d) MOST_OPEN
domain_fits tidied text d h = let w = tidied text h.0 h.1 in domain_said_fits 251 h.0 d h.2 (all_fit h.0 MOST_OPEN w.0 w.1)

-- the canonical text of a domain has its canonical expression alone, places aside
pub domain_expression_found : Tidied → Found → (text : List ℕ) (d : Domain) → IsDomainText text d → length (canonical_domain d) ≤ MOST_BYTES
    → (us : Trees) × AreExpressions (canonical_domain d) us × (bare_trees us ≡ bare_trees (more (domain_expression d) none))
domain_expression_found tidied found text d h l =
    definition_found found (codes "domain") d.name (domain_sections d) (domain_fits tidied text d h) l

-- it is read as that domain, places aside
pub domain_back : Tidied → Found → (text : List ℕ) (d : Domain) → IsDomainText text d → IsReadBack IsDomainText bare_domain (canonical_domain d) d
domain_back tidied found text d h l =
    let w = domain_expression_found tidied found text d h l in
    let f = domain_found w.0 (more (domain_expression d) none) (bare_domain d) w.2 (domain_again h.0 d ((domain_table h.0 d).0 h.2)) in
    (f.0, (w.0, w.1, (domain_table w.0 f.0).1 f.1), f.2 ∙ domain_twice d)

-- and as no other
pub domain_only : Tidied → Found → One → (text : List ℕ) (d e : Domain) → IsDomainText text d → IsDomainText (canonical_domain d) e → bare_domain e ≡ bare_domain d
domain_only tidied found one text d e h k =
    let f = domain_back tidied found text d h k.1.size in
    ap bare_domain (one_text IsDomain one_domain (canonical_domain d) (one (canonical_domain d)) e f.0 k f.1) ∙ f.2

-- printing what is read from it gives that text again
pub domain_bytes : Tidied → Found → One → (text : List ℕ) (d e : Domain) → IsDomainText text d → IsDomainText (canonical_domain d) e → canonical_domain e ≡ canonical_domain d
domain_bytes tidied found one text d e h k = domains_alike e d (domain_only tidied found one text d e h k)
