-- The canonical sections of domains and problems, and the canonical text of both.
use Rattle.std.specs.Prelude.{ℕ, List, [], ◌∷◌, ◌++◌, Option, Some, None, codes}
use Rattle.hv_text.specs.Trees.{Tree, Trees, none, more, trees_of}
use Rattle.hv_syntax.specs.Values.{WordAt, Variable, Formula, Predicate, Task, Method, Action, Domain, Htn, Problem}
use Rattle.hv_reading.specs.Canonical.{text, the_list, form, each, word_expression, atom_expression, typed_members, variable_members, formula_expression, literal_expression, effect_expression, with_field, network_fields}

-- the field `:parameters`, and the fields behind it
abbrev pub with_parameters : List Variable → Trees → Trees
with_parameters vs rest = with_field (codes ":parameters") (the_list (variable_members vs)) rest

-- the field `:precondition`, and the fields behind it
abbrev pub with_precondition : Formula → Trees → Trees
with_precondition f rest = with_field (codes ":precondition") (formula_expression f) rest

-- a predicate: `(symbol typed(var))`
abbrev pub predicate_expression : Predicate → Tree
predicate_expression p = form p.name.text (variable_members p.parameters)

-- the section of a task: its `:parameters`
abbrev pub task_section : Task → Tree
task_section t =
    form (codes ":task") (more (word_expression t.name) (with_parameters t.parameters none))

-- the section of a method: its `:parameters`, `:task`, `:precondition`, and its network
abbrev pub method_section : Method → Tree
method_section m =
    form (codes ":method") (more (word_expression m.name)
    (with_parameters m.parameters (with_field (codes ":task") (atom_expression m.task)
    (with_precondition m.precondition (network_fields m.network)))))

-- the section of an action: its `:parameters`, `:precondition`, `:effect`
abbrev pub action_section : Action → Tree
action_section a =
    form (codes ":action") (more (word_expression a.name)
    (with_parameters a.parameters (with_precondition a.precondition
    (with_field (codes ":effect") (effect_expression a.effect) none))))

-- the section with these members, where there are any
abbrev pub unless_empty : List ℕ → Trees → List Tree
unless_empty k none = []
unless_empty k (more t ts) = form k (more t ts) ∷ []

-- the section of each
abbrev pub section_of_each : {A : Type 0} → (A → Tree) → List A → List Tree
section_of_each f [] = []
section_of_each f (x ∷ xs) = f x ∷ section_of_each f xs

-- the sections of a domain: what each kind says where it is not empty, then all tasks, all methods
-- and all actions
abbrev pub domain_sections : Domain → List Tree
domain_sections d =
    unless_empty (codes ":requirements") (each word_expression d.requirements)
    ++ unless_empty (codes ":types") (typed_members d.types)
    ++ unless_empty (codes ":constants") (typed_members d.constants)
    ++ unless_empty (codes ":predicates") (each predicate_expression d.predicates)
    ++ section_of_each task_section d.tasks
    ++ section_of_each method_section d.methods
    ++ section_of_each action_section d.actions

-- the section of an initial network: its `:parameters`, and its network
abbrev pub htn_section : Htn → Tree
htn_section h = form (codes ":htn") (with_parameters h.parameters (network_fields h.network))

-- the section of a goal, where there is one
abbrev pub goal_section : Option Formula → List Tree
goal_section None = []
goal_section (Some f) = form (codes ":goal") (more (formula_expression f) none) ∷ []

-- the sections of a problem: its domain, requirements and objects where there are any, its network,
-- its initial state, and its goal where there is one
abbrev pub problem_sections : Problem → List Tree
problem_sections p =
    form (codes ":domain") (more (word_expression p.domain) none) ∷ []
    ++ unless_empty (codes ":requirements") (each word_expression p.requirements)
    ++ unless_empty (codes ":objects") (typed_members p.objects)
    ++ htn_section p.htn ∷ []
    ++ form (codes ":init") (each literal_expression p.init) ∷ []
    ++ goal_section p.goal

-- `(kind name)`
abbrev pub title : List ℕ → WordAt → Tree
title kind n = form kind (more (word_expression n) none)

-- `(define (kind name) section*)`
abbrev pub definition : List ℕ → WordAt → List Tree → Tree
definition kind n ts = form (codes "define") (more (title kind n) (trees_of ts))

-- the canonical expression of a domain
abbrev pub domain_expression : Domain → Tree
domain_expression d = definition (codes "domain") d.name (domain_sections d)

-- the canonical expression of a problem
abbrev pub problem_expression : Problem → Tree
problem_expression p = definition (codes "problem") p.name (problem_sections p)

-- each expression on a line of its own, which byte 10 ends
abbrev pub lines : List Tree → List ℕ
lines [] = []
lines (t ∷ ts) = text t ++ 10 ∷ lines ts

-- the text of a definition: its title on the first line, each section on a line, and the
-- parenthesis that ends it on the last
abbrev pub definition_text : List ℕ → WordAt → List Tree → List ℕ
definition_text kind n ts = codes "(define " ++ text (title kind n) ++ 10 ∷ lines ts ++ 41 ∷ 10 ∷ []

-- the canonical text of a domain
abbrev pub canonical_domain : Domain → List ℕ
canonical_domain d = definition_text (codes "domain") d.name (domain_sections d)

-- the canonical text of a problem
abbrev pub canonical_problem : Problem → List ℕ
canonical_problem p = definition_text (codes "problem") p.name (problem_sections p)
