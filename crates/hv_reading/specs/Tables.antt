-- The table of the grammar from fields up: networks, declarations, sections, whole
-- domains and problems.
use Rattle.std.specs.Prelude.{◌≡◌, ℕ, Bool, true, false, List, [], ◌∷◌, ◌++◌, Option, Some, None, codes}
use Rattle.hv_text.specs.Trees.{Tree, word, list, Trees, none, more}
use Rattle.hv_text.specs.declared.span.Span.{Span}
use Rattle.hv_reading.specs.declared.word.Sort.TheVariants as sorts
use Rattle.hv_reading.specs.declared.field.Slot.TheVariants as slots
use Rattle.hv_reading.specs.declared.section.Standing.{Standing}
use Rattle.hv_reading.specs.declared.section.Standing.TheVariants as standings
use Rattle.hv_reading.specs.Words.{is}
use Rattle.hv_syntax.specs.Values.{WordAt, Atom, Typed, Variable, Formula, and, no_formulas, Effect, no_items, Literal, Subtask, Pair, Constraint, Network, network, Predicate, predicate, Task, task, Method, method, Action, action, Domain, Htn, htn, Problem}
use Rattle.hv_reading.specs.Fields.{field, is_field_list}
use Rattle.hv_reading.specs.Declarations.{is_nothing, method_slots}
use Rattle.hv_reading.specs.Sections.{occurs}
use Rattle.hv_syntax.specs.Domains.{DomainSection, has_requirements, has_types, has_constants, has_predicates, has_task, has_method, has_action, no_domain, add_section}
use Rattle.hv_reading.specs.Standings.{domain_standing}
use Rattle.hv_syntax.specs.Problems.{ProblemSection, is_for, has_objects, has_htn, has_init, has_goal, Parts, no_parts, add_part}
use Rattle.hv_reading.specs.Standings.{problem_standing}
use Rattle.hv_reading.specs.Declarations.{htn_slots}
use Rattle.hv_syntax.specs.Problems as problems
use Rattle.hv_reading.specs.Spellings.{SpellsWord, SpellsSymbol, SpellEach, SpellsList, SpellsAtom, SpellsTyped, SpellsTypedVariables, SpellsFormula, SpellsGround, SpellsEffect, SpellsSubtask, SpellsPair, SpellsConstraint}

-- a field that may be absent, and then says this
pub data SpellsIfAny {A : Type 0} (Spells : Tree → A → Type 0) (otherwise : A) : Option Tree → A
    → Type 0 where
  is_absent : SpellsIfAny Spells otherwise None otherwise
  is_present : (t : Tree) (a : A) → Spells t a → SpellsIfAny Spells otherwise (Some t) a

-- a field that must stand
pub data SpellsField {A : Type 0} (Spells : Tree → A → Type 0) : Option Tree → A → Type 0 where
  it_stands : (t : Tree) (a : A) → Spells t a → SpellsField Spells (Some t) a

-- parameters: `(typed(var))`
pub data SpellsParameters : Tree → List Variable → Type 0 where
  parameters : (ts : Trees) (s : Span) (xs : List Variable) → SpellsTypedVariables ts xs
      → SpellsParameters (list ts s) xs

-- subtasks in one of two forms, or none; only the second orders them
pub data SpellsForm : Option Tree → Option Tree → Bool × List Subtask → Type 0 where
  no_form : SpellsForm None None (false, [])
  unordered : (t : Tree) (xs : List Subtask) → SpellsList SpellsSubtask t xs
      → SpellsForm (Some t) None (false, xs)
  ordered : (t : Tree) (xs : List Subtask) → SpellsList SpellsSubtask t xs
      → SpellsForm None (Some t) (true, xs)

-- the fields of a network
pub data SpellsNetwork : Trees → Network → Type 0 where
  a_network : (ts : Trees) (b : Bool) (xs : List Subtask) (ps : List Pair) (cs : List Constraint)
      → SpellsForm (field slots.Subtasks ts) (field slots.OrderedSubtasks ts) (b, xs)
      → SpellsIfAny (SpellsList SpellsPair) [] (field slots.Ordering ts) ps
      → SpellsIfAny (SpellsList SpellsConstraint) [] (field slots.Constraints ts) cs
      → SpellsNetwork ts (network xs b ps cs)

-- a predicate: `(symbol typed(var))`
pub data SpellsPredicate : Tree → Predicate → Type 0 where
  a_predicate : (t : Tree) (w : WordAt) (ts : Trees) (s : Span) (xs : List Variable)
      → SpellsSymbol t w → SpellsTypedVariables ts xs
      → SpellsPredicate (list (more t ts) s) (predicate w xs)

-- a task: a symbol, `:parameters`, and a `:precondition` and an `:effect` that say nothing
pub data SpellsTask (s : Span) : Trees → Task → Type 0 where
  a_task : (t : Tree) (w : WordAt) (ts : Trees) (xs : List Variable) → SpellsSymbol t w
      → is_field_list (slots.Parameters ∷ slots.Precondition ∷ slots.Effect ∷ []) ts ≡ true
      → is_nothing (field slots.Precondition ts) ≡ true → is_nothing (field slots.Effect ts) ≡ true
      → SpellsIfAny SpellsParameters [] (field slots.Parameters ts) xs
      → SpellsTask s (more t ts) (task s w xs)

-- a method: a symbol, `:parameters`, `:task`, `:precondition`, and the fields of a network
pub data SpellsMethod (s : Span) : Trees → Method → Type 0 where
  a_method : (t : Tree) (w : WordAt) (ts : Trees) (xs : List Variable) (a : Atom) (n : Network)
      (f : Formula) → SpellsSymbol t w → is_field_list method_slots ts ≡ true
      → SpellsIfAny SpellsParameters [] (field slots.Parameters ts) xs
      → SpellsField SpellsAtom (field slots.Task ts) a → SpellsNetwork ts n
      → SpellsIfAny SpellsFormula (and no_formulas) (field slots.Precondition ts) f
      → SpellsMethod s (more t ts) (method s w ((xs, a), n) f)

-- an action: a symbol, `:parameters`, `:precondition`, `:effect`
pub data SpellsAction (s : Span) : Trees → Action → Type 0 where
  an_action : (t : Tree) (w : WordAt) (ts : Trees) (xs : List Variable) (e : Effect) (f : Formula)
      → SpellsSymbol t w
      → is_field_list (slots.Parameters ∷ slots.Precondition ∷ slots.Effect ∷ []) ts ≡ true
      → SpellsIfAny SpellsParameters [] (field slots.Parameters ts) xs
      → SpellsIfAny SpellsEffect no_items (field slots.Effect ts) e
      → SpellsIfAny SpellsFormula (and no_formulas) (field slots.Precondition ts) f
      → SpellsAction s (more t ts) (action s w (xs, e) f)

-- an initial network: `:parameters`, and the fields of a network
pub data SpellsHtn (s : Span) : Trees → Htn → Type 0 where
  an_htn : (ts : Trees) (xs : List Variable) (n : Network) → is_field_list htn_slots ts ≡ true
      → SpellsIfAny SpellsParameters [] (field slots.Parameters ts) xs → SpellsNetwork ts n
      → SpellsHtn s ts (htn s xs n)

-- a section of a domain at this place: the contents behind each keyword
pub data SpellsDomainSection : List ℕ → Span → Trees → DomainSection → Type 0 where
  requirements : (s : Span) (ts : Trees) (ws : List WordAt)
      → SpellEach (SpellsWord sorts.Keyword) ts ws
      → SpellsDomainSection (codes ":requirements") s ts (has_requirements ws)
  types : (s : Span) (ts : Trees) (xs : List Typed) → SpellsTyped ts xs
      → SpellsDomainSection (codes ":types") s ts (has_types xs)
  constants : (s : Span) (ts : Trees) (xs : List Typed) → SpellsTyped ts xs
      → SpellsDomainSection (codes ":constants") s ts (has_constants xs)
  predicates : (s : Span) (ts : Trees) (ps : List Predicate) → SpellEach SpellsPredicate ts ps
      → SpellsDomainSection (codes ":predicates") s ts (has_predicates ps)
  task_section : (s : Span) (ts : Trees) (t : Task) → SpellsTask s ts t
      → SpellsDomainSection (codes ":task") s ts (has_task t)
  method_section : (s : Span) (ts : Trees) (m : Method) → SpellsMethod s ts m
      → SpellsDomainSection (codes ":method") s ts (has_method m)
  action_section : (s : Span) (ts : Trees) (a : Action) → SpellsAction s ts a
      → SpellsDomainSection (codes ":action") s ts (has_action a)

-- a section of a problem at this place: the contents behind each keyword
pub data SpellsProblemSection : List ℕ → Span → Trees → ProblemSection → Type 0 where
  domain_name : (s : Span) (t : Tree) (w : WordAt) → SpellsWord sorts.Name t w
      → SpellsProblemSection (codes ":domain") s (more t none) (is_for w)
  problem_requirements : (s : Span) (ts : Trees) (ws : List WordAt)
      → SpellEach (SpellsWord sorts.Keyword) ts ws
      → SpellsProblemSection (codes ":requirements") s ts (problems.has_requirements ws)
  objects : (s : Span) (ts : Trees) (xs : List Typed) → SpellsTyped ts xs
      → SpellsProblemSection (codes ":objects") s ts (has_objects xs)
  htn_section : (s : Span) (ts : Trees) (h : Htn) → SpellsHtn s ts h
      → SpellsProblemSection (codes ":htn") s ts (has_htn h)
  init : (s : Span) (ts : Trees) (ls : List Literal) → SpellEach SpellsGround ts ls
      → SpellsProblemSection (codes ":init") s ts (has_init ls)
  goal : (s : Span) (t : Tree) (f : Formula) → SpellsFormula t f
      → SpellsProblemSection (codes ":goal") s (more t none) (has_goal f)

-- a section with this head may stand behind these: a head that may stand once has not stood before
pub data MayStand (standing : List ℕ → Standing) (before : List Tree) (w : List ℕ) : Type 0 where
  for_the_first_time : standing w ≡ standings.Once → occurs w before ≡ false
      → MayStand standing before w
  as_often_as_wanted : standing w ≡ standings.Often → MayStand standing before w

-- a section behind these
pub data SpellsSection {S : Type 0} (standing : List ℕ → Standing)
    (Spells : List ℕ → Span → Trees → S → Type 0) (before : List Tree) : Tree → S → Type 0 where
  a_section : (w : List ℕ) (p s : Span) (ts : Trees) (x : S) → MayStand standing before w
      → Spells w s ts x → SpellsSection standing Spells before (list (more (word w p) ts) s) x

-- sections one after another, where these stand before: each adds what it says to what is known
pub data SpellSections {S V : Type 0} (standing : List ℕ → Standing)
    (Spells : List ℕ → Span → Trees → S → Type 0) (add : V → S → V) : V → List Tree → Trees → V
    → Type 0 where
  no_sections : (v : V) (before : List Tree) → SpellSections standing Spells add v before none v
  more_sections : (v u : V) (before : List Tree) (t : Tree) (ts : Trees) (x : S)
      → SpellsSection standing Spells before t x
      → SpellSections standing Spells add (add v x) (before ++ t ∷ []) ts u
      → SpellSections standing Spells add v before (more t ts) u

-- `(define (kind name) section*)`, with its place
pub data SpellsDefine (kind : List ℕ) : Trees → WordAt → Trees → Span → Type 0 where
  a_definition : (d : List ℕ) (p : Span) (k : List ℕ) (q : Span) (t : Tree) (n : WordAt) (r : Span)
      (ts : Trees) (s : Span)
      → is d (codes "define") ≡ true → is k kind ≡ true → SpellsWord sorts.Name t n
      → SpellsDefine kind
      (more (list
      (more (word d p) (more (list (more (word k q) (more t none)) r) ts)) s) none) n ts s

-- a domain: `(define (domain name) section*)`
pub data IsDomain : Trees → Domain → Type 0 where
  a_domain : (es : Trees) (n : WordAt) (ts : Trees) (s : Span) (d : Domain)
      → SpellsDefine (codes "domain") es n ts s
      → SpellSections domain_standing SpellsDomainSection add_section (no_domain n) [] ts d
      → IsDomain es d

-- a problem: `(define (problem name) section*)`, with `:domain`, `:htn` and `:init`
-- among the sections
pub data IsProblem : Trees → Problem → Type 0 where
  a_problem : (es : Trees) (n : WordAt) (ts : Trees) (s : Span) (p : Parts) (m : WordAt) (h : Htn)
      (ls : List Literal) → SpellsDefine (codes "problem") es n ts s
      → SpellSections problem_standing SpellsProblemSection add_part no_parts [] ts p
      → p.domain ≡ Some m → p.htn ≡ Some h → p.init ≡ Some ls
      → IsProblem es
      (record {
        name = n;
        domain = m;
        requirements = p.requirements;
        objects = p.objects;
        htn = h;
        init = ls;
        goal = p.goal;
      })
