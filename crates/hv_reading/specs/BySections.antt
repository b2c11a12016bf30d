-- Whole texts said a second time: by their sections alone, with no word of those that
-- stand before one.
use Rattle.std.specs.Prelude.{◌≡◌, ◌≢◌, ℕ, true, List, [], ◌∷◌, Option, Some, None, codes}
use Rattle.std.specs.List.{filter_map}
use Rattle.hv_text.specs.Trees.{Tree, word, list, Trees, more}
use Rattle.hv_text.specs.declared.span.Span.{Span}
use Rattle.hv_reading.specs.declared.section.Standing.{Standing}
use Rattle.hv_reading.specs.declared.section.Standing.TheVariants as standings
use Rattle.hv_syntax.specs.Values.{WordAt, Typed, Formula, Literal, Predicate, Task, Method, Action, Domain, Htn, Problem}
use Rattle.hv_reading.specs.Sections.{is_headed_by}
use Rattle.hv_syntax.specs.Domains.{DomainSection, has_requirements, has_types, has_constants, has_predicates, has_task, has_method, has_action}
use Rattle.hv_reading.specs.Standings.{domain_standing}
use Rattle.hv_syntax.specs.Problems.{ProblemSection, is_for, has_objects, has_htn, has_init, has_goal}
use Rattle.hv_reading.specs.Standings.{problem_standing}
use Rattle.hv_syntax.specs.Problems as problems
use Rattle.hv_reading.specs.Spellings.{SpellEach, join}
use Rattle.hv_reading.specs.Tables.{SpellsDefine, SpellsDomainSection, SpellsProblemSection}

-- a section, wherever it stands: a list that its keyword heads
pub data IsSection {S : Type 0} (Spells : List ℕ → Span → Trees → S → Type 0) : Tree → S
    → Type 0 where
  a_list : (w : List ℕ) (p s : Span) (ts : Trees) (x : S) → Spells w s ts x
      → IsSection Spells (list (more (word w p) ts) s) x

-- no two of these are headed by one word that may stand once
abbrev pub StandOnce : (List ℕ → Standing) → Trees → Type 0
StandOnce standing ts =
    (w : List ℕ) (before between behind : Trees) (t u : Tree)
    → ts ≡ join before (more t (join between (more u behind)))
    → is_headed_by w t ≡ true → is_headed_by w u ≡ true → standing w ≢ standings.Once

-- the first of two values that there may be, and else the second
abbrev pub or_else : {A : Type 0} → Option A → Option A → Option A
or_else None o = o
or_else (Some a) o = Some a

-- a value that there may be, and else this one
abbrev pub or_this : {A : Type 0} → A → Option A → A
or_this a None = a
or_this a (Some b) = b

-- what the section of a kind says, where one of these is of that kind; of several, the last
abbrev pub said : {S A : Type 0} → (S → Option A) → List S → Option A
said f [] = None
said f (x ∷ xs) = or_else (said f xs) (f x)

-- what a section of each kind says, and nothing of the others
abbrev pub of_requirements : DomainSection → Option (List WordAt)
of_requirements (has_requirements ws) = Some ws
of_requirements _ = None

abbrev pub of_types : DomainSection → Option (List Typed)
of_types (has_types vs) = Some vs
of_types _ = None

abbrev pub of_constants : DomainSection → Option (List Typed)
of_constants (has_constants vs) = Some vs
of_constants _ = None

abbrev pub of_predicates : DomainSection → Option (List Predicate)
of_predicates (has_predicates ps) = Some ps
of_predicates _ = None

abbrev pub of_task : DomainSection → Option Task
of_task (has_task t) = Some t
of_task _ = None

abbrev pub of_method : DomainSection → Option Method
of_method (has_method m) = Some m
of_method _ = None

abbrev pub of_action : DomainSection → Option Action
of_action (has_action a) = Some a
of_action _ = None

-- a domain is what its sections say: tasks, methods and actions in the order of the text
pub record SaysDomain (n : WordAt) (xs : List DomainSection) (d : Domain) : Type 0 where
  pub name : d.name ≡ n
  pub requirements : d.requirements ≡ or_this [] (said of_requirements xs)
  pub types : d.types ≡ or_this [] (said of_types xs)
  pub constants : d.constants ≡ or_this [] (said of_constants xs)
  pub predicates : d.predicates ≡ or_this [] (said of_predicates xs)
  pub tasks : d.tasks ≡ filter_map of_task xs
  pub methods : d.methods ≡ filter_map of_method xs
  pub actions : d.actions ≡ filter_map of_action xs

-- a domain: its list, whose members are sections, each once where it may stand once,
-- and what they say
pub data IsDomainBySections : Trees → Domain → Type 0 where
  domain_by_sections : (es : Trees) (n : WordAt) (ts : Trees) (s : Span) (xs : List DomainSection)
      (d : Domain) → SpellsDefine (codes "domain") es n ts s
      → SpellEach (IsSection SpellsDomainSection) ts xs → StandOnce domain_standing ts
      → SaysDomain n xs d
      → IsDomainBySections es d

-- what a section of each kind says, and nothing of the others
abbrev pub of_domain : ProblemSection → Option WordAt
of_domain (is_for n) = Some n
of_domain _ = None

abbrev pub of_keywords : ProblemSection → Option (List WordAt)
of_keywords (problems.has_requirements ws) = Some ws
of_keywords _ = None

abbrev pub of_objects : ProblemSection → Option (List Typed)
of_objects (has_objects vs) = Some vs
of_objects _ = None

abbrev pub of_htn : ProblemSection → Option Htn
of_htn (has_htn h) = Some h
of_htn _ = None

abbrev pub of_init : ProblemSection → Option (List Literal)
of_init (has_init ls) = Some ls
of_init _ = None

abbrev pub of_goal : ProblemSection → Option Formula
of_goal (has_goal f) = Some f
of_goal _ = None

-- a problem is what its sections say; `:domain`, `:htn` and `:init` are among them
pub record SaysProblem (n : WordAt) (xs : List ProblemSection) (p : Problem) : Type 0 where
  pub name : p.name ≡ n
  pub domain : said of_domain xs ≡ Some p.domain
  pub requirements : p.requirements ≡ or_this [] (said of_keywords xs)
  pub objects : p.objects ≡ or_this [] (said of_objects xs)
  pub htn : said of_htn xs ≡ Some p.htn
  pub init : said of_init xs ≡ Some p.init
  pub goal : p.goal ≡ said of_goal xs

-- a problem: its list, whose members are sections, each once where it may stand once,
-- and what they say
pub data IsProblemBySections : Trees → Problem → Type 0 where
  problem_by_sections : (es : Trees) (n : WordAt) (ts : Trees) (s : Span) (xs : List ProblemSection)
      (p : Problem) → SpellsDefine (codes "problem") es n ts s
      → SpellEach (IsSection SpellsProblemSection) ts xs → StandOnce problem_standing ts
      → SaysProblem n xs p
      → IsProblemBySections es p
