-- The first fault of a text that is no domain or no problem, row by row.
use Rattle.std.specs.Prelude.{◌≡◌, ℕ, true, false, List, [], ◌∷◌, ◌++◌, Some, None, codes}
use Rattle.hv_text.specs.Trees.{Tree, Trees, more, place_of}
use Rattle.hv_text.specs.declared.span.Span.{Span}
use Rattle.hv_reading.specs.declared.section.Standing.{Standing}
use Rattle.hv_reading.specs.declared.section.Standing.TheVariants as standings
use Rattle.hv_reading.specs.declared.fault.SyntaxKind.{SyntaxKind}
use Rattle.hv_reading.specs.declared.fault.SyntaxKind.TheVariants as kinds
use Rattle.hv_syntax.specs.Values.{WordAt}
use Rattle.hv_reading.specs.Unsupported.{has_unsupported}
use Rattle.hv_reading.specs.Sections.{headed, occurs, at_start}
use Rattle.hv_reading.specs.Standings.{domain_standing}
use Rattle.hv_syntax.specs.Problems.{Parts, no_parts, add_part}
use Rattle.hv_reading.specs.Standings.{problem_standing}
use Rattle.hv_reading.specs.Tables.{SpellsDomainSection, SpellsProblemSection, MayStand, SpellsSection, SpellSections, SpellsDefine}

-- what is wrong with a section behind these: its head comes first, then that it stands a second
-- time, then what it holds
pub data IsSectionFault {S : Type 0} (standing : List ℕ → Standing)
    (Spells : List ℕ → Span → Trees → S → Type 0) (before : List Tree) : Tree → SyntaxKind
    → Type 0 where
  no_head : (t : Tree) → headed t ≡ None
      → IsSectionFault standing Spells before t kinds.UnknownSection
  unknown_head : (t : Tree) (w : List ℕ) (ts : Trees) → headed t ≡ Some (w, ts)
      → standing w ≡ standings.Unknown
      → IsSectionFault standing Spells before t kinds.UnknownSection
  unsupported_head : (t : Tree) (w : List ℕ) (ts : Trees) → headed t ≡ Some (w, ts)
      → standing w ≡ standings.Unsupported
      → IsSectionFault standing Spells before t kinds.Unsupported
  a_second_time : (t : Tree) (w : List ℕ) (ts : Trees) → headed t ≡ Some (w, ts)
      → standing w ≡ standings.Once → occurs w before ≡ true
      → IsSectionFault standing Spells before t kinds.RepeatedSection
  unsupported_inside : (t : Tree) (w : List ℕ) (ts : Trees) → headed t ≡ Some (w, ts)
      → MayStand standing before w → ((x : S) → Spells w (place_of t) ts x → ⊥)
      → has_unsupported w ts ≡ true → IsSectionFault standing Spells before t kinds.Unsupported
  no_spelling : (t : Tree) (w : List ℕ) (ts : Trees) → headed t ≡ Some (w, ts)
      → MayStand standing before w → ((x : S) → Spells w (place_of t) ts x → ⊥)
      → has_unsupported w ts ≡ false → IsSectionFault standing Spells before t kinds.BadShape

-- the first faulty one of these sections, where those stand before them, and its place
pub data IsFirstFault {S : Type 0} (standing : List ℕ → Standing)
    (Spells : List ℕ → Span → Trees → S → Type 0) : List Tree → Trees → SyntaxKind → Span
    → Type 0 where
  it_is_here : (before : List Tree) (t : Tree) (ts : Trees) (kind : SyntaxKind)
      → IsSectionFault standing Spells before t kind
      → IsFirstFault standing Spells before (more t ts) kind (place_of t)
  it_comes_later : (before : List Tree) (t : Tree) (ts : Trees) (x : S) (kind : SyntaxKind)
      (s : Span) → SpellsSection standing Spells before t x
      → IsFirstFault standing Spells (before ++ t ∷ []) ts kind s
      → IsFirstFault standing Spells before (more t ts) kind s

-- the fault of expressions that are no domain: they are not one list that begins with `define` and
-- its title, or its first faulty section
pub data IsFaultyDomain : Trees → SyntaxKind → Span → Type 0 where
  no_definition : (es : Trees)
      → ((n : WordAt) (ts : Trees) (s : Span) → SpellsDefine (codes "domain") es n ts s → ⊥)
      → IsFaultyDomain es kinds.NotDefine at_start
  faulty_section : (es : Trees) (n : WordAt) (ts : Trees) (s : Span) (kind : SyntaxKind) (p : Span)
      → SpellsDefine (codes "domain") es n ts s
      → IsFirstFault domain_standing SpellsDomainSection [] ts kind p → IsFaultyDomain es kind p

-- a section that a problem must have is not among these parts
pub data Lacks (p : Parts) : Type 0 where
  domain_lacks : p.domain ≡ None → Lacks p
  htn_lacks : p.htn ≡ None → Lacks p
  init_lacks : p.init ≡ None → Lacks p

-- the fault of expressions that are no problem: as of a domain, and, only where no section is
-- faulty, that one is missing
pub data IsFaultyProblem : Trees → SyntaxKind → Span → Type 0 where
  no_definition_of_it : (es : Trees)
      → ((n : WordAt) (ts : Trees) (s : Span) → SpellsDefine (codes "problem") es n ts s → ⊥)
      → IsFaultyProblem es kinds.NotDefine at_start
  a_faulty_section : (es : Trees) (n : WordAt) (ts : Trees) (s : Span) (kind : SyntaxKind)
      (p : Span) → SpellsDefine (codes "problem") es n ts s
      → IsFirstFault problem_standing SpellsProblemSection [] ts kind p → IsFaultyProblem es kind p
  a_missing_section : (es : Trees) (n : WordAt) (ts : Trees) (s : Span) (p : Parts)
      → SpellsDefine (codes "problem") es n ts s
      → SpellSections problem_standing SpellsProblemSection add_part no_parts [] ts p → Lacks p
      → IsFaultyProblem es kinds.MissingSection s
