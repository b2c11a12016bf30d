-- How the code reads: sections: their heads, the list that holds them, and the first fault.
use Rattle.std.specs.Prelude.{ℕ, Bool, List, [], ◌∷◌, ◌++◌, Option, Some, None, Result, Ok, Err, codes, option_map, option_and_then, if◌then◌else◌}
use Rattle.hv_text.specs.Trees.{Tree, word, list, Trees, none, more, place_of}
use Rattle.hv_text.specs.declared.span.Span.{Span}
use Rattle.hv_reading.specs.declared.section.Standing.{Standing}
use Rattle.hv_reading.specs.declared.section.Standing.TheVariants as standings
use Rattle.hv_reading.specs.declared.fault.SyntaxKind.{SyntaxKind}
use Rattle.hv_reading.specs.declared.fault.SyntaxKind.TheVariants as kinds
use Rattle.hv_reading.specs.declared.word.Sort.TheVariants as sorts
use Rattle.hv_reading.specs.Words.{is_the_word}
use Rattle.hv_reading.specs.inside.Words.{sorted_word_of}
use Rattle.hv_reading.specs.inside.Reading.{only}
use Rattle.hv_syntax.specs.Values.{WordAt}
use Rattle.hv_reading.specs.Unsupported.{has_unsupported}
use Rattle.hv_reading.specs.Sections.{headed, occurs}

-- what is wrong with a section for its head, where `repeated` says that one of its head stands
-- before it
abbrev pub refused : Standing → Bool → Option SyntaxKind
refused standings.Unknown repeated = Some kinds.UnknownSection
refused standings.Unsupported repeated = Some kinds.Unsupported
refused standings.Often repeated = None
refused standings.Once repeated = if repeated then Some kinds.RepeatedSection else None

-- exactly one name
abbrev pub one_name : Trees → Option WordAt
one_name ts = option_and_then (sorted_word_of sorts.Name) (only ts)

-- a keyword
abbrev pub keyword_of : Tree → Option WordAt
keyword_of t = sorted_word_of sorts.Keyword t

-- the name of `(v name)`
abbrev pub title_of : List ℕ → Tree → Option WordAt
title_of v (word w s) = None
title_of v (list none s) = None
title_of v (list (more t ts) s) = if is_the_word v t then one_name ts else None

-- a name, with the sections and the place beside it
abbrev pub defined_with : Trees → Span → WordAt → WordAt × Trees × Span
defined_with ts s n = (n, ts, s)

-- the name and the sections of `(define (v name) section*)`, with the place of that list
abbrev pub define_form : List ℕ → Tree → Option (WordAt × Trees × Span)
define_form v (word w s) = None
define_form v (list none s) = None
define_form v (list (more d none) s) = None
define_form v (list (more d (more t ts)) s) =
    if is_the_word (codes "define") d then option_map (defined_with ts s) (title_of v t) else None

-- those of a text, which is exactly one such list
abbrev pub sections_of : List ℕ → Trees → Option (WordAt × Trees × Span)
sections_of v ts = option_and_then (define_form v) (only ts)

-- a section that is no spelling, where `odd` says that it holds an unsupported form:
-- 15, and else 14
abbrev pub unspelled : Bool → SyntaxKind
unspelled odd = if odd then kinds.Unsupported else kinds.BadShape

-- what a section is, or its fault: 11, and 15 for a head, come first, then 12, then 14, and 15 for
-- what it holds
abbrev pub judged : {S : Type 0} → Option SyntaxKind → Bool → Option S → Result S SyntaxKind
judged (Some kind) odd spelled = Err kind
judged None odd None = Err (unspelled odd)
judged None odd (Some s) = Ok s

-- a section of a kind of text, by the standing of heads in it and what the members behind a head,
-- at the section's place, spell
abbrev pub section_by : {S : Type 0} → (List ℕ → Standing) → (List ℕ → Span → Trees → Option S)
    → List Tree → Span → Option (List ℕ × Trees) → Result S SyntaxKind
section_by standing spelled before place None = Err kinds.UnknownSection
section_by standing spelled before place (Some (w, ts)) =
    judged (refused (standing w) (occurs w before)) (has_unsupported w ts) (spelled w place ts)

-- an answer with the place of its fault
abbrev pub at_place : {A : Type 0} → Span → Result A SyntaxKind → Result A (SyntaxKind × Span)
at_place s (Ok a) = Ok a
at_place s (Err kind) = Err (kind, s)

-- the section that an expression is, where these stand before it, or what is wrong with it
abbrev pub section_of : {S : Type 0} → (List ℕ → Standing) → (List ℕ → Span → Trees → Option S)
    → List Tree → Tree → Result S (SyntaxKind × Span)
section_of standing spelled before t =
    at_place (place_of t) (section_by standing spelled before (place_of t) (headed t))

-- go on with the value, or stop at the fault
infixl 10 ◌>>=◌
abbrev pub ◌>>=◌ : {A B : Type 0} → Result A (SyntaxKind × Span)
    → (A → Result B (SyntaxKind × Span)) → Result B (SyntaxKind × Span)
(Ok x) >>= f = f x
(Err e) >>= f = Err e

-- the sections one after another, each added to what is known, up to the first fault
abbrev pub sections_from : {V S : Type 0} → (List Tree → Tree → Result S (SyntaxKind × Span))
    → (V → S → V) → V → List Tree → Trees → Result V (SyntaxKind × Span)
sections_from section add v before none = Ok v
sections_from section add v before (more t ts) =
    section before t >>= (λ s. sections_from section add (add v s) (before ++ t ∷ []) ts)
