-- How the code reads: what the readers of domains and problems answer.
use Rattle.std.specs.Prelude.{◌≡◌, Bool, Result, Ok, Err}
use Rattle.hv_text.specs.declared.span.Span.{Span}
use Rattle.hv_text.specs.declared.fault.TextKind.TheVariants as texts
use Rattle.hv_reading.specs.declared.refusal.Refusal.{Refusal}
use Rattle.hv_reading.specs.declared.refusal.Refusal.TheVariants as refusals
use Rattle.hv_reading.specs.declared.fault.SyntaxKind.{SyntaxKind}
use Rattle.hv_reading.specs.declared.fault.SyntaxKind.TheVariants as kinds
use Rattle.hv_reading.specs.declared.fault.SyntaxFault.{SyntaxFault}
use Rattle.hv_reading.specs.Sections.{at_start}
use Rattle.hv_reading.specs.inside.Sections.{unspelled}

-- that memory ran out
abbrev pub memory : SyntaxKind
memory = kinds.Text texts.Memory

-- the fault of a text for which memory ran out, which has no place
abbrev pub IsMemory : SyntaxFault → Type 0
IsMemory f = (f.kind ≡ memory) × (f.span ≡ at_start)

-- P for a fault of expressions; no claim but its place where memory ran out, and no fault of a text
-- without expressions
abbrev pub OfExpressions : SyntaxKind → Span → Type 0 → Type 0
OfExpressions (kinds.Text texts.Memory) s P = s ≡ at_start
OfExpressions (kinds.Text _) s P = ⊥
OfExpressions _ s P = P

-- what a reader answers, seen by view, is this value or this fault at its place, unless
-- memory ran out
abbrev pub Answers : {X Y : Type 0} → (X → Y) → Result X SyntaxFault → Result Y (SyntaxKind × Span)
    → Type 0
Answers view (Ok x) r = r ≡ Ok (view x)
Answers view (Err f) r = OfExpressions f.kind f.span (r ≡ Err (f.kind, f.span))

-- the fault of a section that is not read, at its place
abbrev pub IsUnread : Refusal → Bool → Span → SyntaxFault → Type 0
IsUnread refusals.Memory odd s f = IsMemory f
IsUnread refusals.NoSpelling odd s f = (f.kind ≡ unspelled odd) × (f.span ≡ s)
