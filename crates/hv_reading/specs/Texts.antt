-- The domain or problem of a text, and the faults of texts.
use Rattle.std.specs.Prelude.{◌≢◌, ℕ, List}
use Rattle.hv_text.specs.Trees.{Trees}
use Rattle.hv_text.specs.Sexps.{AreExpressions, IsTextFault}
use Rattle.hv_text.specs.declared.span.Span.{Span}
use Rattle.hv_reading.specs.declared.fault.SyntaxKind.{SyntaxKind}
use Rattle.hv_reading.specs.declared.fault.SyntaxKind.TheVariants as kinds
use Rattle.hv_text.specs.declared.fault.TextKind.TheVariants as texts
use Rattle.hv_syntax.specs.Values.{Domain, Problem}
use Rattle.hv_reading.specs.Tables.{IsDomain, IsProblem}
use Rattle.hv_reading.specs.FirstFaults.{IsFaultyDomain, IsFaultyProblem}

-- a text has expressions, and they spell this value
abbrev pub IsSpelledBy : {V : Type 0} → (Trees → V → Type 0) → List ℕ → V → Type 0
IsSpelledBy Spells text v = (ts : Trees) × AreExpressions text ts × Spells ts v

-- the fault of a text: it has no expressions, or they are faulty; that memory ran out is said of a
-- text within the limit
abbrev pub IsFaultBy : (Trees → SyntaxKind → Span → Type 0) → List ℕ → SyntaxKind → Span → Type 0
IsFaultBy Faulty text (kinds.Text kind) s = IsTextFault text kind s
IsFaultBy Faulty text kind s = (ts : Trees) × AreExpressions text ts × Faulty ts kind s

-- the domain that a text says
abbrev pub IsDomainText : List ℕ → Domain → Type 0
IsDomainText text d = IsSpelledBy IsDomain text d

-- the fault of a text that says no domain
abbrev pub IsDomainFault : List ℕ → SyntaxKind → Span → Type 0
IsDomainFault text kind s = IsFaultBy IsFaultyDomain text kind s

-- the problem that a text says
abbrev pub IsProblemText : List ℕ → Problem → Type 0
IsProblemText text p = IsSpelledBy IsProblem text p

-- the fault of a text that says no problem
abbrev pub IsProblemFault : List ℕ → SyntaxKind → Span → Type 0
IsProblemFault text kind s = IsFaultBy IsFaultyProblem text kind s

-- a fault of the text itself: any but that memory ran out
abbrev pub IsOwnFaultBy : (List ℕ → SyntaxKind → Span → Type 0) → List ℕ → SyntaxKind → Span
    → Type 0
IsOwnFaultBy IsFault text kind s = (kind ≢ kinds.Text texts.Memory) × IsFault text kind s

-- a text says a value
abbrev pub SaysSome : {V : Type 0} → (List ℕ → V → Type 0) → List ℕ → Type 0
SaysSome {V = V} Says text = (v : V) × Says text v

-- a text has a fault of its own
abbrev pub HasFaultBy : (List ℕ → SyntaxKind → Span → Type 0) → List ℕ → Type 0
HasFaultBy IsFault text = (kind : SyntaxKind) × (s : Span) × IsOwnFaultBy IsFault text kind s
