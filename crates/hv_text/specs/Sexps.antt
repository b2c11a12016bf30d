-- The expressions of a text, and its faults.
use Rattle.std.specs.Prelude.{◌≡◌, ◌≢◌, ◌==◌, ◌+◌, ◌-◌, ◌++◌, ◌<◌, ◌≤◌, ℕ, Bool, true, false, List, [], ◌∷◌, length, take, Option, None, Some, count_by, slice_get, if◌then◌else◌}
use Rattle.hv_text.specs.Trees.{Tree, Trees, word, list, none, more}
use Rattle.hv_text.specs.Words as found
use Rattle.hv_text.specs.Words.{Piece, left, right, bad, pieces, nowhere}
use Rattle.hv_text.specs.declared.span.Span.{Span}
use Rattle.hv_text.specs.declared.fault.TextKind.{TextKind}
use Rattle.hv_text.specs.declared.fault.TextKind.TheVariants as kinds
use Rattle.hv_text.specs.declared.fault.TheConstants.{MOST_BYTES, MOST_OPEN}

-- the place of the parenthesis that begins a list
abbrev pub opening : Span → Span
opening s = record { start = s.start; past = s.start + 1 }

-- the place of the parenthesis that ends a list
abbrev pub closing : Span → Span
closing s = record { start = s.past - 1; past = s.past }

abbrev mutual
  -- what an expression spells: a word itself, a list a parenthesis, its members in order,
  -- and a parenthesis
  pub spelled : Tree → List Piece
  spelled (word w s) = found.word w s ∷ []
  spelled (list ts s) = left (opening s) ∷ spelled_all ts ++ right (closing s) ∷ []

  pub spelled_all : Trees → List Piece
  spelled_all none = []
  spelled_all (more t ts) = spelled t ++ spelled_all ts

-- a `(`
abbrev pub is_left : Piece → Bool
is_left (left s) = true
is_left (right s) = false
is_left (found.word t s) = false
is_left (bad s) = false

-- a `)`
abbrev pub is_right : Piece → Bool
is_right (right s) = true
is_right (left s) = false
is_right (found.word t s) = false
is_right (bad s) = false

-- how many parentheses are open before the k-th piece
abbrev pub open_before : List Piece → ℕ → ℕ
open_before ps k = count_by is_left (take k ps) - count_by is_right (take k ps)

-- the fault of a piece before which so many parentheses are open: a bad byte, a `)` where none is
-- open, or a `(` where as many as may be are
abbrev pub fault_of : Option Piece → ℕ → Option (TextKind × Span)
fault_of None n = None
fault_of (Some (found.word t s)) n = None
fault_of (Some (bad s)) n = Some (kinds.BadByte, s)
fault_of (Some (right s)) n = if n == 0 then Some (kinds.Unopened, s) else None
fault_of (Some (left s)) n = if n == MOST_OPEN then Some (kinds.TooDeep, s) else None

-- the fault that stands at the k-th piece, if one does
abbrev pub fault_at : List Piece → ℕ → Option (TextKind × Span)
fault_at ps k = fault_of (slice_get ps k) (open_before ps k)

-- no fault stands anywhere, what is open at the end aside
abbrev pub IsSound : List Piece → Type 0
IsSound ps = (k : ℕ) → fault_at ps k ≡ None

-- the first fault
abbrev pub IsFirstFault : List Piece → TextKind → Span → Type 0
IsFirstFault ps kind s = (k : ℕ) × (fault_at ps k ≡ Some (kind, s))
    × ((j : ℕ) → j < k → fault_at ps j ≡ None)

-- the k-th piece is a `(` whose balance is passed by that of every later place up to the end
abbrev pub StaysOpen : List Piece → ℕ → Span → Type 0
StaysOpen ps k s = (slice_get ps k ≡ Some (left s))
    × ((j : ℕ) → k < j → j ≤ length ps → open_before ps k < open_before ps j)

-- the last `(` that stays open
abbrev pub IsUnclosed : List Piece → Span → Type 0
IsUnclosed ps s = (k : ℕ) × StaysOpen ps k s × ((m : ℕ) (t : Span) → k < m → StaysOpen ps m t → ⊥)

-- these are the expressions of a text: it is within the limit, no fault stands in it, no
-- parenthesis is open at its end, and they spell what stands in it
pub record AreExpressions (text : List ℕ) (ts : Trees) : Type 0 where
  pub size : length text ≤ MOST_BYTES
  pub sound : IsSound (pieces text)
  pub closed : open_before (pieces text) (length (pieces text)) ≡ 0
  pub spelled : spelled_all ts ≡ pieces text

-- this is the fault of a text, at its place
abbrev pub IsTextFault : List ℕ → TextKind → Span → Type 0
IsTextFault text kinds.TooLong s = (MOST_BYTES < length text) × (s ≡ nowhere)
IsTextFault text kinds.Memory s = (length text ≤ MOST_BYTES) × (s ≡ nowhere)
IsTextFault text kinds.BadByte s = (length text ≤ MOST_BYTES)
    × IsFirstFault (pieces text) kinds.BadByte s
IsTextFault text kinds.Unopened s = (length text ≤ MOST_BYTES)
    × IsFirstFault (pieces text) kinds.Unopened s
IsTextFault text kinds.TooDeep s = (length text ≤ MOST_BYTES)
    × IsFirstFault (pieces text) kinds.TooDeep s
IsTextFault text kinds.Unclosed s = (length text ≤ MOST_BYTES) × IsSound (pieces text)
    × IsUnclosed (pieces text) s

-- a text has expressions
abbrev pub HasExpressions : List ℕ → Type 0
HasExpressions text = (ts : Trees) × AreExpressions text ts

-- this is a fault of the text itself: any but that memory ran out
abbrev pub IsOwnFault : List ℕ → TextKind → Span → Type 0
IsOwnFault text kind s = (kind ≢ kinds.Memory) × IsTextFault text kind s

-- a text has a fault of its own
abbrev pub HasOwnFault : List ℕ → Type 0
HasOwnFault text = (kind : TextKind) × (s : Span) × IsOwnFault text kind s
