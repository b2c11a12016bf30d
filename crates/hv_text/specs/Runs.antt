-- The words of a text by the places of its bytes, for the laws above `pieces`.
use Rattle.std.specs.Prelude.{◌≡◌, ◌+◌, ◌<◌, ◌≤◌, ℕ, Bool, true, false, List, [], ◌∷◌, Some, length, slice_get, slice_range}
use Rattle.std.proofs.Common.{get_or}
use Rattle.hv_text.specs.Bytes.{is_word_byte, is_bad_byte, lower}
use Rattle.hv_text.specs.Words.{Piece, word, left, right, bad, uncommented}
use Rattle.hv_text.specs.declared.span.Span.{Span}

-- place k is in a comment: a `;` stands at or before it on its line, and it is no line end itself
pub record IsInComment (text : List ℕ) (k : ℕ) : Type 0 where
  pub start : ℕ
  pub before : start ≤ k
  pub within : k < length text
  pub semicolon : slice_get text start ≡ Some 59
  pub same_line : (j : ℕ) → start ≤ j → j ≤ k → ¬ (slice_get text j ≡ Some 10)

-- a byte of a word stands at place k; none stands at or past the end
abbrev pub word_byte_at : List ℕ → ℕ → Bool
word_byte_at bytes k = is_word_byte (get_or bytes k 32)

-- the bytes of a span are a maximal run: one or more bytes of a word, with none directly before or
-- behind them
pub record IsRun (bytes : List ℕ) (s : Span) : Type 0 where
  pub some : s.start < s.past
  pub inside : (k : ℕ) → s.start ≤ k → k < s.past → word_byte_at bytes k ≡ true
  pub before : (k : ℕ) → k + 1 ≡ s.start → word_byte_at bytes k ≡ false
  pub behind : word_byte_at bytes s.past ≡ false

-- the span is one byte, and it is this one
abbrev pub IsByte : List ℕ → Span → ℕ → Type 0
IsByte bytes s b = (s.past ≡ s.start + 1) × (slice_get bytes s.start ≡ Some b)

-- what stands among bytes without comments: a maximal run by its lower case, a
-- parenthesis, a bad byte
abbrev pub IsAmong : List ℕ → Piece → Type 0
IsAmong bytes (word w s) = IsRun bytes s × (w ≡ lower (slice_range bytes s.start s.past))
IsAmong bytes (left s) = IsByte bytes s 40
IsAmong bytes (right s) = IsByte bytes s 41
IsAmong bytes (bad s) = (b : ℕ) × IsByte bytes s b × (is_bad_byte b ≡ true)

-- what stands in a text, outside its comments
abbrev pub StandsIn : List ℕ → Piece → Type 0
StandsIn text p = IsAmong (uncommented false text) p

-- the place of what stands in a text
abbrev pub span_of : Piece → Span
span_of (word w s) = s
span_of (left s) = s
span_of (right s) = s
span_of (bad s) = s

-- each of them is one byte or more, and begins no earlier than the one before it ends, the first no
-- earlier than n
abbrev pub IsInOrder : ℕ → List Piece → Type 0
IsInOrder n [] = Unit {0}
IsInOrder n (p ∷ ps) = (n ≤ (span_of p).start) × ((span_of p).start < (span_of p).past)
    × IsInOrder (span_of p).past ps

-- a span has place k in it
abbrev pub Holds : Span → ℕ → Type 0
Holds s k = (s.start ≤ k) × (k < s.past)

-- exactly one of them has place k in it
pub record IsHeldOnce (ps : List Piece) (k : ℕ) : Type 0 where
  pub index : ℕ
  pub piece : Piece
  pub is_there : slice_get ps index ≡ Some piece
  pub holds : Holds (span_of piece) k
  pub only : (j : ℕ) (p : Piece) → slice_get ps j ≡ Some p → Holds (span_of p) k → j ≡ index
