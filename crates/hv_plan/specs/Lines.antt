-- The lines of a plan's text, and the markers between which the plan stands.
use Rattle.std.specs.Prelude.{◌==◌, ◌+◌, ℕ, Bool, false, List, [], ◌∷◌, codes, if◌then◌else◌}
use Rattle.std.specs.Str.{bytes_eq}
use Rattle.std.specs.List.{list_any}
use Rattle.hv_text.specs.Words.{Piece, word, left, right, bad, pieces}

-- a line, with its number in the text
pub record NumberedLine : Type 0 where
  pub number : ℕ
  pub bytes : List ℕ

-- a byte at the front of the first line
abbrev pub with_byte : ℕ → List (List ℕ) → List (List ℕ)
with_byte b [] = (b ∷ []) ∷ []
with_byte b (l ∷ ls) = (b ∷ l) ∷ ls

-- the lines of a text: each ends at a byte 10, and the last may have none
abbrev pub lines : List ℕ → List (List ℕ)
lines [] = []
lines (b ∷ bs) = if b == 10 then [] ∷ lines bs else with_byte b (lines bs)

-- lines with their numbers, where the first has number n
abbrev pub numbered : ℕ → List (List ℕ) → List NumberedLine
numbered n [] = []
numbered n (l ∷ ls) = record { number = n; bytes = l } ∷ numbered (n + 1) ls

-- the lines of a text, counted from 1
abbrev pub lines_of : List ℕ → List NumberedLine
lines_of text = numbered 1 (lines text)

-- whether one word stands in a line, comments aside, and it is this marker
abbrev pub is_only : List ℕ → List Piece → Bool
is_only marker [] = false
is_only marker (word w s ∷ []) = bytes_eq w marker
is_only marker (word w s ∷ p ∷ ps) = false
is_only marker (left s ∷ ps) = false
is_only marker (right s ∷ ps) = false
is_only marker (bad s ∷ ps) = false

abbrev pub is_marker : List ℕ → NumberedLine → Bool
is_marker marker l = is_only marker (pieces l.bytes)

abbrev pub is_start : NumberedLine → Bool
is_start l = is_marker (codes "==>") l

abbrev pub is_end : NumberedLine → Bool
is_end l = is_marker (codes "<==") l

-- the lines behind the first start marker
abbrev pub behind_start : List NumberedLine → List NumberedLine
behind_start [] = []
behind_start (l ∷ ls) = if is_start l then ls else behind_start ls

-- the lines before the first end marker
abbrev pub before_end : List NumberedLine → List NumberedLine
before_end [] = []
before_end (l ∷ ls) = if is_end l then [] else l ∷ before_end ls

-- whether a text has a start marker, and an end marker behind the first one
abbrev pub has_start : List ℕ → Bool
has_start text = list_any is_start (lines_of text)

abbrev pub has_end : List ℕ → Bool
has_end text = list_any is_end (behind_start (lines_of text))

-- the lines between the markers
abbrev pub between : List ℕ → List NumberedLine
between text = before_end (behind_start (lines_of text))
