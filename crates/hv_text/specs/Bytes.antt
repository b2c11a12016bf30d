-- What the bytes of a text are, and what a name means.
use Rattle.std.specs.Prelude.{◌==◌, ◌&&◌, ◌||◌, ◌-◌, ◌*◌, ◌/◌, ℕ, Bool, false, not, List, [], ◌∷◌, ◌++◌, nat_le, map, length, drop, replicate, slice_range}
use Rattle.std.specs.List.{list_all}
use Rattle.std.specs.Char.{to_ascii_lowercase}
use Rattle.std.specs.Hash.{HashWrites}
use Rattle.std.specs.Simd.{first_chunks}
use Rattle.hv_text.specs.declared.span.Span.{Span}

-- white space: 9 to 13, and 32
abbrev pub is_blank : ℕ → Bool
is_blank b = (nat_le 9 b && nat_le b 13) || b == 32

-- a byte of a word: 33 to 126, but no parenthesis and no semicolon
abbrev pub is_word_byte : ℕ → Bool
is_word_byte b = nat_le 33 b && nat_le b 126 && not (b == 40) && not (b == 41) && not (b == 59)

-- a byte that may stand in comments alone
abbrev pub is_bad_byte : ℕ → Bool
is_bad_byte b =
    not (is_blank b) && not (is_word_byte b) && not (b == 40) && not (b == 41) && not (b == 59)

-- the bytes of a word: one or more
abbrev pub is_word : List ℕ → Bool
is_word [] = false
is_word (b ∷ bs) = is_word_byte b && list_all is_word_byte bs

-- what a name means: its bytes in lower case
abbrev pub lower : List ℕ → List ℕ
lower bs = map to_ascii_lowercase bs

-- fewer bytes than eight, and zeros behind them
abbrev pub filled : List ℕ → List ℕ
filled bs = bs ++ replicate (8 - length bs) 0

-- bytes, eight by eight; the last word is filled, and so has a zero, which no name has
abbrev pub words_of : List ℕ → HashWrites
words_of bs = first_chunks 8 (length bs / 8) bs ++ filled (drop (length bs / 8 * 8) bs) ∷ []

-- the bytes that a text has at a place
abbrev pub bytes_at : List ℕ → Span → List ℕ
bytes_at text s = slice_range text s.start s.past
