-- The words of a text, each with its place.
use Rattle.std.specs.Prelude.{◌≡◌, ◌==◌, ◌&&◌, ◌||◌, ◌+◌, ◌++◌, ◌<◌, ◌≤◌, ℕ, Bool, true, false, not, List, [], ◌∷◌, length, drop, Option, None, Some, if◌then◌else◌}
use Rattle.std.specs.List.{take_while, prefix_len}
use Rattle.std.specs.Char.{to_ascii_lowercase}
use Rattle.hv_text.specs.Bytes.{is_blank, is_word_byte, lower}
use Rattle.hv_text.specs.Names.{text_of}
use Rattle.hv_text.specs.declared.span.Span.{Span}
use Rattle.hv_text.specs.declared.fault.TextKind.{TextKind}
use Rattle.hv_text.specs.declared.fault.TextKind.TheVariants as kinds
use Rattle.hv_text.specs.declared.words.Class.{Class}
use Rattle.hv_text.specs.declared.words.Class.TheVariants.{Blank, Semicolon, Left, Right, Inner, Bad}
use Rattle.hv_text.specs.declared.words.Word.{Word}
use Rattle.hv_text.specs.declared.words.Word.TheVariants as words
use Rattle.hv_text.specs.declared.words.Found.{Found}
use Rattle.hv_text.specs.declared.fault.TextFault.{TextFault}
use Rattle.hv_text.specs.declared.fault.TheConstants.{MOST_BYTES}

-- what a byte outside comments is
abbrev pub class_of : ℕ → Class
class_of b =
    if b == 40 then Left else if b == 41 then Right else if b == 59 then Semicolon else
    if is_blank b then Blank else if is_word_byte b then Inner else Bad

-- whether a byte is in a comment, where `before` says it of the byte before it: from a semicolon
-- on, up to a byte 10
abbrev pub in_comment : Bool → ℕ → Bool
in_comment before b = not (b == 10) && (before || b == 59)

-- the text with each byte of a comment as a blank
abbrev pub uncommented : Bool → List ℕ → List ℕ
uncommented before [] = []
uncommented before (b ∷ bs) =
    (if in_comment before b then 32 else b) ∷ uncommented (in_comment before b) bs

-- what stands in a text: a word by its lower case, a parenthesis or a bad byte, each with its place
pub data Piece : Type 0 where
  word : List ℕ → Span → Piece
  left : Span → Piece
  right : Span → Piece
  bad : Span → Piece

-- n bytes from place p on
abbrev pub span : ℕ → ℕ → Span
span p n = record { start = p; past = p + n }

-- what begins at place p, where the bytes from there on are bs: a word begins where no word byte
-- stands before it, and goes on as long as word bytes do
abbrev pub beginning : Class → Bool → ℕ → List ℕ → List Piece
beginning Inner true p bs = []
beginning Inner false p bs =
    word (lower (take_while is_word_byte bs)) (span p (prefix_len is_word_byte bs)) ∷ []
beginning Left after p bs = left (span p 1) ∷ []
beginning Right after p bs = right (span p 1) ∷ []
beginning Bad after p bs = bad (span p 1) ∷ []
beginning Blank after p bs = []
beginning Semicolon after p bs = []

-- what stands in a text without comments from place p on, where `after` says that a word byte
-- stands before it
abbrev pub pieces_from : Bool → ℕ → List ℕ → List Piece
pieces_from after p [] = []
pieces_from after p (b ∷ bs) =
    beginning (class_of b) after p (b ∷ bs) ++ pieces_from (is_word_byte b) (p + 1) bs

-- what stands in a text from place i on, which is in no comment and no word
abbrev pub pieces_at : List ℕ → ℕ → List Piece
pieces_at text i = pieces_from false i (uncommented false (drop i text))

-- what stands in a text
abbrev pub pieces : List ℕ → List Piece
pieces text = pieces_from false 0 (uncommented false text)

-- the byte with which a text begins, in lower case, where it is one of a word
abbrev pub first_letter : List ℕ → Option ℕ
first_letter [] = None
first_letter (b ∷ bs) = if is_word_byte b then Some (to_ascii_lowercase b) else None

-- a word stands first, and this is its first byte
abbrev pub BeginsBy : ℕ → List Piece → Type 0
BeginsBy a (word (b ∷ bs) s ∷ ps) = a ≡ b
BeginsBy a (word [] s ∷ ps) = ⊥
BeginsBy a (left s ∷ ps) = ⊥
BeginsBy a (right s ∷ ps) = ⊥
BeginsBy a (bad s ∷ ps) = ⊥
BeginsBy a [] = ⊥

-- what a word of the code stands for
abbrev pub piece_of : Word → Piece
piece_of (words.Name n s) = word (text_of n) s
piece_of (words.Left s) = left s
piece_of (words.Right s) = right s

-- a parenthesis is one byte
abbrev pub IsPlaced : Word → Type 0
IsPlaced (words.Name n s) = Unit {0}
IsPlaced (words.Left s) = s.past ≡ s.start + 1
IsPlaced (words.Right s) = s.past ≡ s.start + 1

-- what comes next from place i on, and where to go on
abbrev pub IsNext : List ℕ → ℕ → Option Found → Type 0
IsNext text i (Some found) =
    (i < found.past) × (found.past ≤ length text) × IsPlaced found.word
    × (pieces_at text i ≡ piece_of found.word ∷ pieces_at text found.past)
IsNext text i None = pieces_at text i ≡ []

-- a bad byte comes next from place i on
abbrev pub IsBadNext : List ℕ → ℕ → TextFault → Type 0
IsBadNext text i f = (f.kind ≡ kinds.BadByte)
    × (pieces_at text i ≡ bad f.span ∷ pieces_at text f.span.past)

-- the first bad byte among what stands in a text
abbrev pub first_bad : List Piece → Option Span
first_bad [] = None
first_bad (bad s ∷ ps) = Some s
first_bad (word t s ∷ ps) = first_bad ps
first_bad (left s ∷ ps) = first_bad ps
first_bad (right s ∷ ps) = first_bad ps

-- the place of a fault that has none
abbrev pub nowhere : Span
nowhere = record { start = 0; past = 0 }

-- the words of a text: it is no longer than the limit, and no bad byte stands in it
pub record AreWords (text : List ℕ) (words : List Piece) : Type 0 where
  pub size : length text ≤ MOST_BYTES
  pub sound : first_bad (pieces text) ≡ None
  pub all : words ≡ pieces text

-- the fault of a text that is read as words
abbrev pub IsWordFault : List ℕ → TextKind → Span → Type 0
IsWordFault text kinds.TooLong s = (MOST_BYTES < length text) × (s ≡ nowhere)
IsWordFault text kinds.Memory s = (length text ≤ MOST_BYTES) × (s ≡ nowhere)
IsWordFault text kinds.BadByte s = (length text ≤ MOST_BYTES) × (first_bad (pieces text) ≡ Some s)
IsWordFault text kinds.Unclosed s = ⊥
IsWordFault text kinds.Unopened s = ⊥
IsWordFault text kinds.TooDeep s = ⊥
