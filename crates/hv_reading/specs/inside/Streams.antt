-- How the code reads: sections that are read one at a time: what stands behind each, and the heads
-- of those before it.
use Rattle.std.specs.Prelude.{◌≡◌, ◌||◌, ℕ, Bool, true, false, List, [], ◌∷◌, ◌++◌, Option, Some, None, Result, Ok, codes}
use Rattle.hv_text.specs.Trees.{Tree, Trees}
use Rattle.hv_text.specs.Rests.{Rest, add, enclose}
use Rattle.hv_text.specs.declared.span.Span.{Span}
use Rattle.hv_reading.specs.declared.fault.SyntaxKind.{SyntaxKind}
use Rattle.hv_syntax.specs.Values.{WordAt, Literal}
use Rattle.hv_reading.specs.Words.{is, is_the_word}
use Rattle.hv_reading.specs.Sections.{headed}
use Rattle.hv_reading.specs.inside.Literals.{ground_literal_of}
use Rattle.hv_reading.specs.inside.Sections.{title_of}

-- the word that heads, if one does
abbrev pub head_word : Option (List ℕ × Trees) → List (List ℕ)
head_word None = []
head_word (Some (w, ts)) = w ∷ []

-- the words that head these
abbrev pub heads : List Tree → List (List ℕ)
heads [] = []
heads (t ∷ ts) = head_word (headed t) ++ heads ts

-- whether this word is one of these
abbrev pub has_head : List ℕ → List (List ℕ) → Bool
has_head v [] = false
has_head v (w ∷ ws) = is w v || has_head v ws

-- the list of `define` comes first: where it starts, the name in its title, which has this word,
-- and what stands behind the title
pub record IsBegun (v : List ℕ) (from : Rest) (start : Span) (n : WordAt) (after : Rest)
    : Type 0 where
  pub define : Tree
  pub title : Tree
  pub first : from ≡ enclose start (add define (add title after))
  pub is_define : is_the_word (codes "define") define ≡ true
  pub has_name : Some n ≡ title_of v title

-- the expression that comes first is this section, headed by this word, behind sections of these
-- heads; and what stands behind it
pub record IsSectionRead {S : Type 0} (section : List Tree → Tree → Result S (SyntaxKind × Span))
    (before : List (List ℕ)) (from : Rest) (x : S) (w : List ℕ) (after : Rest) : Type 0 where
  pub tree : Tree
  pub first : from ≡ add tree after
  pub head : head_word (headed tree) ≡ w ∷ []
  pub is_section : (ts : List Tree) → heads ts ≡ before → section ts tree ≡ Ok x

-- the expression that comes first spells this literal, whose terms are names; and what stands
-- behind it
pub record IsLiteralRead (from : Rest) (l : Literal) (after : Rest) : Type 0 where
  pub tree : Tree
  pub first : from ≡ add tree after
  pub spells : ground_literal_of tree ≡ Some l

-- the literals so far, and with one more, which the expression that comes first spells; and what
-- stands behind it
pub record IsOneMoreRead (from : Rest) (old new : List Literal) (after : Rest) : Type 0 where
  pub one : Literal
  pub read : IsLiteralRead from one after
  pub put : new ≡ old ++ one ∷ []
