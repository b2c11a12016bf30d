-- Fields said a second time: the pairs of a list, and the one of a field.
use Rattle.std.specs.Prelude.{◌≡◌, ◌↔◌, ◌⊎◌, ℕ, true, List, [], ◌∷◌, Option, Some, None}
use Rattle.hv_text.specs.Trees.{Tree, word, list, Trees, none, more}
use Rattle.hv_text.specs.declared.span.Span.{Span}
use Rattle.hv_reading.specs.declared.word.Head.TheVariants as heads
use Rattle.hv_reading.specs.declared.field.Slot.{Slot}
use Rattle.hv_reading.specs.Words.{head_of}
use Rattle.hv_reading.specs.Fields.{slot_of, is_in, field}

-- these are pairs of a keyword and an expression: each with the field that the keyword names
pub data ArePairs : Trees → List (Slot × Tree) → Type 0 where
  no_pairs : ArePairs none []
  more_pairs : (k : List ℕ) (p : Span) (e : Tree) (ts : Trees) (fs : List (Slot × Tree))
      → ArePairs ts fs → ArePairs (more (word k p) (more e ts)) ((slot_of k, e) ∷ fs)

-- a pair is one of these
abbrev pub IsOneOf : Slot × Tree → List (Slot × Tree) → Type 0
IsOneOf f [] = ⊥
IsOneOf f (g ∷ gs) = (g ≡ f) ⊎ IsOneOf f gs

-- no field stands twice
abbrev pub NoneTwice : List (Slot × Tree) → Type 0
NoneTwice [] = Unit {0}
NoneTwice (f ∷ fs) = ((e : Tree) → IsOneOf (f.0, e) fs → ⊥) × NoneTwice fs

-- a list is of fields: its pairs, each of a field that is allowed, and none twice
pub record IsOfFields (allowed : List Slot) (ts : Trees) : Type 0 where
  pub pairs : List (Slot × Tree)
  pub are_pairs : ArePairs ts pairs
  pub are_allowed : (s : Slot) (e : Tree) → IsOneOf (s, e) pairs → is_in allowed s ≡ true
  pub none_twice : NoneTwice pairs

-- what is found of a field is the expression of its pair, and nothing where there is none
abbrev pub AreFound : List Slot → Trees → Type 0
AreFound allowed ts = (h : IsOfFields allowed ts) (s : Slot) (e : Tree)
    → (field s ts ≡ Some e) ↔ IsOneOf (s, e) h.pairs

-- a field says nothing: it is absent, `()` or `(and)`
pub data SaysNothing : Option Tree → Type 0 where
  it_is_absent : SaysNothing None
  it_is_empty : (s : Span) → SaysNothing (Some (list none s))
  it_is_and_alone : (w : List ℕ) (p s : Span) → head_of w ≡ heads.And
      → SaysNothing (Some (list (more (word w p) none) s))
