-- What words may be.
use Rattle.std.specs.Prelude.{ℕ, ◌==◌, ◌||◌, Bool, true, false, List, [], ◌∷◌, codes, if◌then◌else◌}
use Rattle.std.specs.Str.{bytes_eq}
use Rattle.hv_text.specs.Trees.{Tree, word, list}
use Rattle.hv_reading.specs.declared.word.Sort.{Sort}
use Rattle.hv_reading.specs.declared.word.Sort.TheVariants as sorts
use Rattle.hv_reading.specs.declared.word.Head.{Head}
use Rattle.hv_reading.specs.declared.word.Head.TheVariants as heads

-- two words are the same
abbrev pub is : List ℕ → List ℕ → Bool
is w v = bytes_eq w v

-- a name begins with neither `?` nor `:` and is not `-`, `<` or `=`; a variable begins with `?`, a
-- keyword with `:`, and both have two bytes or more
abbrev pub sort_of : List ℕ → Sort
sort_of [] = sorts.Mark
sort_of (b ∷ []) =
    if b == 63 || b == 58 || b == 45 || b == 60 || b == 61 then sorts.Mark else sorts.Name
sort_of (b ∷ c ∷ bs) =
    if b == 63 then sorts.Variable else if b == 58 then sorts.Keyword else sorts.Name

-- two sorts are the same; a mark is none that is looked for
abbrev pub same_sort : Sort → Sort → Bool
same_sort sorts.Name sorts.Name = true
same_sort sorts.Variable sorts.Variable = true
same_sort sorts.Keyword sorts.Keyword = true
same_sort _ _ = false

-- whether a word is of this sort
abbrev pub is_sort : Sort → List ℕ → Bool
is_sort sort w = same_sort (sort_of w) sort

-- a name that is none of the words of formulas is a symbol
abbrev pub symbol_if_name : Sort → Head
symbol_if_name sorts.Name = heads.Symbol
symbol_if_name sorts.Variable = heads.Other
symbol_if_name sorts.Keyword = heads.Other
symbol_if_name sorts.Mark = heads.Other

-- what a word says at the head of a list; a symbol is a name that is none of the words of formulas
abbrev pub head_of : List ℕ → Head
head_of w =
    if is w (codes "and") then heads.And else
    if is w (codes "or") then heads.Or else
    if is w (codes "not") then heads.Not else
    if is w (codes "imply") then heads.Imply else
    if is w (codes "forall") then heads.Forall else
    if is w (codes "exists") then heads.Exists else
    if is w (codes "when") then heads.When else
    if is w (codes "=") then heads.Equal else
    symbol_if_name (sort_of w)

-- whether an expression is this word
abbrev pub is_the_word : List ℕ → Tree → Bool
is_the_word v (word w s) = is w v
is_the_word v (list ts s) = false
