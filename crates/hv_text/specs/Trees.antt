-- Expressions as pure data: words in lower case and lists, each with its place.
use Rattle.std.specs.Prelude.{ℕ, List, [], ◌∷◌, map}
use Rattle.hv_text.specs.Names.{text_of}
use Rattle.hv_text.specs.declared.span.Span.{Span}
use Rattle.hv_text.specs.declared.sexp.Sexp.{Sexp, fold-Sexp}
use Rattle.hv_text.specs.declared.sexp.Sexp.TheOpen.{Sexp-F}

-- an expression: a word, or a list of expressions
mutual
  pub data Tree : Type 0 where
    word : List ℕ → Span → Tree
    list : Trees → Span → Tree

  pub data Trees : Type 0 where
    none : Trees
    more : Tree → Trees → Trees

-- the place of an expression
abbrev pub place_of : Tree → Span
place_of (word w s) = s
place_of (list ts s) = s

abbrev pub trees_of : List Tree → Trees
trees_of [] = none
trees_of (t ∷ ts) = more t (trees_of ts)

-- one level, with each member already seen as pure data
abbrev pub tree_step : Sexp-F Tree → Tree
tree_step (Sexp-F.Word n s) = word (text_of n) s
tree_step (Sexp-F.List v s) = list (trees_of v.items) s

-- what an expression of the code is
abbrev pub tree : Sexp → Tree
tree = fold-Sexp Tree tree_step

abbrev pub trees : List Sexp → Trees
trees es = trees_of (map tree es)
