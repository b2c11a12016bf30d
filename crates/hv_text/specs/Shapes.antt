-- Expressions, and what stands in texts, with their places aside; what their words are, and how
-- deep they nest.
use Rattle.std.specs.Prelude.{◌≡◌, ◌+◌, ℕ, max, true}
use Rattle.hv_text.specs.Bytes.{is_word, lower}
use Rattle.hv_text.specs.Trees.{Tree, word, list, Trees, none, more}
use Rattle.hv_text.specs.Words as found
use Rattle.hv_text.specs.Words.{Piece, left, right, bad, nowhere}

abbrev pub bare_piece : Piece → Piece
bare_piece (found.word w s) = found.word w nowhere
bare_piece (left s) = left nowhere
bare_piece (right s) = right nowhere
bare_piece (bad s) = bad nowhere

abbrev mutual
  pub bare_tree : Tree → Tree
  bare_tree (word w s) = word w nowhere
  bare_tree (list ts s) = list (bare_trees ts) nowhere

  pub bare_trees : Trees → Trees
  bare_trees none = none
  bare_trees (more t ts) = more (bare_tree t) (bare_trees ts)

abbrev mutual
  -- each word of an expression is a word, in lower case
  pub IsTidy : Tree → Type 0
  IsTidy (word w s) = (is_word w ≡ true) × (lower w ≡ w)
  IsTidy (list ts s) = AreTidy ts

  pub AreTidy : Trees → Type 0
  AreTidy none = Unit {0}
  AreTidy (more t ts) = IsTidy t × AreTidy ts

abbrev mutual
  -- how many parentheses are open at once in an expression, at most
  pub depth : Tree → ℕ
  depth (word w s) = 0
  depth (list ts s) = 1 + depth_all ts

  pub depth_all : Trees → ℕ
  depth_all none = 0
  depth_all (more t ts) = max (depth t) (depth_all ts)
