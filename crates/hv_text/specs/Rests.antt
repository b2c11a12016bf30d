-- What stands from a place on: expressions up to the end of the list there, and so on for each list
-- around it; or up to a fault of the text.
use Rattle.std.specs.Prelude.{◌≡◌, ◌==◌, ◌+◌, ◌-◌, ◌⊎◌, ℕ, List, [], ◌∷◌, if◌then◌else◌}
use Rattle.hv_text.specs.Trees.{Tree, Trees, word, list, none, more}
use Rattle.hv_text.specs.Words as found
use Rattle.hv_text.specs.Words.{Piece, left, right, bad}
use Rattle.hv_text.specs.declared.fault.TheConstants.{MOST_OPEN}
use Rattle.hv_text.specs.declared.span.Span.{Span}

-- expressions up to the end of the text; or up to where a fault of the text comes next; or up to a
-- `)` that ends at this place, and what stands behind it
pub data Rest : Type 0 where
  last : Trees → Rest
  lost : Trees → Rest
  upto : Trees → ℕ → Rest → Rest

-- an expression, and these behind it
abbrev pub add : Tree → Rest → Rest
add t (last ts) = last (more t ts)
add t (lost ts) = lost (more t ts)
add t (upto ts e r) = upto (more t ts) e r

-- expressions, and these behind them
abbrev pub add_all : Trees → Rest → Rest
add_all none r = r
add_all (more t ts) r = add t (add_all ts r)

-- a `(` at this place: it begins the list that the next open `)` ends; where none does, it is a
-- fault
abbrev pub enclose : Span → Rest → Rest
enclose s (last ts) = lost none
enclose s (lost ts) = lost none
enclose s (upto ts e r) = add (list ts (record { start = s.start; past = e })) r

-- a piece, and these behind it
abbrev pub step : Piece → Rest → Rest
step (found.word w s) r = add (word w s) r
step (left s) r = enclose s r
step (right s) r = upto none s.past r
step (bad s) r = lost none

-- what pieces spell, where so many parentheses are open before them
abbrev pub rest_from : ℕ → List Piece → Rest
rest_from n [] = last none
rest_from n (found.word w s ∷ ps) = add (word w s) (rest_from n ps)
rest_from n (left s ∷ ps) =
    if n == MOST_OPEN then lost none else enclose s (rest_from (n + 1) ps)
rest_from n (right s ∷ ps) = if n == 0 then lost none else upto none s.past (rest_from (n - 1) ps)
rest_from n (bad s ∷ ps) = lost none

-- the expressions up to the end of the list, or of the text
abbrev pub here : Rest → Trees
here (last ts) = ts
here (lost ts) = ts
here (upto ts e r) = ts

-- what stands behind them
abbrev pub ended : Rest → Rest
ended (last ts) = last none
ended (lost ts) = lost none
ended (upto ts e r) = upto none e r

-- nothing more is to come: the text is over, or a fault of it comes next
abbrev pub IsOut : Rest → Type 0
IsOut r = (r ≡ last none) ⊎ (r ≡ lost none)
