-- How the code reads expressions: the same faults, with a count and a stack.
use Rattle.std.specs.Prelude.{◌≡◌, ◌==◌, ◌+◌, ◌-◌, ◌++◌, ◌<◌, ◌≤◌, ℕ, List, [], ◌∷◌, length, take, Option, None, Some, map, if◌then◌else◌}
use Rattle.std.specs.List.{flat_map}
use Rattle.hv_text.specs.Trees.{tree}
use Rattle.hv_text.specs.Sexps.{spelled, opening}
use Rattle.hv_text.specs.Words.{Piece, word, left, right, bad, pieces, nowhere}
use Rattle.hv_text.specs.declared.span.Span.{Span}
use Rattle.hv_text.specs.declared.fault.TextKind.{TextKind}
use Rattle.hv_text.specs.declared.fault.TextKind.TheVariants as kinds
use Rattle.hv_text.specs.declared.fault.TheConstants.{MOST_BYTES, MOST_OPEN}
use Rattle.hv_text.specs.declared.sexp.Open.{Open}
use Rattle.hv_text.specs.declared.sexp.Sexp.{Sexp}

-- what expressions of the code spell, one after another
abbrev pub spellings : List Sexp → List Piece
spellings es = flat_map (λ e. spelled (tree e)) es

-- what has been read of lists that are still open: what stands before each, and its parenthesis
abbrev pub spelling_of_open : List Open → List Piece
spelling_of_open os = flat_map (λ o. spellings o.before.items ++ left (opening o.left) ∷ []) os

-- the parentheses of open lists
abbrev pub places_of_open : List Open → List Span
places_of_open os = map (λ o. o.left) os

-- the first fault from here on, where so many parentheses are open, and those that are open at the
-- end aside
abbrev pub fault_from : ℕ → List Piece → Option (TextKind × Span)
fault_from n [] = None
fault_from n (word t s ∷ ps) = fault_from n ps
fault_from n (bad s ∷ ps) = Some (kinds.BadByte, s)
fault_from n (left s ∷ ps) =
    if n == MOST_OPEN then Some (kinds.TooDeep, s) else fault_from (n + 1) ps
fault_from n (right s ∷ ps) = if n == 0 then Some (kinds.Unopened, s) else fault_from (n - 1) ps

-- the parentheses that are open at the end, the last one last
abbrev pub open_from : List Span → List Piece → List Span
open_from os [] = os
open_from os (word t s ∷ ps) = open_from os ps
open_from os (bad s ∷ ps) = open_from os ps
open_from os (left s ∷ ps) = open_from (os ++ s ∷ []) ps
open_from os (right s ∷ ps) = open_from (take (length os - 1) os) ps

-- what the loop finds: no fault, and the expressions
pub record IsScanned (text : List ℕ) (es : List Sexp) : Type 0 where
  pub size : length text ≤ MOST_BYTES
  pub sound : fault_from 0 (pieces text) ≡ None
  pub closed : open_from [] (pieces text) ≡ []
  pub spelled : spellings es ≡ pieces text

-- a text without a fault: there is none on the way, and no parenthesis is open at the end
pub record IsBalanced (text : List ℕ) : Type 0 where
  pub size : length text ≤ MOST_BYTES
  pub sound : fault_from 0 (pieces text) ≡ None
  pub closed : open_from [] (pieces text) ≡ []

-- the fault that the loop finds
abbrev pub IsScanFault : List ℕ → TextKind → Span → Type 0
IsScanFault text kinds.TooLong s = (MOST_BYTES < length text) × (s ≡ nowhere)
IsScanFault text kinds.Memory s = (length text ≤ MOST_BYTES) × (s ≡ nowhere)
IsScanFault text kinds.BadByte s = (length text ≤ MOST_BYTES)
    × (fault_from 0 (pieces text) ≡ Some (kinds.BadByte, s))
IsScanFault text kinds.Unopened s = (length text ≤ MOST_BYTES)
    × (fault_from 0 (pieces text) ≡ Some (kinds.Unopened, s))
IsScanFault text kinds.TooDeep s = (length text ≤ MOST_BYTES)
    × (fault_from 0 (pieces text) ≡ Some (kinds.TooDeep, s))
IsScanFault text kinds.Unclosed s =
    (length text ≤ MOST_BYTES) × (fault_from 0 (pieces text) ≡ None)
    × ((more : List Span) × (open_from [] (pieces text) ≡ more ++ s ∷ []))
