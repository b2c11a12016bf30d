-- Decomposition lines, whose arguments and children stand in lists.
use Rattle.std.proofs.Common.{◌≡◌, ℕ, zero, suc, ◌<◌, List, [], ◌∷◌, ◌++◌, Some, drop, length, get_or, slice_get, refl, ap, sym, ◌∙◌, arith}
use Rattle.std.specs.Prelude.{slice_index_or}
use Rattle.hv_text.specs.declared.name.Name.{Name}
use Rattle.hv_plan.specs.LineViews.{headed, lines_of}
use Rattle.hv_plan.specs.declared.plan.decompositions.DecompositionHead.{DecompositionHead}
use Rattle.hv_lists.proofs.Heads.{next_list}

pub length_lines : (hs : List DecompositionHead) (names : List (List Name)) (is : List (List ℕ)) → length (lines_of hs names is) ≡ length hs
length_lines [] names is = refl
length_lines (h ∷ hs) names is = ap suc (length_lines hs (drop 1 names) (drop 1 is))

-- the line of a place
pub line_at : (hs : List DecompositionHead) (names : List (List Name)) (is : List (List ℕ)) (k : ℕ) (h : DecompositionHead) → k < length hs → h ≡ get_or hs k h
    → slice_get (lines_of hs names is) k ≡ Some (headed h (slice_index_or names k []) (slice_index_or is k []))
line_at [] names is k h lt e = absurd (omega arith)
line_at (x ∷ hs) names is zero h lt e = ap (λ z. Some (headed z (slice_index_or names 0 []) (slice_index_or is 0 []))) (sym e)
line_at (x ∷ hs) names is (suc k) h lt e =
    line_at hs (drop 1 names) (drop 1 is) k h (omega arith) e ∙ (λ j. Some (headed h (next_list names k j) (next_list is k j)))

-- the lines, with one more behind them
pub line_more : (hs : List DecompositionHead) (names : List (List Name)) (is : List (List ℕ)) (h : DecompositionHead) (n : List Name) (c : List ℕ)
    → length names ≡ length hs → length is ≡ length hs → lines_of (hs ++ h ∷ []) (names ++ n ∷ []) (is ++ c ∷ []) ≡ lines_of hs names is ++ headed h n c ∷ []
line_more [] [] [] h n c e f = refl
line_more [] (x ∷ names) is h n c e f = absurd (omega arith)
line_more [] [] (y ∷ is) h n c e f = absurd (omega arith)
line_more (x ∷ hs) [] is h n c e f = absurd (omega arith)
line_more (x ∷ hs) (y ∷ names) [] h n c e f = absurd (omega arith)
line_more (x ∷ hs) (y ∷ names) (z ∷ is) h n c e f = ap (λ ds. headed x y z ∷ ds) (line_more hs names is h n c (omega arith) (omega arith))
