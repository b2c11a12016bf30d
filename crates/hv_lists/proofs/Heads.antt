-- Heads that have lists.
use Rattle.std.proofs.Common.{◌≡◌, ℕ, zero, suc, ◌<◌, List, [], ◌∷◌, ◌++◌, Some, slice_get, length, get_or, drop, refl, ap, sym, ◌∙◌, arith}
use Rattle.std.specs.Prelude.{slice_index_or}
use Rattle.hv_lists.specs.Lists.{with_lists}

-- heads with lists: how many they are, which stands at a place, and one more behind them
pub with_length : {H T X : Type 0} (f : H → List T → X) (hs : List H) (ls : List (List T)) → length (with_lists f hs ls) ≡ length hs
with_length f [] ls = refl
with_length f (h ∷ hs) ls = ap suc (with_length f hs (drop 1 ls))

pub next_list : {T : Type 0} (ls : List (List T)) (k : ℕ) → slice_index_or (drop 1 ls) k [] ≡ slice_index_or ls (suc k) []
next_list [] zero = refl
next_list [] (suc k) = refl
next_list (l ∷ ls) k = refl

pub with_at : {H T X : Type 0} (f : H → List T → X) (hs : List H) (ls : List (List T)) (k : ℕ) (h : H) → k < length hs → h ≡ get_or hs k h
    → slice_get (with_lists f hs ls) k ≡ Some (f h (slice_index_or ls k []))
with_at f [] ls k h lt e = absurd (omega arith)
with_at f (x ∷ hs) ls zero h lt e = ap (λ z. Some (f z (slice_index_or ls 0 []))) (sym e)
with_at f (x ∷ hs) ls (suc k) h lt e = with_at f hs (drop 1 ls) k h (omega arith) e ∙ ap (λ l. Some (f h l)) (next_list ls k)

pub with_more : {H T X : Type 0} (f : H → List T → X) (hs : List H) (ls : List (List T)) (h : H) (l : List T) → length ls ≡ length hs
    → with_lists f (hs ++ h ∷ []) (ls ++ l ∷ []) ≡ with_lists f hs ls ++ f h l ∷ []
with_more f [] [] h l e = refl
with_more f [] (x ∷ ls) h l e = absurd (omega arith)
with_more f (x ∷ hs) [] h l e = absurd (omega arith)
with_more f (x ∷ hs) (y ∷ ls) h l e = ap (λ zs. f x y ∷ zs) (with_more f hs ls h l (omega arith))
