-- Lists that stand one after another in one.
use Rattle.std.proofs.Common.{◌≡◌, ℕ, zero, suc, ◌+◌, ◌-◌, ◌<◌, ◌≤◌, List, [], ◌∷◌, ◌++◌, length, get_or, take, drop, refl, ap, ◌∙◌, arith}
use Rattle.std.specs.Prelude.{slice_index_or, sum_by}
use Rattle.std.proofs.lemmas.List.{take_all, drop-append-le, take-append-le, length-append, length-drop, length-take}
use Rattle.std.proofs.lemmas.List.Sums.{sum_by-cons}
use Rattle.std.proofs.Math.Seq.{drop-append_seam}
use Rattle.hv_text.specs.inside.Lists.{between, start_of, cut, EndUp}

pub length_cut : {T : Type 0} (from : ℕ) (ends : List ℕ) (xs : List T) → length (cut from ends xs) ≡ length ends
length_cut from [] xs = refl
length_cut from (end ∷ ends) xs = ap suc (length_cut end ends xs)

-- the list of a place
pub cut_at : {T : Type 0} (from : ℕ) (ends : List ℕ) (xs : List T) (k end : ℕ) → k < length ends → end ≡ slice_index_or ends k end
    → between (start_of from ends k) end xs ≡ slice_index_or (cut from ends xs) k []
cut_at from [] xs k end lt e = absurd (omega arith)
cut_at from (x ∷ ends) xs zero end lt e = ap (λ z. between from z xs) e
cut_at from (x ∷ ends) xs (suc k) end lt e = cut_at x ends xs k end (omega arith) e

-- no list stands behind the last
pub cut_past : {T : Type 0} (from : ℕ) (ends : List ℕ) (xs : List T) (k : ℕ) → length ends ≤ k → [] ≡ slice_index_or (cut from ends xs) k []
cut_past from [] xs k le = refl
cut_past from (x ∷ ends) xs zero le = absurd (omega arith)
cut_past from (x ∷ ends) xs (suc k) le = cut_past x ends xs k (omega arith)

-- a list begins where the one before it ends
pub start_after : (from : ℕ) (ends : List ℕ) (k : ℕ) → k < length ends → get_or ends k 0 ≡ start_of from ends (suc k)
start_after from [] k lt = absurd (omega arith)
start_after from (x ∷ ends) zero lt = refl
start_after from (x ∷ ends) (suc k) lt = start_after x ends k (omega arith)

-- lists begin within the items
begins_within : (from : ℕ) (ends : List ℕ) (size : ℕ) → EndUp from ends size → from ≤ size
begins_within from [] size e = omega (arith, e)
begins_within from (end ∷ ends) size (le, more) = let below : end ≤ size = begins_within end ends size more in omega (arith, le, below)

-- what stands within the items stays where more stand behind them
between_within : {T : Type 0} (from end : ℕ) (xs ys : List T) → from ≤ end → end ≤ length xs → between from end (xs ++ ys) ≡ between from end xs
between_within from end xs ys le within =
    let first : from ≤ length xs = omega (arith, le, within) in
    let size : length (drop from xs) ≡ length xs - from = length-drop from xs in
    let enough : end - from ≤ length (drop from xs) = omega (arith, le, within, size) in
    ap (take (end - from)) (drop-append-le from xs ys first) ∙ take-append-le (end - from) (drop from xs) ys enough

-- the items behind others
last_part : {T : Type 0} (from end : ℕ) (xs ys : List T) → from ≡ length xs → end ≡ length (xs ++ ys) → between from end (xs ++ ys) ≡ ys
last_part from end xs ys is all =
    let rest : drop from (xs ++ ys) ≡ ys = ap (λ n. drop n (xs ++ ys)) is ∙ drop-append_seam xs ys in
    let size : length (xs ++ ys) ≡ length xs + length ys = length-append xs ys in
    let enough : length ys ≤ end - from = omega (arith, is, all, size) in
    ap (take (end - from)) rest ∙ take_all (end - from) ys enough

-- one list more behind the others: they are as before, and it is the last
pub pushed : {T : Type 0} (from : ℕ) (ends : List ℕ) (end : ℕ) (xs ys : List T) → EndUp from ends (length xs) → end ≡ length (xs ++ ys)
    → cut from (ends ++ end ∷ []) (xs ++ ys) ≡ cut from ends xs ++ ys ∷ []
pushed from [] end xs ys is all = ap (λ l. l ∷ []) (last_part from end xs ys is all)
pushed from (e ∷ ends) end xs ys (le, more) all =
    let own : between from e (xs ++ ys) ≡ between from e xs = between_within from e xs ys le (begins_within e ends (length xs) more) in
    let others : cut e (ends ++ end ∷ []) (xs ++ ys) ≡ cut e ends xs ++ ys ∷ [] = pushed e ends end xs ys more all in
    (λ i. own i ∷ others i)

pub ends_pushed : (from : ℕ) (ends : List ℕ) (end size more : ℕ) → EndUp from ends size → size ≤ more → end ≡ more → EndUp from (ends ++ end ∷ []) more
ends_pushed from [] end size more is le e = (omega (arith, is, le, e), e)
ends_pushed from (x ∷ ends) end size more (first, others) le e = (first, ends_pushed x ends end size more others le e)

length_between : {T : Type 0} (from end : ℕ) (xs : List T) → end ≤ length xs → length (between from end xs) ≡ end - from
length_between from end xs within = grind (arith, length-take, length-drop, within)

-- the lists have all items
pub items_of_all : {T : Type 0} (from : ℕ) (ends : List ℕ) (xs : List T) → EndUp from ends (length xs) → length xs ≡ from + sum_by length (cut from ends xs)
items_of_all from [] xs is = omega (arith, is)
items_of_all from (end ∷ ends) xs (le, more) =
    let own : length (between from end xs) ≡ end - from = length_between from end xs (begins_within end ends (length xs) more) in
    let others : length xs ≡ end + sum_by length (cut end ends xs) = items_of_all end ends xs more in
    let sums : sum_by length (cut from (end ∷ ends) xs) ≡ length (between from end xs) + sum_by length (cut end ends xs) = sum_by-cons length (between from end xs) (cut end ends xs) in
    omega (arith, le, own, others, sums)
