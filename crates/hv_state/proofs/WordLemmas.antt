-- The next words, in parts.
use Rattle.std.proofs.Common.{◌≡◌, ℕ, suc, ◌+◌, ◌≤◌, ◌<◌, List, [], ◌∷◌, ◌++◌, length, take, drop, refl, sym, ap, ◌∙◌, arith, get_or, bit_and, bit_or, append_assoc, take-add, map, set}
use Rattle.std.proofs.lemmas.List.{take_more, drop_more}
use Rattle.std.specs.Simd.Lanes.{zip2}
use Rattle.std.proofs.lemmas.Grind.{common_steps}
use Rattle.std.specs.Int.{bit_not, w64}
use Rattle.hv_state.specs.Words.{next_words}

pub next_words-append : (r d a rs ds as' : List ℕ) → length d ≡ length r → length a ≡ length r →
    next_words (r ++ rs) (d ++ ds) (a ++ as') ≡ next_words r d a ++ next_words rs ds as'
next_words-append [] [] [] rs ds as' e f = refl
next_words-append [] (y ∷ d) a rs ds as' e f = absurd (omega (arith, e))
next_words-append [] [] (z ∷ a) rs ds as' e f = absurd (omega (arith, f))
next_words-append (x ∷ r) [] a rs ds as' e f = absurd (omega (arith, e))
next_words-append (x ∷ r) (y ∷ d) [] rs ds as' e f = absurd (omega (arith, f))
next_words-append (x ∷ r) (y ∷ d) (z ∷ a) rs ds as' e f =
    ap (λ ws. bit_or (bit_and x (bit_not w64 y)) z ∷ ws) (next_words-append r d a rs ds as' (omega (arith, e)) (omega (arith, f)))

pub length-next_words : (r d a : List ℕ) → length d ≡ length r → length a ≡ length r → length (next_words r d a) ≡ length r
length-next_words [] [] [] e f = refl
length-next_words [] (y ∷ d) a e f = absurd (omega (arith, e))
length-next_words [] [] (z ∷ a) e f = absurd (omega (arith, f))
length-next_words (x ∷ r) [] a e f = absurd (omega (arith, e))
length-next_words (x ∷ r) (y ∷ d) [] e f = absurd (omega (arith, f))
length-next_words (x ∷ r) (y ∷ d) (z ∷ a) e f = ap suc (length-next_words r d a (omega (arith, e)) (omega (arith, f)))

-- one step over n more words
pub next_more : (at n : ℕ) (r d a : List ℕ) → length d ≡ length r → length a ≡ length r → at + n ≤ length r →
    next_words (take (at + n) r) (take (at + n) d) (take (at + n) a)
    ≡ next_words (take at r) (take at d) (take at a) ++ next_words (take n (drop at r)) (take n (drop at d)) (take n (drop at a))
next_more at n r d a e f le =
    rw (take-add at n r, take-add at n d, take-add at n a)
    (next_words-append _ _ _ _ _ _ (grind (arith, common_steps)) (grind (arith, common_steps)))

-- what the lanes compute is the plain definition
pub lanes_are : (r d a : List ℕ) → zip2 bit_or (zip2 bit_and r (map (bit_not w64) d)) a ≡ next_words r d a
lanes_are [] d a = refl
lanes_are (x ∷ r) [] a = refl
lanes_are (x ∷ r) (y ∷ d) [] = refl
lanes_are (x ∷ r) (y ∷ d) (z ∷ a) = ap (λ ws. bit_or (bit_and x (bit_not w64 y)) z ∷ ws) (lanes_are r d a)

-- eight words more, written over a row whose first words are the next ones
pub lanes_step : (at : ℕ) (old now new d a : List ℕ) → length d ≡ length old → length a ≡ length old → at + 8 ≤ length old →
    now ≡ next_words (take at old) (take at d) (take at a) ++ drop at old →
    new ≡ take at now ++ (next_words (take 8 (drop at now)) (take 8 (drop at d)) (take 8 (drop at a)) ++ drop (at + 8) now) →
    new ≡ next_words (take (at + 8) old) (take (at + 8) d) (take (at + 8) a) ++ drop (at + 8) old
lanes_step at old now new d a e f le is h =
    let done : List ℕ = next_words (take at old) (take at d) (take at a) in
    let long : length done ≡ at = length-next_words (take at old) (take at d) (take at a) (grind (arith, common_steps)) (grind (arith, common_steps)) ∙ grind (arith, common_steps) in
    let front : take at now ≡ done = rw is (take_at done (drop at old) at long) in
    let rest : drop at now ≡ drop at old = rw is (drop_at done (drop at old) at long) in
    let past : drop (at + 8) now ≡ drop (at + 8) old = sym (drop-add at 8 now) ∙ ap (drop 8) rest ∙ drop-add at 8 old in
    h ∙ rw (front, rest, past) (sym (append_assoc done _ _)) ∙ ap (λ t. t ++ drop (at + 8) old) (sym (next_more at 8 old d a e f le))
  where
    take_at : (xs ys : List ℕ) (n : ℕ) → length xs ≡ n → take n (xs ++ ys) ≡ xs
    take_at xs ys n e = grind (arith, common_steps, e)

    drop_at : (xs ys : List ℕ) (n : ℕ) → length xs ≡ n → drop n (xs ++ ys) ≡ ys
    drop_at xs ys n e = grind (arith, common_steps, e)

    drop-add : (n m : ℕ) (xs : List ℕ) → drop m (drop n xs) ≡ drop (n + m) xs
    drop-add n m xs = grind (arith, common_steps)

set_first : (xs : List ℕ) (y x : ℕ) (ys : List ℕ) → set (xs ++ y ∷ ys) (length xs) x ≡ xs ++ x ∷ ys
set_first [] y x ys = refl
set_first (z ∷ xs) y x ys = ap (λ t. z ∷ t) (set_first xs y x ys)

set_end : (xs ys : List ℕ) (n x : ℕ) → length xs ≡ n → n < length ys → set (xs ++ drop n ys) n x ≡ xs ++ x ∷ drop (n + 1) ys
set_end xs ys n x e lt = rw (drop_more ys n 0 lt, ← e) (set_first xs _ x _)

-- one word more, written over such a row
pub word_step : (at x : ℕ) (old now d a : List ℕ) → length d ≡ length old → length a ≡ length old → at < length old →
    now ≡ next_words (take at old) (take at d) (take at a) ++ drop at old →
    x ≡ bit_or (bit_and (get_or now at 0) (bit_not w64 (get_or d at 0))) (get_or a at 0) →
    set now at x ≡ next_words (take (at + 1) old) (take (at + 1) d) (take (at + 1) a) ++ drop (at + 1) old
word_step at x old now d a e f lt is h =
    let done : List ℕ = next_words (take at old) (take at d) (take at a) in
    let long : length done ≡ at = length-next_words (take at old) (take at d) (take at a) (grind (arith, common_steps)) (grind (arith, common_steps)) ∙ grind (arith, common_steps) in
    let here : get_or now at 0 ≡ get_or old at 0 = rw is (at_end done old at long) in
    let written : set now at x ≡ done ++ x ∷ drop (at + 1) old = rw is (set_end done old at x long lt) in
    let one : next_words (take (at + 1) old) (take (at + 1) d) (take (at + 1) a) ≡ done ++ x ∷ [] =
    rw (take_more old at 0 lt, take_more d at 0 (omega (arith, e)), take_more a at 0 (omega (arith, f)))
    (next_words-append _ _ _ _ _ _ (grind (arith, common_steps)) (grind (arith, common_steps)) ∙ ap (λ w. done ++ w ∷ []) (ap (λ g. bit_or (bit_and g (bit_not w64 (get_or d at 0))) (get_or a at 0)) (sym here) ∙ sym h)) in
    written ∙ sym (append_assoc done (x ∷ []) (drop (at + 1) old)) ∙ ap (λ t. t ++ drop (at + 1) old) (sym one)
  where
    at_end : (xs ys : List ℕ) (n : ℕ) → length xs ≡ n → get_or (xs ++ drop n ys) n 0 ≡ get_or ys n 0
    at_end xs ys n e = grind (arith, common_steps, e)
