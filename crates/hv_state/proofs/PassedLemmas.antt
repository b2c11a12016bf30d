-- Which rows stand beside one another that differ in what comes behind their first numbers.
use Rattle.std.proofs.Common.{◌≡◌, ◌<◌, ◌≤◌, ◌+◌, ◌-◌, ◌++◌, ◌⊎◌, inl, inr, ℕ, List, [], ◌∷◌, length, length-append, take, drop, get_or, refl, sym, ap, ◌∙◌, subst, arith}
use Rattle.std.specs.List.{Contains}
use Rattle.std.specs.Ordering.{nat_cmp, ordering_then}
use Rattle.std.specs.Cmp.Lexicographic.{slice_cmp}
use Rattle.std.specs.declared.cmp.Ordering.{Ordering}
use Rattle.std.specs.declared.cmp.Ordering.TheVariants.{Less, Equal, Greater}
use Rattle.std.proofs.lemmas.Bool.{cases_lt, cases_eq}
use Rattle.std.proofs.lemmas.Cmp.{ranked}
use Rattle.std.proofs.lemmas.List.{get_or_default}
use Rattle.hv_state.specs.inside.Rows.{IsBelow, Ascend, IsGap}
use Rattle.hv_state.proofs.SomeLemmas.{taken}

then_less : (x y : ℕ) (rest : Ordering) → ordering_then (nat_cmp x y) rest ≡ Less → (x < y) ⊎ ((x ≡ y) × (rest ≡ Less))
then_less x y rest = by (nat_cmp x y) refl
  where
    by : (c : Ordering) → c ≡ nat_cmp x y → ordering_then c rest ≡ Less → (x < y) ⊎ ((x ≡ y) × (rest ≡ Less))
    by Less is e = inl (ranked x y Less is)
    by Equal is e = inr (ranked x y Equal is, e)
    by Greater is e = absurd cc

-- a row between two that differ in their last number begins as they do
pub between : (pre : List ℕ) (o n : ℕ) (r : List ℕ) → IsBelow (pre ++ o ∷ []) r → IsBelow r (pre ++ n ∷ []) ⊎ (r ≡ pre ++ n ∷ []) → (m : ℕ) × (more : List ℕ) × (r ≡ pre ++ m ∷ more) × (m ≤ n)
between [] o n [] below upto = absurd cc
between [] o n (x ∷ xs) below upto = (x, xs, refl, le upto)
  where
    le : IsBelow (x ∷ xs) (n ∷ []) ⊎ (x ∷ xs ≡ n ∷ []) → x ≤ n
    le (inl b) = elim (then_less x n (slice_cmp nat_cmp xs []) b) [ inl lt ↦ omega (arith, lt) | inr same ↦ omega (arith, same.0) ]
    le (inr e) = let same : x ≡ n = ap (λ ys. get_or ys 0 0) e in omega (arith, same)
between (p ∷ ps) o n [] below upto = absurd cc
between (p ∷ ps) o n (x ∷ xs) below upto = by (λ b u. between ps o n xs b u) (then_less p x (slice_cmp nat_cmp (ps ++ o ∷ []) xs) below) upto
  where
    Goal : Type 0
    Goal = (m : ℕ) × (more : List ℕ) × (x ∷ xs ≡ p ∷ ps ++ m ∷ more) × (m ≤ n)

    Further : Type 0
    Further = IsBelow (ps ++ o ∷ []) xs → IsBelow xs (ps ++ n ∷ []) ⊎ (xs ≡ ps ++ n ∷ []) → (m : ℕ) × (more : List ℕ) × (xs ≡ ps ++ m ∷ more) × (m ≤ n)

    further : p ≡ x → (m : ℕ) × (more : List ℕ) × (xs ≡ ps ++ m ∷ more) × (m ≤ n) → Goal
    further e (m, more, same, le) = (m, more, λ i. sym e i ∷ same i, le)

    by : Further → (p < x) ⊎ ((p ≡ x) × (slice_cmp nat_cmp (ps ++ o ∷ []) xs ≡ Less)) → IsBelow (x ∷ xs) (p ∷ ps ++ n ∷ []) ⊎ (x ∷ xs ≡ p ∷ ps ++ n ∷ []) → Goal
    by again (inl lt) (inl b) = elim (then_less x p (slice_cmp nat_cmp xs (ps ++ n ∷ [])) b) [ inl back ↦ absurd (omega (arith, lt, back)) | inr same ↦ absurd (omega (arith, lt, same.0)) ]
    by again (inl lt) (inr e) = let same : x ≡ p = ap (λ ys. get_or ys 0 0) e in absurd (omega (arith, lt, same))
    by again (inr both) (inl b) = elim (then_less x p (slice_cmp nat_cmp xs (ps ++ n ∷ [])) b) [ inl back ↦ absurd (omega (arith, both.0, back)) | inr same ↦ further both.0 (again both.1 (inl same.1)) ]
    by again (inr both) (inr e) = further both.0 (again both.1 (inr (ap (drop 1) e)))

not_below : (pre : List ℕ) (o n : ℕ) → o ≤ n → IsBelow (pre ++ n ∷ []) (pre ++ o ∷ []) → ⊥
not_below [] o n le b = elim (then_less n o (slice_cmp nat_cmp [] []) b) [ inl lt ↦ omega (arith, le, lt) | inr same ↦ absurd cc ]
not_below (p ∷ ps) o n le b = elim (then_less p p (slice_cmp nat_cmp (ps ++ n ∷ []) (ps ++ o ∷ [])) b) [ inl lt ↦ omega (arith, lt) | inr same ↦ not_below ps o n le same.1 ]

-- where a row would stand, the one that stands there tells which other last numbers are not listed
pub passed_over : (rows : List (List ℕ)) (pre : List ℕ) (o i until : ℕ) → Ascend rows → IsGap rows (pre ++ o ∷ []) i → (i < length rows → (m : ℕ) (more : List ℕ) → get_or rows i [] ≡ pre ++ m ∷ more → until ≤ m)
    → (n : ℕ) → o ≤ n → n < until → Contains rows (pre ++ n ∷ []) → ⊥
passed_over rows pre o i until ascend gap first n le under (k, k_in, e) = by (cases_lt k i)
  where
    row : List ℕ
    row = pre ++ n ∷ []

    at_k : get_or rows k [] ≡ row
    at_k = get_or_default rows k [] row k_in ∙ e

    upto : i ≤ k → (i ≡ k) ⊎ (i ≡ k → ⊥) → IsBelow (get_or rows i []) row ⊎ (get_or rows i [] ≡ row)
    upto behind (inl same) = inr (ap (λ j. get_or rows j []) same ∙ at_k)
    upto behind (inr differ) = inl (subst (IsBelow (get_or rows i [])) at_k (ascend i k [] (omega (arith, behind, differ)) k_in))

    by : (k < i) ⊎ (i ≤ k) → ⊥
    by (inl before) = not_below pre o n le (subst (λ x. IsBelow x (pre ++ o ∷ [])) at_k (gap.1 k before))
    by (inr behind) =
        let i_in : i < length rows = omega (arith, behind, k_in) in
        let (m, more, same, least) = between pre o n (get_or rows i []) (gap.2 i (omega arith) i_in) (upto behind (cases_eq i k)) in
        let high : until ≤ m = first i_in m more same in
        omega (arith, high, least, under)

pub front : (xs ys : List ℕ) → take (length xs) (xs ++ ys) ≡ xs
front [] ys = refl
front (x ∷ xs) ys = ap (λ zs. x ∷ zs) (front xs ys)

-- a list without its last element
pub without_last : (os : List ℕ) (o : ℕ) → take (length (os ++ o ∷ []) - 1) (os ++ o ∷ []) ≡ os
without_last os o = let one : length (os ++ o ∷ []) ≡ length os + 1 = length-append os (o ∷ []) in let few : length (os ++ o ∷ []) - 1 ≡ length os = omega (arith, one) in ap (λ n. take n (os ++ o ∷ [])) few ∙ front os (o ∷ [])

-- what stands behind the first numbers of a row
pub behind_first : (before : List ℕ) (n : ℕ) (more objects : List ℕ) → objects ≡ before ++ n ∷ more → (take (length before) objects ≡ before) × (length before < length objects) × (get_or objects (length before) 0 ≡ n)
behind_first before n more objects e = (ap (take (length before)) e ∙ front before (n ∷ more), let long = ap length e in let split = many before in omega (arith, long, split), ap (λ xs. get_or xs (length before) 0) e ∙ at before)
  where
    many : (xs : List ℕ) → length xs < length (xs ++ n ∷ more)
    many [] = omega arith
    many (x ∷ xs) = let h = many xs in omega (arith, h)

    at : (xs : List ℕ) → get_or (xs ++ n ∷ more) (length xs) 0 ≡ n
    at [] = refl
    at (x ∷ xs) = at xs

-- the numbers of a row behind its first
pub others_of : (row : List ℕ) (p : ℕ) (xs : List ℕ) → row ≡ p ∷ xs → take (length row - 1) (drop 1 row) ≡ xs
others_of row p xs e = ap (λ r. take (length r - 1) (drop 1 r)) e ∙ taken xs (length (p ∷ xs) - 1) (omega arith)
