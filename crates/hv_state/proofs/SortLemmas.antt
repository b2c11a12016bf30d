-- Rows that are sorted once.
use Rattle.std.proofs.Common.{◌≡◌, ◌+◌, nat_eq, ℕ, Bool, true, false, cond, List, [], ◌∷◌, IsPermutation, IsSorted, refl, ap, arith}
use Rattle.hv_state.specs.declared.rows.Row.{Row}
use Rattle.std.specs.List.{Contains, dedup, dedup_from}
use Rattle.std.specs.Ordering.{nat_cmp}
use Rattle.std.specs.Cmp.Lexicographic.{slice_cmp, pointwise, bytes_decides, nat_list_eq_equiv, texts_ties}
use Rattle.std.proofs.lemmas.Cmp.{nat_list_cmp_total}
use Rattle.std.proofs.lemmas.List.{get_or-map, length-map}
use Rattle.std.proofs.lemmas.List.Kept.{Contains-dedup, Contains-from_dedup, IsStrictlySortedBy-dedup}
use Rattle.std.proofs.lemmas.List.Sorted.{Contains-permutation, IsPermutation-map, IsPermutation-sym}
use Rattle.std.proofs.lemmas.Map.Keys.{Less-from_sorted}
use Rattle.hv_state.specs.inside.Rows.{rows_in, Ascend, HasSameRows}
use Rattle.hv_state.proofs.RowLemmas.{some_of}

abbrev numbers_of : Row → List ℕ
numbers_of v = v.numbers.items

abbrev pub same_numbers : Row → Row → Bool
same_numbers u v = pointwise nat_eq (numbers_of u) (numbers_of v)

-- each row once, seen as numbers
kept_or_not : (v u : Row) (us : List Row) (b : Bool) → rows_in (dedup_from same_numbers v us) ≡ dedup_from (pointwise nat_eq) (numbers_of v) (rows_in us) → rows_in (dedup_from same_numbers u us) ≡ dedup_from (pointwise nat_eq) (numbers_of u) (rows_in us)
    → rows_in (cond b (dedup_from same_numbers v us) (v ∷ dedup_from same_numbers u us)) ≡ cond b (dedup_from (pointwise nat_eq) (numbers_of v) (rows_in us)) (numbers_of v ∷ dedup_from (pointwise nat_eq) (numbers_of u) (rows_in us))
kept_or_not v u us true one other = one
kept_or_not v u us false one other = ap (λ rows. numbers_of v ∷ rows) other

seen_from : (v : Row) (vs : List Row) → rows_in (dedup_from same_numbers v vs) ≡ dedup_from (pointwise nat_eq) (numbers_of v) (rows_in vs)
seen_from v [] = refl
seen_from v (u ∷ us) = kept_or_not v u us (same_numbers u v) (seen_from v us) (seen_from u us)

seen : (vs : List Row) → rows_in (dedup same_numbers vs) ≡ dedup (pointwise nat_eq) (rows_in vs)
seen [] = refl
seen (v ∷ vs) = seen_from v vs

-- rows in order are so as numbers
sorted_seen : (vs : List Row) → IsSorted (λ u v. slice_cmp nat_cmp (numbers_of u) (numbers_of v)) vs → IsSorted (slice_cmp nat_cmp) (rows_in vs)
sorted_seen vs sorted k d from within =
    let long = length-map vs numbers_of in
    let v = some_of vs (omega (arith, within, long)) in
    rw (get_or-map numbers_of vs (k + 1) v d (omega (arith, within, long)), get_or-map numbers_of vs k v d (omega (arith, within, long))) (sorted k v from (omega (arith, within, long)))

pub distinct_ascend : (vs : List Row) → IsSorted (λ u v. slice_cmp nat_cmp (numbers_of u) (numbers_of v)) vs → Ascend (rows_in (dedup same_numbers vs))
distinct_ascend vs sorted =
    let strict = IsStrictlySortedBy-dedup nat_list_cmp_total texts_ties (rows_in vs) (sorted_seen vs sorted) in
    rw (seen vs) (λ i j d lt within. Less-from_sorted (slice_cmp nat_cmp) (dedup (pointwise nat_eq) (rows_in vs)) i j d strict lt within)

pub distinct_same : (us vs : List Row) → IsPermutation us vs → HasSameRows (rows_in us) (rows_in (dedup same_numbers vs))
distinct_same us vs moved = rw (seen vs) (λ r. (from r, to r))
  where
    from : (r : List ℕ) → Contains (dedup (pointwise nat_eq) (rows_in vs)) r → Contains (rows_in us) r
    from r m = Contains-permutation (rows_in vs) (rows_in us) r (IsPermutation-sym _ _ (IsPermutation-map numbers_of us vs moved)) (Contains-from_dedup (pointwise nat_eq) (rows_in vs) r m)

    to : (r : List ℕ) → Contains (rows_in us) r → Contains (dedup (pointwise nat_eq) (rows_in vs)) r
    to r m = Contains-dedup nat_list_eq_equiv (λ x y. (bytes_decides x y).0) (rows_in vs) r (Contains-permutation (rows_in us) (rows_in vs) r (IsPermutation-map numbers_of us vs moved) m)
