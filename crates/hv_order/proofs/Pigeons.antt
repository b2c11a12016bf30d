-- As many numbers below n as n, each another, are all the numbers below n.
use Rattle.std.proofs.Common.{◌≡◌, ℕ, suc, ◌<◌, ◌≤◌, true, List, [], ◌∷◌, length, sym, subst, inl, inr, arith, ◌⊎◌, Contains}
use Rattle.std.specs.Prelude.{All}
use Rattle.std.specs.List.{list_any}
use Rattle.std.proofs.Math.Dec.{eqb}
use Rattle.std.proofs.lemmas.Bool.{cases_lt}
use Rattle.std.proofs.lemmas.Bool.Decides.{Decides-eqb}
use Rattle.std.proofs.lemmas.List.Elements.{All-contains}
use Rattle.std.proofs.lemmas.Map.Made.{IsDistinct-from_AllPairs}
use Rattle.std.proofs.lemmas.Map.Steps.{length-le_from_distinct_below, le-length_from_below}
use Rattle.std.proofs.lemmas.Option.{slice_get-get_or}
use Rattle.std.specs.List.{slice_index_or}
use Rattle.hv_lists.specs.Lists.{Once}
use Rattle.hv_lists.proofs.Contained.{at_head, in_tail, contains_cases, none_in_empty}
use Rattle.hv_lists.proofs.EachOnce.{once_more}
use Rattle.hv_lists.proofs.Bools.{or_cases, or_left, or_right}
use Rattle.hv_order.proofs.Members.{SameNumber, equal_numbers, other_numbers, number_cases, number_from, number_test, not_true}

any_member : (n : ℕ) (xs : List ℕ) → list_any (eqb n) xs ≡ true → Contains xs n
any_member n [] e = not_true e
any_member n (x ∷ xs) e = by (or_cases (eqb n x) (list_any (eqb n) xs) e) (any_member n xs)
  where
    by : (eqb n x ≡ true) ⊎ (list_any (eqb n) xs ≡ true) → (list_any (eqb n) xs ≡ true → Contains xs n) → Contains (x ∷ xs) n
    by (inl here) rest = at_head x xs n (number_from n x here)
    by (inr later) rest = in_tail x xs n (rest later)

-- numbers below n, each another, are at most n
few_below : (n : ℕ) (xs : List ℕ) → Once xs → ((x : ℕ) → Contains xs x → x < n) → length xs ≤ n
few_below n xs once below =
    length-le_from_distinct_below xs n (IsDistinct-from_AllPairs {eq = eqb} Decides-eqb xs once)
    (λ m e. below m (any_member m xs e))

-- a number is a member of a list or not
pub is_number_in : (n : ℕ) (xs : List ℕ) → Contains xs n ⊎ (Contains xs n → ⊥)
is_number_in n [] = inr (none_in_empty n)
is_number_in n (x ∷ xs) = by (number_cases n x) (is_number_in n xs)
  where
    neither : (n ≡ x → ⊥) → (Contains xs n → ⊥) → (n ≡ x) ⊎ Contains xs n → ⊥
    neither other none (inl e) = other e
    neither other none (inr m) = none m

    by : SameNumber n x → Contains xs n ⊎ (Contains xs n → ⊥) → Contains (x ∷ xs) n ⊎ (Contains (x ∷ xs) n → ⊥)
    by (equal_numbers e test) later = inl (at_head x xs n e)
    by (other_numbers other test) (inl m) = inl (in_tail x xs n m)
    by (other_numbers other test) (inr none) = inr (λ m. neither other none (contains_cases x xs n m))

pub all_places : (n : ℕ) (xs : List ℕ) → Once xs → All (λ x. x < n) xs → length xs ≡ n → (m : ℕ) → m < n → Contains xs m
all_places n xs once within all m lt = by (is_number_in m xs)
  where
    below : (x : ℕ) → (x ≡ m) ⊎ Contains xs x → x < n
    below x (inl e) = omega arith
    below x (inr k) = All-contains (λ y. y < n) xs x within k

    by : Contains xs m ⊎ (Contains xs m → ⊥) → Contains xs m
    by (inl k) = k
    by (inr none) =
        let few : suc (length xs) ≤ n = few_below n (m ∷ xs) (once_more m xs none once) (λ x k. below x (contains_cases m xs x k)) in
        absurd (omega arith)

-- inside a list the default does not matter
pub same_default : {X : Type 0} (xs : List X) (i : ℕ) (d e : X) → i < length xs → slice_index_or xs i d ≡ slice_index_or xs i e
same_default xs i d e lt =
    let first = slice_get-get_or xs i d lt in
    let second = slice_get-get_or xs i e lt in
    cc

-- in a list that has each once, a member stands at one place
pub one_place : {X : Type 0} (xs : List X) → Once xs → (i j : ℕ) (d : X) → i < length xs → j < length xs → slice_index_or xs i d ≡ slice_index_or xs j d → i ≡ j
one_place xs once i j d in_i in_j same = by (cases_lt i j) (cases_lt j i)
  where
    by : (i < j) ⊎ (j ≤ i) → (j < i) ⊎ (i ≤ j) → i ≡ j
    by (inl less) other = absurd (once i j d less in_j same)
    by (inr up) (inl less) = absurd (once j i d less in_i (sym same))
    by (inr up) (inr down) = omega arith

member_any : (n : ℕ) (xs : List ℕ) → Contains xs n → list_any (eqb n) xs ≡ true
member_any n [] m = absurd (none_in_empty n m)
member_any n (x ∷ xs) m = by (contains_cases x xs n m) (member_any n xs)
  where
    by : (n ≡ x) ⊎ Contains xs n → (Contains xs n → list_any (eqb n) xs ≡ true) → list_any (eqb n) (x ∷ xs) ≡ true
    by (inl e) rest = or_left (eqb n x) (list_any (eqb n) xs) (subst (λ y. eqb n y ≡ true) e (number_test n))
    by (inr later) rest = or_right (eqb n x) (list_any (eqb n) xs) (rest later)

-- a list of the numbers below n, each once, has as many
pub as_many_below : (n : ℕ) (xs : List ℕ) → Once xs → ((x : ℕ) → Contains xs x → x < n) → ((x : ℕ) → x < n → Contains xs x) → length xs ≡ n
as_many_below n xs once below whole =
    let most = few_below n xs once below in
    let least = le-length_from_below xs n (λ m lt. member_any m xs (whole m lt)) in
    omega arith
