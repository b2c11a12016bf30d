-- Rows as runs.
use Rattle.std.proofs.Common.{◌≡◌, ℕ, zero, suc, ◌+◌, ◌≤◌, ◌<◌, ◌++◌, List, [], ◌∷◌, refl, sym, ap, subst, inl, inr, arith, ◌⊎◌, Some, None, length, get_or}
use Rattle.std.proofs.lemmas.Bool.{cases_lt}
use Rattle.std.proofs.lemmas.Option.{slice_get-get_or}
use Rattle.std.specs.Global.{Vec}
use Rattle.std.specs.Prelude.{slice_get}
use Rattle.hv_order.specs.inside.Facts.{Facts, IsRunOf}
use Rattle.hv_order.specs.inside.Runs.{IsRow, IsRowOf, AreRows, AreRising, AreBefore}
use Rattle.hv_order.specs.declared.trial.Run.{Run}
use Rattle.hv_order.specs.declared.runs.Row.{Row}
use Rattle.hv_order.specs.declared.runs.Row.TheVariants as kinds

pub appended : {X : Type 0} (xs : List X) (r : X) (rest : List X) → (xs ++ r ∷ []) ++ rest ≡ xs ++ r ∷ rest
appended [] r rest = refl
appended (x ∷ xs) r rest = ap (λ ys. x ∷ ys) (appended xs r rest)

pub nothing_behind : {X : Type 0} (xs : List X) → xs ++ [] ≡ xs
nothing_behind [] = refl
nothing_behind (x ∷ xs) = ap (λ ys. x ∷ ys) (nothing_behind xs)

-- one run more
pub row_more : (Fit : ℕ → ℕ → Type 0) (n s : ℕ) (runs : List Run) (r : Run) → ((rest : List Run) → IsRow Fit n s rest → IsRow Fit n 0 (runs ++ rest)) → IsRunOf Fit n s r → (rest : List Run) → IsRow Fit n (r.last + 1) rest → IsRow Fit n 0 ((runs ++ r ∷ []) ++ rest)
row_more Fit n s runs r far is rest h = rw (appended runs r rest) (far (r ∷ rest) (is, h))

-- what is so of each row is so with one more
abbrev pub AreEach : (ℕ → Row → Type 0) → List Row → Type 0
AreEach Is rows = (v : ℕ) (r : Row) → slice_get rows v ≡ Some r → Is v r

pub each_more : (Is : ℕ → Row → Type 0) (rows : List Row) (r : Row) → AreEach Is rows → Is (length rows) r → AreEach Is (rows ++ r ∷ [])
each_more Is [] r are is zero p e = let k : r ≡ p = (let i : Some r ≡ Some p = e in cc) in subst (Is zero) k is
each_more Is [] r are is (suc v) p e = absurd (let i : None ≡ Some p = e in cc)
each_more Is (x ∷ xs) r are is zero p e = are zero p e
each_more Is (x ∷ xs) r are is (suc v) p e = each_more (λ u. Is (suc u)) xs r (λ u o i. are (suc u) o i) is v p e

-- the run in which a start lies, from that start on
pub run_here : (Fit : ℕ → ℕ → Type 0) (n s x : ℕ) (runs : List Run) (i : ℕ) (d : Run) → IsRow Fit n s runs → s ≤ x → i < length runs → ((j : ℕ) → j < i → (get_or runs j d).last < x) → x ≤ (get_or runs i d).last → IsRunOf Fit n x (get_or runs i d)
run_here Fit n s x [] i d is le lt below here = absurd (omega arith)
run_here Fit n s x (r ∷ rs) zero d is le lt below here = let first = is.0 in record { begun = here; within = first.within; least = λ y a b. first.least y (omega arith) b }
run_here Fit n s x (r ∷ rs) (suc i) d is le lt below here = let a = below zero (omega arith) in run_here Fit n (r.last + 1) x rs i d is.1 (omega arith) (omega arith) (λ j k. below (suc j) (omega arith)) here

-- ends rise
pub past : (Fit : ℕ → ℕ → Type 0) (n s : ℕ) (runs : List Run) (i : ℕ) (d : Run) → IsRow Fit n s runs → i < length runs → s ≤ (get_or runs i d).last
past Fit n s [] i d is lt = absurd (omega arith)
past Fit n s (r ∷ rs) zero d is lt = is.0.begun
past Fit n s (r ∷ rs) (suc i) d is lt = let a = past Fit n (r.last + 1) rs i d is.1 (omega arith) in let b = is.0.begun in omega arith

pub rising : (Fit : ℕ → ℕ → Type 0) (n s : ℕ) (runs : List Run) (i j : ℕ) (d : Run) → IsRow Fit n s runs → i < j → j < length runs → (get_or runs i d).last < (get_or runs j d).last
rising Fit n s [] i j d is lt k = absurd (omega arith)
rising Fit n s (r ∷ rs) i zero d is lt k = absurd (omega arith)
rising Fit n s (r ∷ rs) zero (suc j) d is lt k = let a = past Fit n (r.last + 1) rs j d is.1 (omega arith) in omega arith
rising Fit n s (r ∷ rs) (suc i) (suc j) d is lt k = rising Fit n (r.last + 1) rs i j d is.1 (omega arith) (omega arith)

-- the last run ends at n
pub ends_at : (Fit : ℕ → ℕ → Type 0) (n s : ℕ) (runs : List Run) (i : ℕ) (d : Run) → IsRow Fit n s runs → s ≤ n → length runs ≡ i + 1 → (get_or runs i d).last ≡ n
ends_at Fit n s [] i d is le e = absurd (omega arith)
ends_at Fit n s (r ∷ []) zero d is le e = let a : r.last + 1 ≡ n + 1 = is.1 in omega arith
ends_at Fit n s (r ∷ []) (suc i) d is le e = absurd (omega arith)
ends_at Fit n s (r ∷ q ∷ rs) zero d is le e = absurd (omega arith)
ends_at Fit n s (r ∷ q ∷ rs) (suc i) d is le e = let a = is.1.0.begun in let b = is.1.0.within in ends_at Fit n (r.last + 1) (q ∷ rs) i d is.1 (omega arith) (omega arith)

pub some_run : (Fit : ℕ → ℕ → Type 0) (n s : ℕ) (runs : List Run) → IsRow Fit n s runs → s ≤ n → 0 < length runs
some_run Fit n s [] is le = let a : s ≡ n + 1 = is in absurd (omega arith)
some_run Fit n s (r ∷ rs) is le = omega arith

-- those up to the middle end too early where the middle does
pub behind_middle : (runs : List Run) (x m : ℕ) → AreRising runs → m < length runs → ((d : Run) → (get_or runs m d).last < x) → AreBefore runs (m + 1) x
behind_middle runs x m rise lt here j d le = by_order (cases_lt j m)
  where
    by_order : (j < m) ⊎ (m ≤ j) → (get_or runs j d).last < x
    by_order (inl a) = let p = rise j m d a lt in let q = here d in omega arith
    by_order (inr a) = let e : j ≡ m = omega arith in rw e (here d)

-- inside a list the value for outside does not matter
pub same_or : {X : Type 0} (xs : List X) (i : ℕ) (d e : X) → i < length xs → get_or xs i d ≡ get_or xs i e
same_or [] i d e lt = absurd (omega arith)
same_or (x ∷ xs) zero d e lt = refl
same_or (x ∷ xs) (suc i) d e lt = same_or xs i d e (omega arith)

-- a node with a row has one
pub has_row : (rows : List Row) (v : ℕ) → v < length rows → (r : Row) × (slice_get rows v ≡ Some r)
has_row [] v lt = absurd (omega arith)
has_row (x ∷ xs) zero lt = (x, refl)
has_row (x ∷ xs) (suc v) lt = has_row xs v (omega arith)

-- the runs of a row that is kept as runs
pub kept_runs : (q : Facts) (v : ℕ) (r : Row) (runs : Vec Run) (xs : List Run) → IsRowOf q v r → r ≡ kinds.Runs runs → xs ≡ runs.items → IsRow (q.fits v) q.last 0 xs
kept_runs q v r runs xs row is e =
    let kept : IsRowOf q v (kinds.Runs runs) = subst (IsRowOf q v) is row in
    let P : List Run → Type 0 = λ ys. IsRow (q.fits v) q.last 0 ys in
    subst P (sym e) kept.runs

-- the row of a node among rows
pub row_at : (q : Facts) (rows : List Row) (v : ℕ) (r : Row) → AreRows q rows → v < length rows → r ≡ get_or rows v r → IsRowOf q v r
row_at q rows v r are lt at = subst (IsRowOf q v) (sym at) (are v (get_or rows v r) (slice_get-get_or rows v r lt))
