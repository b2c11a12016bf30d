-- Histories in the order of their rows.
use Rattle.std.proofs.Common.{◌≡◌, ◌<◌, ◌≤◌, ◌-◌, ◌⊎◌, inl, inr, ℕ, zero, suc, Bool, true, false, nat_le, List, [], ◌∷◌, length, map, get_or, Option, Some, None, Ok, refl, sym, ap, ◌∙◌, subst, arith, bytes_eq}
use Rattle.std.specs.List.{All, Contains}
use Rattle.std.specs.List.Sorted.{IsNonDecreasingBy, IsPartitionPoint}
use Rattle.std.specs.Cmp.Lexicographic.{bytes_decides}
use Rattle.std.proofs.lemmas.Bool.{cases_lt}
use Rattle.std.proofs.lemmas.List.{get_or-map, get_or_default, length-map}
use Rattle.hv_lists.proofs.Bools.{if_true, if_false}
use Rattle.hv_lists.proofs.Contained.{none_in_empty}
use Rattle.hv_state.specs.Atoms.{row_of}
use Rattle.hv_state.specs.declared.history.Change as code
use Rattle.hv_state.specs.declared.history.History.{History}
use Rattle.hv_world.specs.Bindings.{GroundAtom}
use Rattle.hv_state.specs.inside.Bits.{Has}
use Rattle.hv_state.specs.inside.Rows.{atom_of, IsBelow, Ascend, IsPlace}
use Rattle.hv_state.specs.Changes.{Change, told_from, told}
use Rattle.hv_state.specs.inside.Histories.{Table, Rise, beside, rows_of, index_of, truth_of, change_view, changes_of, history_view, kept, AreFlagged}
use Rattle.hv_state.proofs.RowLemmas.{below_itself, contains_cases}

-- the rows of histories
abbrev pub numbers : History → List ℕ
numbers h = h.row.numbers.items

pub rows_are : (hs : List History) → rows_of (map history_view hs) ≡ map numbers hs
rows_are [] = refl
rows_are (h ∷ hs) = ap (λ rows. numbers h ∷ rows) (rows_are hs)

pub numbers_are : (hs : List History) (t : Table) → map history_view hs ≡ t → map numbers hs ≡ rows_of t
numbers_are hs t view_is = sym (rows_are hs) ∙ ap rows_of view_is

pub found_in : (hs : List History) (row : List ℕ) (i : ℕ) → IsPlace (map numbers hs) row (Ok i) → IsPlace (rows_of (map history_view hs)) row (Ok i)
found_in hs row i = subst (λ rows. IsPlace rows row (Ok i)) (sym (rows_are hs))

pub not_found_in : (hs : List History) (row : List ℕ) → (Contains (map numbers hs) row → ⊥) → Contains (rows_of (map history_view hs)) row → ⊥
not_found_in hs row = subst (λ rows. Contains rows row → ⊥) (sym (rows_are hs))

-- indices rise, as the code has them
pub indices_rise : (cs : List code.Change) → Rise (map change_view cs) → IsNonDecreasingBy index_of cs
indices_rise cs rise i j d le lt = by (cases_lt i j)
  where
    at : (k : ℕ) → k < length cs → (get_or (map change_view cs) k (change_view d)).0 ≡ index_of (get_or cs k d)
    at k within = ap (λ c. c.0) (get_or-map change_view cs k d (change_view d) within)

    by : (i < j) ⊎ (j ≤ i) → index_of (get_or cs i d) ≤ index_of (get_or cs j d)
    by (inl before) =
        let h : (get_or (map change_view cs) i (change_view d)).0 < (get_or (map change_view cs) j (change_view d)).0 = rise i j (change_view d) before (omega (arith, lt, length-map cs change_view)) in
        let a = at i (omega (arith, before, lt)) in
        let b = at j lt in
        omega (arith, h, a, b)
    by (inr behind) = let same : i ≡ j = omega (arith, behind, le) in subst (λ k. index_of (get_or cs i d) ≤ index_of (get_or cs k d)) same (omega arith)

-- the last change before a place
abbrev at_place : Option Bool → List code.Change → ℕ → Option Bool
at_place o cs zero = o
at_place o [] (suc i) = o
at_place o (c ∷ cs) (suc i) = at_place (Some (truth_of c)) cs i

told_by : (k : ℕ) (o : Option Bool) (cs : List code.Change) (i : ℕ) → i ≤ length cs → ((j : ℕ) (d : code.Change) → j < i → nat_le (index_of (get_or cs j d)) k ≡ true) → ((j : ℕ) (d : code.Change) → i ≤ j → j < length cs → nat_le (index_of (get_or cs j d)) k ≡ false)
    → told_from o k (map change_view cs) ≡ at_place o cs i
told_by k o [] zero le low high = refl
told_by k o [] (suc i) le low high = refl
told_by k o (c ∷ cs) zero le low high =
    ap (λ x. told_from x k (map change_view cs)) (if_false (nat_le (index_of c) k) (Some (truth_of c)) o (high 0 c (omega arith) (omega arith)))
    ∙ told_by k o cs zero (omega arith) (λ j d lt. absurd (omega (arith, lt))) (λ j d from lt. high (suc j) d (omega arith) (omega (arith, lt)))
told_by k o (c ∷ cs) (suc i) le low high =
    ap (λ x. told_from x k (map change_view cs)) (if_true (nat_le (index_of c) k) (Some (truth_of c)) o (low 0 c (omega arith)))
    ∙ told_by k (Some (truth_of c)) cs i (omega (arith, le)) (λ j d lt. low (suc j) d (omega (arith, lt))) (λ j d from lt. high (suc j) d (omega (arith, from)) (omega (arith, lt)))

there : (o : Option Bool) (cs : List code.Change) (i : ℕ) (d : code.Change) → i < length cs → at_place o cs (suc i) ≡ Some (truth_of (get_or cs i d))
there o [] i d lt = absurd (omega (arith, lt))
there o (c ∷ cs) zero d lt = refl
there o (c ∷ cs) (suc i) d lt = there (Some (truth_of c)) cs i d (omega (arith, lt))

module _ (cs : List code.Change) (k past : ℕ) (within : past ≤ length cs) (point : IsPartitionPoint (λ c. nat_le (index_of c) k ≡ true) (λ c. nat_le (index_of c) k ≡ false) cs past) where
  parted : told k (map change_view cs) ≡ at_place None cs past
  parted = told_by k None cs past within (λ j d lt. point.0 j d (omega arith) lt) (λ j d from lt. point.1 j d from lt)

  pub none_up_to : past ≡ 0 → None ≡ told k (map change_view cs)
  none_up_to e = sym (parted ∙ ap (at_place None cs) e)

  pub last_is : (d : code.Change) → 0 < past → Some (truth_of (get_or cs (past - 1) d)) ≡ told k (map change_view cs)
  last_is d some =
      let next : past ≡ suc (past - 1) = omega (arith, some) in
      sym (parted ∙ ap (at_place None cs) next ∙ there None cs (past - 1) d (omega (arith, some, within)))

-- what stands beside a row
pub is_row : (x y : List ℕ) → x ≡ y → bytes_eq x y ≡ true
is_row x y e = (bytes_decides x y).1 e

pub no_row : (x y : List ℕ) → (x ≡ y → ⊥) → bytes_eq x y ≡ false
no_row x y out = by (bytes_eq x y) (bytes_decides x y).0
  where
    by : (b : Bool) → (b ≡ true → x ≡ y) → b ≡ false
    by true h = absurd (out (h refl))
    by false h = refl

pub tail_ascends : (x : List ℕ) (xs : List (List ℕ)) → Ascend (x ∷ xs) → Ascend xs
tail_ascends x xs h = λ i j d lt within. h (suc i) (suc j) d (omega (arith, lt)) (omega (arith, within))

pub beside_at : (es : Table) (row : List ℕ) (i : ℕ) (d : List ℕ × List Change) → Ascend (rows_of es) → i < length es → get_or (rows_of es) i [] ≡ row → beside es row ≡ (get_or es i d).1
beside_at [] row i d h lt e = absurd (omega (arith, lt))
beside_at (x ∷ es) row zero d h lt e = if_true (bytes_eq row x.0) x.1 (beside es row) (is_row row x.0 (sym e))
beside_at (x ∷ es) row (suc i) d h lt e =
    let below : IsBelow x.0 (get_or (rows_of es) i []) = h 0 (suc i) [] (omega arith) (omega (arith, lt, length-map es (λ (f : List ℕ × List Change). f.0))) in
    let apart : row ≡ x.0 → ⊥ = λ same. below_itself x.0 (subst (IsBelow x.0) (e ∙ same) below) in
    if_false (bytes_eq row x.0) x.1 (beside es row) (no_row row x.0 apart) ∙ beside_at es row i d (tail_ascends x.0 (rows_of es) h) (omega (arith, lt)) e

pub nothing_beside : (es : Table) (row : List ℕ) → ((k : ℕ) → k < length es → get_or (rows_of es) k [] ≡ row → ⊥) → beside es row ≡ []
nothing_beside [] row out = refl
nothing_beside (x ∷ es) row out =
    if_false (bytes_eq row x.0) x.1 (beside es row) (no_row row x.0 (λ same. out 0 (omega arith) (sym same)))
    ∙ nothing_beside es row (λ k lt e. out (suc k) (omega (arith, lt)) e)

-- nor beside a row that stands nowhere
pub lacking_beside : (t : Table) (row : List ℕ) → (Contains (rows_of t) row → ⊥) → beside t row ≡ []
lacking_beside t row lacks = nothing_beside t row (λ k lt e. lacks (k, within k lt, get_or_default (rows_of t) k row [] (within k lt) ∙ e))
  where
    within : (k : ℕ) → k < length t → k < length (rows_of t)
    within k lt = omega (arith, lt, length-map t (λ (e : List ℕ × List Change). e.0))

-- the history at a place
module _ (hs : List History) (row : List ℕ) (i : ℕ) (h : History) (ascend : Ascend (rows_of (map history_view hs))) (lt : i < length (rows_of (map history_view hs))) (at : get_or (rows_of (map history_view hs)) i [] ≡ row) (is : h ≡ get_or hs i h) where
  pub in_views : i < length (map history_view hs)
  in_views = omega (arith, lt, length-map (map history_view hs) (λ (e : List ℕ × List Change). e.0))

  pub entry : get_or (map history_view hs) i (history_view h) ≡ history_view h
  entry = get_or-map history_view hs i h (history_view h) (omega (arith, in_views, length-map hs history_view)) ∙ ap history_view (sym is)

  pub changes_beside : beside (map history_view hs) row ≡ changes_of h
  changes_beside = beside_at (map history_view hs) row i (history_view h) ascend in_views at ∙ ap (λ e. e.1) entry

  pub list_rises : All (λ e. Rise e.1) (map history_view hs) → Rise (changes_of h)
  list_rises all = subst (λ e. Rise e.1) entry (all i (history_view h) in_views)

-- a predicate without its flag has no changes
pub unflagged : (t : Table) (flags : List ℕ) → AreFlagged flags (rows_of t) → (g : GroundAtom) → (Has flags g.predicate → ⊥) → [] ≡ kept t g
unflagged t flags all g out = sym (lacking_beside t (row_of g) (λ m. out (all (row_of g) m)))

-- the rows but those that are left have their flags
abbrev pub FlaggedBut : List ℕ → List (List ℕ) → List (List ℕ) → Type 0
FlaggedBut flags rows left = (r : List ℕ) → Contains rows r → Has flags (atom_of r).predicate ⊎ Contains left r

pub flagged_more : (old new : List ℕ) (rows left rest : List (List ℕ)) (row : List ℕ) (n : ℕ) → n ≡ (atom_of row).predicate → left ≡ row ∷ rest → ((i : ℕ) → (Has old i ⊎ (i ≡ n)) → Has new i) → FlaggedBut old rows left → FlaggedBut new rows rest
flagged_more old new rows left rest row n is more raised before r m = by (before r m)
  where
    by : Has old (atom_of r).predicate ⊎ Contains left r → Has new (atom_of r).predicate ⊎ Contains rest r
    by (inl h) = inl (raised (atom_of r).predicate (inl h))
    by (inr l) = elim (contains_cases r row rest (subst (λ xs. Contains xs r) more l)) [ inl e ↦ inl (raised (atom_of r).predicate (inr (ap (λ x. (atom_of x).predicate) e ∙ sym is))) | inr k ↦ inr k ]

pub flagged_all : (flags : List ℕ) (rows left : List (List ℕ)) → left ≡ [] → FlaggedBut flags rows left → AreFlagged flags rows
flagged_all flags rows left none but r m = elim (but r m) [ inl h ↦ h | inr l ↦ absurd (none_in_empty r (subst (λ xs. Contains xs r) none l)) ]
