-- Rows among which each atom is that is true somewhere in a stretch of a plan's states.
use Rattle.std.proofs.Common.{◌≡◌, ◌≤◌, ◌<◌, ◌+◌, ◌/◌, ◌%◌, ◌↔◌, ◌⊎◌, ◌++◌, ◌∷◌, [], ℕ, zero, suc, List, length, IsTrue, Bool, true, false, nat_eq, bytes_eq, inl, inr, true≢false, refl, sym, ap, ◌∙◌, subst, arith}
use Rattle.std.specs.Prelude.{cond, slice_index}
use Rattle.std.specs.Int.{bit_at}
use Rattle.std.specs.List.{Contains, filter}
use Rattle.std.specs.Cmp.Lexicographic.{bytes_decides}
use Rattle.std.proofs.lemmas.Bool.{eq-eqb, eqb-true}
use Rattle.std.proofs.lemmas.List.Elements.{Contains-append_left, Contains-append_right, All-contains, filter_passes}
use Rattle.hv_lists.proofs.Bools.{both_true, and_both, or_left, or_right, or_cases}
use Rattle.hv_lists.proofs.Contained.{at_head, in_tail, contains_cases, none_in_empty}
use Rattle.hv_lists.proofs.Numbers.{either_side}
use Rattle.hv_world.specs.Bindings.{GroundAtom}
use Rattle.hv_state.specs.Atoms.{row_of}
use Rattle.hv_state.specs.Plans.{Plan, StateAt, Start, AfterActions}
use Rattle.hv_state.specs.Changes.{Tells}
use Rattle.hv_state.specs.Ever.{is_listed, HasAllEver}
use Rattle.hv_state.specs.inside.Bits.{Bits, Has, Lit, Shown}
use Rattle.hv_state.specs.inside.Histories.{Table, beside, kept, rows_of}
use Rattle.hv_state.specs.inside.Notes.{IsRecorded}
use Rattle.hv_state.specs.inside.Stretches.{is_lit_from, is_lit, is_true_in}
use Rattle.hv_state.proofs.HistoryLemmas.{is_row, lacking_beside}
use Rattle.hv_state.proofs.NoteLemmas.{moment_is, row_decided}
use Rattle.hv_state.proofs.SomeLemmas.{taken}
use Rattle.hv_state.proofs.StretchLemmas.{true_somewhere}

-- a row that is listed, by a test or as what the list contains
pub listed : (rows : List (List ℕ)) (g : GroundAtom) → Contains rows (row_of g) → is_listed rows g ≡ true
listed [] g m = absurd (none_in_empty (row_of g) m)
listed (r ∷ rows) g m = elim (contains_cases r rows (row_of g) m) [ inl e ↦ or_left _ _ (is_row (row_of g) r e) | inr l ↦ or_right _ _ (listed rows g l) ]

pub contained : (rows : List (List ℕ)) (g : GroundAtom) → is_listed rows g ≡ true → Contains rows (row_of g)
contained [] g t = cc
contained (r ∷ rows) g t = elim (or_cases _ _ t) [ inl e ↦ at_head r rows (row_of g) ((bytes_decides (row_of g) r).0 e) | inr l ↦ in_tail r rows (row_of g) (contained rows g l) ]

-- the rows that pass a test
pub in_rows : (t : List ℕ → Bool) (rows : List (List ℕ)) (x : List ℕ) → Contains rows x → t x ≡ true → Contains (filter t rows) x
in_rows t [] x m e = absurd (none_in_empty x m)
in_rows t (r ∷ rows) x m e = by (t r) refl (contains_cases r rows x m) (λ k. in_rows t rows x k e)
  where
    by : (b : Bool) → t r ≡ b → (x ≡ r) ⊎ Contains rows x → (Contains rows x → Contains (filter t rows) x) → Contains (cond b (r ∷ filter t rows) (filter t rows)) x
    by true is (inl same) rest = at_head r (filter t rows) x same
    by true is (inr later) rest = in_tail r (filter t rows) x (rest later)
    by false is (inl same) rest = absurd (true≢false (sym e ∙ ap t same ∙ is))
    by false is (inr later) rest = rest later

pub from_rows : (t : List ℕ → Bool) (rows : List (List ℕ)) (x : List ℕ) → Contains (filter t rows) x → Contains rows x
from_rows t [] x m = m
from_rows t (r ∷ rows) x m = by (t r) m (from_rows t rows x)
  where
    place : (x ≡ r) ⊎ Contains (filter t rows) x → (Contains (filter t rows) x → Contains rows x) → Contains (r ∷ rows) x
    place (inl e) rest = at_head r rows x e
    place (inr later) rest = in_tail r rows x (rest later)

    by : (b : Bool) → Contains (cond b (r ∷ filter t rows) (filter t rows)) x → (Contains (filter t rows) x → Contains rows x) → Contains (r ∷ rows) x
    by true k rest = place (contains_cases r (filter t rows) x k) rest
    by false k rest = in_tail r rows x (rest k)

passing : (t : List ℕ → Bool) (rows : List (List ℕ)) (x : List ℕ) → Contains (filter t rows) x → t x ≡ true
passing t rows x m = All-contains (λ y. t y ≡ true) (filter t rows) x (filter_passes t rows) m

-- whether the bit of a row is set, by a test or as what is lit
lit_from : (rows : List (List ℕ)) (words : List ℕ) (i : ℕ) (row : List ℕ) → is_lit_from rows words i row ≡ true → (m : Contains rows row) × Has words (i + m.0)
lit_from [] words i row e = absurd (true≢false (sym e))
lit_from (r ∷ rows) words i row e =
    elim (or_cases _ _ e) [
      | inl h ↦ (
          let both = both_true (bytes_eq row r) (nat_eq (bit_at (slice_index words (i / 64)) (i % 64)) 1) h in
          let here : i ≡ i + 0 = omega arith in
          ((0, omega arith, sym ((bytes_decides row r).0 both.0)), subst (Has words) here (eqb-true (bit_at (slice_index words (i / 64)) (i % 64)) 1 both.1))
          )
      | inr h ↦ (
          let rest = lit_from rows words (suc i) row h in
          let there : suc i + rest.0.0 ≡ i + suc rest.0.0 = omega arith in
          ((suc rest.0.0, omega (arith, rest.0.1), rest.0.2), subst (Has words) there rest.1)
          )
    ]

lit_to : (rows : List (List ℕ)) (words : List ℕ) (i : ℕ) (row : List ℕ) (m : Contains rows row) → Has words (i + m.0) → is_lit_from rows words i row ≡ true
lit_to [] words i row m h = absurd (none_in_empty row m)
lit_to (r ∷ rows) words i row (zero, lt, e) h =
    let here : i + 0 ≡ i = omega arith in
    or_left _ _ (and_both _ _ (is_row row r (sym e)) (eq-eqb (bit_at (slice_index words (i / 64)) (i % 64)) 1 (subst (Has words) here h)))
lit_to (r ∷ rows) words i row (suc k, lt, e) h =
    let there : i + suc k ≡ suc i + k = omega arith in
    or_right _ _ (lit_to rows words (suc i) row (k, omega (arith, lt), e) (subst (Has words) there h))

pub lit_is : (b : Bits) (row : List ℕ) → IsTrue (is_lit b row) ↔ Lit b row
lit_is b row = (
  λ e.
      let h = lit_from b.0 b.1 0 row e in
      let same : 0 + h.0.0 ≡ h.0.0 = omega arith in
      (h.0, subst (Has b.1) same h.1),
  λ l.
      let same : l.0.0 ≡ 0 + l.0.0 = omega arith in
      lit_to b.0 b.1 0 row l.0 (subst (Has b.1) same l.1),
)

-- what is true somewhere in a stretch is listed
pub true_is_known : (bits : Bits) (t : Table) (from end : ℕ) (row : List ℕ) → is_true_in (is_lit bits row) from end (beside t row) ≡ true → Contains (bits.0 ++ rows_of t) row
true_is_known bits t from end row e = elim (row_decided (rows_of t) row) [
  | inl m ↦ Contains-append_right bits.0 (rows_of t) row m
  | inr out ↦ (
      let none : is_true_in (is_lit bits row) from end [] ≡ true = subst (λ cs. is_true_in (is_lit bits row) from end cs ≡ true) (lacking_beside t row out) e in
      elim (or_cases (is_lit bits row) false none) [ inl lit ↦ Contains-append_left bits.0 (rows_of t) row ((lit_is bits row).0 lit).0 | inr other ↦ absurd (true≢false (sym other)) ]
      )
]

-- the test by which rows are those of a stretch
abbrev pub in_stretch : Bits → Table → ℕ → ℕ → List ℕ → Bool
in_stretch bits t from end row = is_true_in (is_lit bits row) from end (beside t row)

pub is_listed_in : (bits : Bits) (t : Table) (from end : ℕ) (g : GroundAtom) → in_stretch bits t from end (row_of g) ≡ true → is_listed (filter (in_stretch bits t from end) (bits.0 ++ rows_of t)) g ≡ true
is_listed_in bits t from end g e =
    listed (filter (in_stretch bits t from end) (bits.0 ++ rows_of t)) g
    (in_rows (in_stretch bits t from end) (bits.0 ++ rows_of t) (row_of g) (true_is_known bits t from end (row_of g) e) e)

pub listed_is_in : (bits : Bits) (t : Table) (from end : ℕ) (g : GroundAtom) → is_listed (filter (in_stretch bits t from end) (bits.0 ++ rows_of t)) g ≡ true → in_stretch bits t from end (row_of g) ≡ true
listed_is_in bits t from end g e =
    passing (in_stretch bits t from end) (bits.0 ++ rows_of t) (row_of g)
    (contained (filter (in_stretch bits t from end) (bits.0 ++ rows_of t)) g e)

module _ (p : Plan) (bits : Bits) (t : Table) (recorded : IsRecorded p (Shown bits) t) (from end : ℕ) where
  -- a state within the plan
  within : (k : ℕ) → k ≤ length p.actions → (g : GroundAtom) → from ≤ k → k < end → StateAt p k g → is_listed (filter (in_stretch bits t from end) (bits.0 ++ rows_of t)) g ≡ true
  within k le g low high h =
      let told : Tells (Shown bits g) k (kept t g) = (moment_is p (Shown bits) t recorded k le g).1 h in
      is_listed_in bits t from end g (true_somewhere (Shown bits g) (is_lit bits (row_of g)) (lit_is bits (row_of g)) from end k low high (kept t g) told)

  pub ever_all : from ≤ length p.actions → HasAllEver p from end (filter (in_stretch bits t from end) (bits.0 ++ rows_of t))
  ever_all begun k g low high h = elim (either_side (length p.actions) k) [
    | inl lt ↦ within (length p.actions) (omega arith) g begun (omega (arith, lt, high)) (subst (λ xs. AfterActions p.world (Start p.world) xs g) (taken p.actions k (omega (arith, lt)) ∙ sym (taken p.actions (length p.actions) (omega arith))) h)
    | inr le ↦ within k le g low high h
  ]
