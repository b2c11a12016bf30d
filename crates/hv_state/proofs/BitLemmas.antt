-- What changes of bits change of the atoms that are true.
use Rattle.std.proofs.Common.{◌≡◌, ◌≢◌, ◌<◌, ◌≤◌, ◌*◌, ◌+◌, ◌-◌, ◌++◌, ◌/◌, ◌%◌, ◌^◌, ◌⊎◌, ◌↔◌, inl, inr, bit_and, bit_or, ℕ, List, [], ◌∷◌, refl, sym, ap, ◌∙◌, subst, arith, length, set, get_or, slice_index, get_or-set_same, get_or-set_other, w64}
use Rattle.std.specs.List.{Contains}
use Rattle.std.specs.Int.{bit_at, bit_not}
use Rattle.std.proofs.lemmas.Bool.{cases_eq, cases_lt}
use Rattle.std.proofs.lemmas.List.{get_or_default}
use Rattle.std.proofs.lemmas.List.Elements.{Contains-push, Contains-push_cases, Contains-append_left}
use Rattle.std.proofs.lemmas.Nat.Bits.{bit_at_ones, bit_at_set_same, bit_at_set_other, bit_at_clear_same, bit_at_clear_other}
use Rattle.hv_lists.proofs.Contained.{contains_first, in_tail, none_in_empty}
use Rattle.hv_state.specs.inside.Rows.{IsBelow, Ascend}
use Rattle.hv_state.specs.inside.Bits.{Has, Bits, Lit, Knows}
use Rattle.hv_state.proofs.RowLemmas.{below_itself, contains_cases}

-- one word of several changes
module _ (ws : List ℕ) (s : ℕ) (w : s / 64 < length ws) where
  small : s % 64 < 64
  small = omega arith

  mask : ℕ
  mask = 1 * 2 ^ (s % 64) % 2 ^ 64

  module _ (x : ℕ) (others : (k : ℕ) → k < 64 → k ≢ s % 64 → bit_at x k ≡ bit_at (slice_index ws (s / 64)) k) where
    other_bit : (i : ℕ) → i ≢ s → bit_at (slice_index (set ws (s / 64) x) (i / 64)) (i % 64) ≡ bit_at (slice_index ws (i / 64)) (i % 64)
    other_bit i n = by (cases_eq (i / 64) (s / 64))
      where
        by : (i / 64 ≡ s / 64) ⊎ (i / 64 ≡ s / 64 → ⊥) → bit_at (slice_index (set ws (s / 64) x) (i / 64)) (i % 64) ≡ bit_at (slice_index ws (i / 64)) (i % 64)
        by (inl e) =
            ap (λ k. bit_at (slice_index (set ws (s / 64) x) k) (i % 64)) e ∙ ap (λ word. bit_at word (i % 64)) (get_or-set_same ws (s / 64) x 0 w)
            ∙ others (i % 64) (omega arith) (omega (arith, n, e)) ∙ ap (λ k. bit_at (slice_index ws k) (i % 64)) (sym e)
        by (inr d) = ap (λ word. bit_at word (i % 64)) (get_or-set_other ws (s / 64) (i / 64) x 0 d)

    this_bit : bit_at (slice_index (set ws (s / 64) x) (s / 64)) (s % 64) ≡ bit_at x (s % 64)
    this_bit = ap (λ word. bit_at word (s % 64)) (get_or-set_same ws (s / 64) x 0 w)

  pub bit_set : (i : ℕ) → Has (set ws (s / 64) (bit_or (slice_index ws (s / 64)) (1 * 2 ^ (s % 64) % 2 ^ 64))) i ↔ (Has ws i ⊎ (i ≡ s))
  bit_set i = (λ h. from h (cases_eq i s), λ h. to h (cases_eq i s))
    where
      x : ℕ
      x = bit_or (slice_index ws (s / 64)) (1 * 2 ^ (s % 64) % 2 ^ 64)

      others : (k : ℕ) → k < 64 → k ≢ s % 64 → bit_at (bit_or (slice_index ws (s / 64)) (1 * 2 ^ (s % 64) % 2 ^ 64)) k ≡ bit_at (slice_index ws (s / 64)) k
      others k lt n = bit_at_set_other w64 (slice_index ws (s / 64)) (s % 64) small k n

      New : ℕ → Type 0
      New j = Has (set ws (s / 64) (bit_or (slice_index ws (s / 64)) (1 * 2 ^ (s % 64) % 2 ^ 64))) j

      at_s : Has (set ws (s / 64) (bit_or (slice_index ws (s / 64)) (1 * 2 ^ (s % 64) % 2 ^ 64))) s
      at_s = this_bit (bit_or (slice_index ws (s / 64)) (1 * 2 ^ (s % 64) % 2 ^ 64)) others ∙ bit_at_set_same w64 (slice_index ws (s / 64)) (s % 64) small

      from : Has (set ws (s / 64) (bit_or (slice_index ws (s / 64)) (1 * 2 ^ (s % 64) % 2 ^ 64))) i → (i ≡ s) ⊎ (i ≡ s → ⊥) → Has ws i ⊎ (i ≡ s)
      from h (inl e) = inr e
      from h (inr n) = inl (sym (other_bit (bit_or (slice_index ws (s / 64)) (1 * 2 ^ (s % 64) % 2 ^ 64)) others i n) ∙ h)

      to : Has ws i ⊎ (i ≡ s) → (i ≡ s) ⊎ (i ≡ s → ⊥) → Has (set ws (s / 64) (bit_or (slice_index ws (s / 64)) (1 * 2 ^ (s % 64) % 2 ^ 64))) i
      to h (inl e) = subst (λ j. Has (set ws (s / 64) (bit_or (slice_index ws (s / 64)) (1 * 2 ^ (s % 64) % 2 ^ 64))) j) (sym e) at_s
      to (inl h) (inr n) = other_bit (bit_or (slice_index ws (s / 64)) (1 * 2 ^ (s % 64) % 2 ^ 64)) others i n ∙ h
      to (inr e) (inr n) = absurd (n e)

  pub bit_cleared : (i : ℕ) → Has (set ws (s / 64) (bit_and (slice_index ws (s / 64)) (bit_not w64 (1 * 2 ^ (s % 64) % 2 ^ 64)))) i ↔ (Has ws i × (i ≡ s → ⊥))
  bit_cleared i = (λ h. from h (cases_eq i s), λ h. other_bit (bit_and (slice_index ws (s / 64)) (bit_not w64 (1 * 2 ^ (s % 64) % 2 ^ 64))) others i h.1 ∙ h.0)
    where
      others : (k : ℕ) → k < 64 → k ≢ s % 64 → bit_at (bit_and (slice_index ws (s / 64)) (bit_not w64 (1 * 2 ^ (s % 64) % 2 ^ 64))) k ≡ bit_at (slice_index ws (s / 64)) k
      others k lt n = bit_at_clear_other w64 (slice_index ws (s / 64)) (s % 64) small k lt n

      at_s : Has (set ws (s / 64) (bit_and (slice_index ws (s / 64)) (bit_not w64 (1 * 2 ^ (s % 64) % 2 ^ 64)))) s → ⊥
      at_s h = let none : 0 ≡ 1 = sym (this_bit (bit_and (slice_index ws (s / 64)) (bit_not w64 (1 * 2 ^ (s % 64) % 2 ^ 64))) others ∙ bit_at_clear_same w64 (slice_index ws (s / 64)) (s % 64) small) ∙ h in omega (arith, none)

      from : Has (set ws (s / 64) (bit_and (slice_index ws (s / 64)) (bit_not w64 (1 * 2 ^ (s % 64) % 2 ^ 64)))) i → (i ≡ s) ⊎ (i ≡ s → ⊥) → Has ws i × (i ≡ s → ⊥)
      from h (inl e) = absurd (at_s (subst (λ j. Has (set ws (s / 64) (bit_and (slice_index ws (s / 64)) (bit_not w64 (1 * 2 ^ (s % 64) % 2 ^ 64)))) j) e h))
      from h (inr n) = (sym (other_bit (bit_and (slice_index ws (s / 64)) (bit_not w64 (1 * 2 ^ (s % 64) % 2 ^ 64))) others i n) ∙ h, n)

-- words of which each bit is set
pub each_set : (ws : List ℕ) (n : ℕ) → ((k : ℕ) → k < n → slice_index ws k ≡ 2 ^ 64 - 1) → (i : ℕ) → i / 64 < n → Has ws i
each_set ws n full i lt = ap (λ word. bit_at word (i % 64)) (full (i / 64) lt) ∙ bit_at_ones 64 (i % 64) (omega arith)

-- a row stands at one place
read_at : (rows : List (List ℕ)) (r : List ℕ) (m : Contains rows r) (d : List ℕ) → get_or rows m.0 d ≡ r
read_at rows r m d = get_or_default rows m.0 d r m.1 ∙ m.2

pub one_place : (rows : List (List ℕ)) → Ascend rows → (r s : List ℕ) → r ≡ s → (m : Contains rows r) (n : Contains rows s) → m.0 ≡ n.0
one_place rows ascend r s e m n = by (cases_lt m.0 n.0) (cases_lt n.0 m.0)
  where
    apart : (x y : List ℕ) → x ≡ y → (k : Contains rows x) (l : Contains rows y) → k.0 < l.0 → ⊥
    apart x y same k l lt =
        let below : IsBelow (get_or rows k.0 []) (get_or rows l.0 []) = ascend k.0 l.0 [] lt l.1 in
        below_itself y (subst (λ z. IsBelow z y) (read_at rows x k [] ∙ same) (subst (λ z. IsBelow (get_or rows k.0 []) z) (read_at rows y l []) below))

    by : (m.0 < n.0) ⊎ (n.0 ≤ m.0) → (n.0 < m.0) ⊎ (m.0 ≤ n.0) → m.0 ≡ n.0
    by (inl lt) other = absurd (apart r s e m n lt)
    by (inr le) (inl lt) = absurd (apart s r (sym e) n m lt)
    by (inr le) (inr le') = omega (arith, le, le')

-- the bit of a row is set, or cleared
module _ (rows : List (List ℕ)) (row : List ℕ) (i : ℕ) (lt : i < length rows) (at : get_or rows i [] ≡ row) (old new : List ℕ) where
  abbrev here : Contains rows row
  here = (i, lt, get_or_default rows i row [] lt ∙ at)

  that_row : (r : List ℕ) (m : Contains rows r) → m.0 ≡ i → r ≡ row
  that_row r m e = sym (read_at rows r m []) ∙ ap (λ k. get_or rows k []) e ∙ at

  pub row_set : ((k : ℕ) → Has new k ↔ (Has old k ⊎ (k ≡ i))) → (r : List ℕ) → Lit (rows, new) r ↔ (Lit (rows, old) r ⊎ (r ≡ row))
  row_set bits r = (λ l. elim ((bits l.0.0).0 l.1) [ inl o ↦ inl (l.0, o) | inr e ↦ inr (that_row r l.0 e) ], to)
    where
      to : Lit (rows, old) r ⊎ (r ≡ row) → Lit (rows, new) r
      to (inl l) = (l.0, (bits l.0.0).1 (inl l.1))
      to (inr e) = subst (Lit (rows, new)) (sym e) (here, (bits i).1 (inr refl))

  pub row_cleared : Ascend rows → ((k : ℕ) → Has new k ↔ (Has old k × (k ≡ i → ⊥))) → (r : List ℕ) → Lit (rows, new) r ↔ (Lit (rows, old) r × (r ≡ row → ⊥))
  row_cleared ascend bits r = (λ l. (let b = (bits l.0.0).0 l.1 in ((l.0, b.0), λ e. b.1 (one_place rows ascend r row e l.0 here))), λ p. (p.0.0, (bits p.0.0.0).1 (p.0.1, λ e. p.1 (that_row r p.0.0 e))))

-- a row that has no bit
pub row_lacking : (b : Bits) (row : List ℕ) → (Contains b.0 row → ⊥) → (r : List ℕ) → Lit b r ↔ (Lit b r × (r ≡ row → ⊥))
row_lacking b row lacks r = (λ l. (l, λ e. lacks (subst (Contains b.0) e l.0)), λ p. p.0)

-- one of several more
module _ {X : Type 0} (now new : X → Type 0) (x : X) (rest : List X) (Q : X → Type 0) where
  pub set_more : ((r : X) → new r ↔ (now r ⊎ (r ≡ x))) → ((r : X) → (now r ⊎ Contains (x ∷ rest) r) ↔ Q r) → (r : X) → (new r ⊎ Contains rest r) ↔ Q r
  set_more one before r = (from, λ q. to ((before r).1 q))
    where
      from : new r ⊎ Contains rest r → Q r
      from (inl m) = elim ((one r).0 m) [ inl o ↦ (before r).0 (inl o) | inr e ↦ (before r).0 (inr (subst (λ y. Contains (y ∷ rest) r) e (contains_first r rest))) ]
      from (inr m) = (before r).0 (inr (in_tail x rest r m))

      to : now r ⊎ Contains (x ∷ rest) r → new r ⊎ Contains rest r
      to (inl m) = inl ((one r).1 (inl m))
      to (inr m) = elim (contains_cases r x rest m) [ inl e ↦ inl ((one r).1 (inr e)) | inr l ↦ inr l ]

  pub cleared_more : ((r : X) → new r ↔ (now r × (r ≡ x → ⊥))) → ((r : X) → (now r × (Contains (x ∷ rest) r → ⊥)) ↔ Q r) → (r : X) → (new r × (Contains rest r → ⊥)) ↔ Q r
  cleared_more one before r = (from, to)
    where
      from : new r × (Contains rest r → ⊥) → Q r
      from (m, out) = let o = (one r).0 m in (before r).0 (o.0, λ k. elim (contains_cases r x rest k) [ inl e ↦ o.1 e | inr l ↦ out l ])

      to : Q r → new r × (Contains rest r → ⊥)
      to q =
          let o = (before r).1 q in
          ((one r).1 (o.0, λ e. o.1 (subst (λ y. Contains (y ∷ rest) r) e (contains_first r rest))), λ l. o.1 (in_tail x rest r l))

-- nothing is left
module _ {X : Type 0} (now : X → Type 0) (left : List X) (none : left ≡ []) (Q : X → Type 0) where
  pub all_set : ((r : X) → (now r ⊎ Contains left r) ↔ Q r) → (r : X) → now r ↔ Q r
  all_set before r = (λ m. (before r).0 (inl m), λ q. elim ((before r).1 q) [ inl m ↦ m | inr l ↦ absurd (none_in_empty r (subst (λ xs. Contains xs r) none l)) ])

  pub all_cleared : ((r : X) → (now r × (Contains left r → ⊥)) ↔ Q r) → (r : X) → now r ↔ Q r
  all_cleared before r = (λ m. (before r).0 (m, λ l. none_in_empty r (subst (λ xs. Contains xs r) none l)), λ q. ((before r).1 q).0)

-- the rows below a place whose bits are set
abbrev pub LitBelow : Bits → ℕ → List ℕ → Type 0
LitBelow b n r = (m : Contains b.0 r) × (m.0 < n) × Has b.1 m.0

module _ (b : Bits) (n : ℕ) (row : List ℕ) (lt : n < length b.0) (at : get_or b.0 n [] ≡ row) (lit : List (List ℕ)) (before : (r : List ℕ) → Contains lit r ↔ LitBelow b n r) where
  abbrev found : Contains b.0 row
  found = (n, lt, get_or_default b.0 n row [] lt ∙ at)

  lower : (r : List ℕ) (m : Contains b.0 r) → m.0 < n + 1 → Has b.1 m.0 → (m.0 < n) ⊎ (n ≤ m.0) → LitBelow b n r ⊎ ((r ≡ row) × Has b.1 n)
  lower r m within h (inl less) = inl (m, less, h)
  lower r m within h (inr behind) =
      let same : m.0 ≡ n = omega (arith, within, behind) in
      inr (sym (read_at b.0 r m []) ∙ ap (λ k. get_or b.0 k []) same ∙ at, subst (Has b.1) same h)

  higher : (r : List ℕ) → LitBelow b n r → LitBelow b (n + 1) r
  higher r l = (l.0, omega (arith, l.1), l.2)

  pub lit_more : Has b.1 n → (r : List ℕ) → Contains (lit ++ row ∷ []) r ↔ LitBelow b (n + 1) r
  lit_more h r = (from, to)
    where
      from : Contains (lit ++ row ∷ []) r → LitBelow b (n + 1) r
      from m = elim (Contains-push_cases lit row r m) [ inl l ↦ higher r ((before r).0 l) | inr e ↦ subst (LitBelow b (n + 1)) e (found, omega arith, h) ]

      to : LitBelow b (n + 1) r → Contains (lit ++ row ∷ []) r
      to l = elim (lower r l.0 l.1 l.2 (cases_lt l.0.0 n)) [ inl below ↦ Contains-append_left lit (row ∷ []) r ((before r).1 below) | inr e ↦ subst (λ x. Contains (lit ++ x ∷ []) r) e.0 (Contains-push lit r) ]

  pub dark_more : (Has b.1 n → ⊥) → (r : List ℕ) → Contains lit r ↔ LitBelow b (n + 1) r
  dark_more dark r = (λ m. higher r ((before r).0 m), λ l. elim (lower r l.0 l.1 l.2 (cases_lt l.0.0 n)) [ inl below ↦ (before r).1 below | inr e ↦ absurd (dark e.1) ])

-- a table with more rows
pub knows_more : (rows : List (List ℕ)) (row : List ℕ) (rest : List (List ℕ)) → Contains rows row → Knows rows rest → Knows rows (row ∷ rest)
knows_more rows row rest m known r l = elim (contains_cases r row rest l) [ inl e ↦ subst (Contains rows) (sym e) m | inr later ↦ known r later ]
