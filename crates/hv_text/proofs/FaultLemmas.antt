-- The first fault, found from the front with a count of open parentheses, is the first by the balances.
use Rattle.std.proofs.Common.{◌≡◌, ◌≢◌, ◌==◌, ◌+◌, ◌-◌, ◌<◌, ◌≤◌, ℕ, zero, suc, Bool, true, false, List, [], ◌∷◌, Option, None, Some, Result, Ok, Err, Vec, take, refl, ap, sym, ◌∙◌, subst, arith, cond, ◌⊎◌, inl, inr, ◌++◌, length, if◌then◌else◌}
use Rattle.std.proofs.lemmas.List.Sums.{sum_by-cons}
use Rattle.std.proofs.lemmas.List.{take_all, take-append-le, length-append, length-take, take-take}
use Rattle.std.proofs.lemmas.Bool.{cases_lt}
use Rattle.std.specs.Prelude.{slice_get, count_by}
use Rattle.std.proofs.lemmas.Grind.{common_steps}
use Rattle.hv_text.specs.Words.{Piece, word, left, right, bad, pieces}
use Rattle.hv_text.specs.Trees.{trees}
use Rattle.hv_text.specs.Sexps.{is_left, is_right, open_before, IsUnclosed, fault_of, fault_at, IsSound, IsFirstFault, AreExpressions, IsTextFault}
use Rattle.hv_text.specs.inside.Scan.{open_from, fault_from, IsScanned, IsScanFault}
use Rattle.hv_text.proofs.SexpLemmas.{same_spelling}
use Rattle.hv_text.specs.declared.sexp.Sexp.{Sexp}
use Rattle.hv_text.specs.declared.fault.TextFault.{TextFault}
use Rattle.std.specs.declared.alloc.Global.{Global}
use Rattle.std.specs.Result.{IfOk, IfErr}
use Rattle.hv_text.specs.declared.span.Span.{Span}
use Rattle.hv_text.specs.declared.fault.TextKind.{TextKind}
use Rattle.hv_text.specs.declared.fault.TheConstants.{MOST_OPEN}
use Rattle.hv_text.specs.declared.fault.TextKind.TheVariants as kinds

-- how many are open before the k-th piece, where n were open before the first
abbrev open_behind : ℕ → List Piece → ℕ → ℕ
open_behind n ps k = (n + count_by is_left (take k ps)) - count_by is_right (take k ps)

abbrev fault_behind : ℕ → List Piece → ℕ → Option (TextKind × Span)
fault_behind n ps k = fault_of (slice_get ps k) (open_behind n ps k)

at_first : (n : ℕ) (p : Piece) (ps : List Piece) → fault_behind n (p ∷ ps) zero ≡ fault_of (Some p) n
at_first n p ps = let e : n + 0 - 0 ≡ n = omega arith in ap (fault_of (Some p)) e

past_word : (n k : ℕ) (t : List ℕ) (s : Span) (ps : List Piece) → fault_behind n (word t s ∷ ps) (suc k) ≡ fault_behind n ps k
past_word n k t s ps =
    let e : open_behind n (word t s ∷ ps) (suc k) ≡ open_behind n ps k = omega arith in ap (fault_of (slice_get ps k)) e

past_left : (n k : ℕ) (s : Span) (ps : List Piece) → fault_behind n (left s ∷ ps) (suc k) ≡ fault_behind (n + 1) ps k
past_left n k s ps =
    let l : count_by is_left (take (suc k) (left s ∷ ps)) ≡ 1 + count_by is_left (take k ps) = sum_by-cons (λ x. cond (is_left x) 1 0) (left s) (take k ps) in
    let r : count_by is_right (take (suc k) (left s ∷ ps)) ≡ 0 + count_by is_right (take k ps) = sum_by-cons (λ x. cond (is_right x) 1 0) (left s) (take k ps) in
    let e : open_behind n (left s ∷ ps) (suc k) ≡ open_behind (n + 1) ps k = omega arith in ap (fault_of (slice_get ps k)) e

past_right : (n k : ℕ) (s : Span) (ps : List Piece) → n ≢ 0 → fault_behind n (right s ∷ ps) (suc k) ≡ fault_behind (n - 1) ps k
past_right n k s ps h =
    let l : count_by is_left (take (suc k) (right s ∷ ps)) ≡ 0 + count_by is_left (take k ps) = sum_by-cons (λ x. cond (is_left x) 1 0) (right s) (take k ps) in
    let r : count_by is_right (take (suc k) (right s ∷ ps)) ≡ 1 + count_by is_right (take k ps) = sum_by-cons (λ x. cond (is_right x) 1 0) (right s) (take k ps) in
    let e : open_behind n (right s ∷ ps) (suc k) ≡ open_behind (n - 1) ps k = omega arith in ap (fault_of (slice_get ps k)) e

pub if_none : {X : Type 0} (b : Bool) (x : X) (y : Option X) → (if b then Some x else y) ≡ None → (b ≡ false) × (y ≡ None)
if_none true x y e = cc
if_none false x y e = (refl, e)

pub not_zero : (n : ℕ) → (n == 0) ≡ false → n ≢ 0
not_zero n e z = grind (arith, common_steps)

sound_from : (ps : List Piece) (n : ℕ) → fault_from n ps ≡ None → (k : ℕ) → fault_behind n ps k ≡ None
sound_from [] n e k = refl
sound_from (word t s ∷ ps) n e zero = at_first n (word t s) ps
sound_from (word t s ∷ ps) n e (suc k) = past_word n k t s ps ∙ sound_from ps n e k
sound_from (bad s ∷ ps) n e k = cc
sound_from (left s ∷ ps) n e zero = let d = if_none (n == MOST_OPEN) (kinds.TooDeep, s) (fault_from (n + 1) ps) e in at_first n (left s) ps ∙ (rw (d.0) refl)
sound_from (left s ∷ ps) n e (suc k) =
    let d = if_none (n == MOST_OPEN) (kinds.TooDeep, s) (fault_from (n + 1) ps) e in past_left n k s ps ∙ sound_from ps (n + 1) d.1 k
sound_from (right s ∷ ps) n e zero = let d = if_none (n == 0) (kinds.Unopened, s) (fault_from (n - 1) ps) e in at_first n (right s) ps ∙ (rw (d.0) refl)
sound_from (right s ∷ ps) n e (suc k) =
    let d = if_none (n == 0) (kinds.Unopened, s) (fault_from (n - 1) ps) e in past_right n k s ps (not_zero n d.0) ∙ sound_from ps (n - 1) d.1 k

-- the first place with a fault
abbrev First : (ℕ → Option (TextKind × Span)) → TextKind × Span → Type 0
First f r = (k : ℕ) × (f k ≡ Some r) × ((j : ℕ) → j < k → f j ≡ None)

none_below : (f : ℕ → Option (TextKind × Span)) (k : ℕ) → f zero ≡ None → ((j : ℕ) → j < k → f (suc j) ≡ None) → (j : ℕ) → j < suc k → f j ≡ None
none_below f k a b zero h = a
none_below f k a b (suc j) h = b j (omega arith)

now : (f : ℕ → Option (TextKind × Span)) (r : TextKind × Span) → f zero ≡ Some r → First f r
now f r e = (zero, e, λ j h. absurd (omega arith))

later : (f g : ℕ → Option (TextKind × Span)) (r : TextKind × Span) → f zero ≡ None → ((k : ℕ) → f (suc k) ≡ g k) → First g r → First f r
later f g r a b found =
    (suc found.0, b found.0 ∙ found.1, none_below f found.0 a (λ j h. b j ∙ found.2 j h))

branch : (b : Bool) (f g : ℕ → Option (TextKind × Span)) (x r : TextKind × Span) (y : Option (TextKind × Span))
    → f zero ≡ (if b then Some x else None) → (b ≡ false → (k : ℕ) → f (suc k) ≡ g k) → (y ≡ Some r → First g r)
    → (if b then Some x else y) ≡ Some r → First f r
branch true f g x r y a b c e = now f r (a ∙ e)
branch false f g x r y a b c e = later f g r a (b refl) (c e)

first_from : (ps : List Piece) (n : ℕ) (r : TextKind × Span) → fault_from n ps ≡ Some r → First (fault_behind n ps) r
first_from [] n r e = cc
first_from (word t s ∷ ps) n r e =
    later (fault_behind n (word t s ∷ ps)) (fault_behind n ps) r (at_first n (word t s) ps) (λ k. past_word n k t s ps) (first_from ps n r e)
first_from (bad s ∷ ps) n r e = now (fault_behind n (bad s ∷ ps)) r (at_first n (bad s) ps ∙ e)
first_from (left s ∷ ps) n r e =
    branch (n == MOST_OPEN) (fault_behind n (left s ∷ ps)) (fault_behind (n + 1) ps) (kinds.TooDeep, s) r (fault_from (n + 1) ps)
    (at_first n (left s) ps) (λ h k. past_left n k s ps) (first_from ps (n + 1) r) e
first_from (right s ∷ ps) n r e =
    branch (n == 0) (fault_behind n (right s ∷ ps)) (fault_behind (n - 1) ps) (kinds.Unopened, s) r (fault_from (n - 1) ps)
    (at_first n (right s) ps) (λ h k. past_right n k s ps (not_zero n h)) (first_from ps (n - 1) r) e

same_place : (ps : List Piece) (k : ℕ) → fault_at ps k ≡ fault_behind 0 ps k
same_place ps k =
    let e : open_before ps k ≡ open_behind 0 ps k = omega arith in ap (fault_of (slice_get ps k)) e

pub is_sound : (ps : List Piece) → fault_from 0 ps ≡ None → IsSound ps
is_sound ps e k = same_place ps k ∙ sound_from ps 0 e k

pub is_first_fault : (ps : List Piece) (kind : TextKind) (s : Span) → fault_from 0 ps ≡ Some (kind, s) → IsFirstFault ps kind s
is_first_fault ps kind s e =
    let found = first_from ps 0 (kind, s) e in
    (found.0, same_place ps found.0 ∙ found.1, λ j h. same_place ps j ∙ found.2 j h)

open_word : (n k : ℕ) (t : List ℕ) (s : Span) (ps : List Piece) → open_behind n (word t s ∷ ps) (suc k) ≡ open_behind n ps k
open_word n k t s ps = omega arith

open_left : (n k : ℕ) (s : Span) (ps : List Piece) → open_behind n (left s ∷ ps) (suc k) ≡ open_behind (n + 1) ps k
open_left n k s ps =
    let l = sum_by-cons (λ x. cond (is_left x) 1 0) (left s) (take k ps) in
    let r = sum_by-cons (λ x. cond (is_right x) 1 0) (left s) (take k ps) in omega (arith, l, r)

open_right : (n k : ℕ) (s : Span) (ps : List Piece) → n ≢ 0 → open_behind n (right s ∷ ps) (suc k) ≡ open_behind (n - 1) ps k
open_right n k s ps h =
    let l = sum_by-cons (λ x. cond (is_left x) 1 0) (right s) (take k ps) in
    let r = sum_by-cons (λ x. cond (is_right x) 1 0) (right s) (take k ps) in omega (arith, l, r)

-- StaysOpen over any balances and pieces
abbrev Stays : (ℕ → ℕ) → (ℕ → Option Piece) → ℕ → ℕ → Span → Type 0
Stays d g len k s = (g k ≡ Some (left s)) × ((j : ℕ) → k < j → j ≤ len → d k < d j)

-- the last one that stays open is s
abbrev LastOpen : (ℕ → ℕ) → (ℕ → Option Piece) → ℕ → Span → Type 0
LastOpen d g len s = (k : ℕ) × Stays d g len k s × ((m : ℕ) (t : Span) → k < m → Stays d g len m t → ⊥)

-- none stays open, and the balance falls to i and no lower
abbrev FallsTo : (ℕ → ℕ) → (ℕ → Option Piece) → ℕ → ℕ → Type 0
FallsTo d g len i = ((j : ℕ) → j ≤ len → i ≤ d j) × ((j : ℕ) × (j ≤ len) × (d j ≡ i)) × ((k : ℕ) (s : Span) → Stays d g len k s → ⊥)

module _ (d e : ℕ → ℕ) (g h : ℕ → Option Piece) (len : ℕ) (same : (k : ℕ) → d (suc k) ≡ e k) (again : (k : ℕ) → g (suc k) ≡ h k) where
  stays_after : (k : ℕ) (s : Span) → Stays e h len k s → Stays d g (suc len) (suc k) s
  stays_after k s w = (again k ∙ w.0, below)
    where
      below : (j : ℕ) → suc k < j → j ≤ suc len → d (suc k) < d j
      below zero a b = absurd (omega arith)
      below (suc j) a b = rw (same k, same j) (w.1 j (omega arith) (omega arith))

  stays_before : (k : ℕ) (s : Span) → Stays d g (suc len) (suc k) s → Stays e h len k s
  stays_before k s w = (sym (again k) ∙ w.0, λ j a b. rw (← same k, ← same j) (w.1 (suc j) (omega arith) (omega arith)))

  last_after : (s : Span) → LastOpen e h len s → LastOpen d g (suc len) s
  last_after s w = (suc w.0, stays_after w.0 s w.1, no_later)
    where
      no_later : (m : ℕ) (t : Span) → suc w.0 < m → Stays d g (suc len) m t → ⊥
      no_later zero t a b = absurd (omega arith)
      no_later (suc m) t a b = w.2 m t (omega arith) (stays_before m t b)

  falls_after : (i : ℕ) → i ≤ d zero → ((s : Span) → Stays d g (suc len) zero s → ⊥) → FallsTo e h len i → FallsTo d g (suc len) i
  falls_after i a first w = (low, (suc w.1.0, omega (arith, w.1.1), same w.1.0 ∙ w.1.2), none)
    where
      low : (j : ℕ) → j ≤ suc len → i ≤ d j
      low zero b = a
      low (suc j) b = rw (same j) (w.0 j (omega arith))

      none : (k : ℕ) (s : Span) → Stays d g (suc len) k s → ⊥
      none zero s b = first s b
      none (suc k) s b = w.2 k s (stays_before k s b)

-- a parenthesis was left open behind here, or those that were open before have been closed down to i of them
abbrev Inner : ℕ → List Span → List Piece → Type 0
Inner n st ps = (s : Span) × LastOpen (open_behind n ps) (slice_get ps) (length ps) s × ((more : List Span) × (open_from st ps ≡ more ++ s ∷ []))

abbrev Outer : ℕ → List Span → List Piece → Type 0
Outer n st ps = (i : ℕ) × (i ≤ n) × FallsTo (open_behind n ps) (slice_get ps) (length ps) i × (open_from st ps ≡ take i st)

here : (n : ℕ) (ps : List Piece) → open_behind n ps zero ≡ n
here n ps = omega arith

at_end : (n j : ℕ) → j ≤ 0 → n ≤ open_behind n [] j
at_end n zero h = omega arith
at_end n (suc j) h = absurd (omega arith)

at_most : (i n : ℕ) → i ≤ n + 1 → (i ≤ n) ⊎ (i ≡ n + 1)
at_most i n h = elim (cases_lt i (n + 1)) [ inl a ↦ inl (omega arith) | inr b ↦ inr (omega arith) ]

module _ (n : ℕ) (st : List Span) (t : List ℕ) (s : Span) (ps : List Piece) where
  behind_word : Inner n st ps ⊎ Outer n st ps → Inner n st (word t s ∷ ps) ⊎ Outer n st (word t s ∷ ps)
  behind_word (inl x) =
      inl (x.0, last_after (open_behind n (word t s ∷ ps)) (open_behind n ps) (slice_get (word t s ∷ ps)) (slice_get ps) (length ps) (λ k. open_word n k t s ps) (λ k. refl) x.0 x.1, x.2)
  behind_word (inr y) =
      inr (
        y.0,
        y.1,
        falls_after (open_behind n (word t s ∷ ps)) (open_behind n ps) (slice_get (word t s ∷ ps)) (slice_get ps) (length ps) (λ k. open_word n k t s ps) (λ k. refl)
            y.0 (omega (arith, y.1, here n (word t s ∷ ps))) (λ q w. cc w.0) y.2,
        y.3,
      )

module _ (n : ℕ) (st : List Span) (s : Span) (ps : List Piece) where
  behind_right : n ≢ 0 → length st ≡ n → Inner (n - 1) (take (length st - 1) st) ps ⊎ Outer (n - 1) (take (length st - 1) st) ps → Inner n st (right s ∷ ps) ⊎ Outer n st (right s ∷ ps)
  behind_right h l (inl x) =
      inl (x.0, last_after (open_behind n (right s ∷ ps)) (open_behind (n - 1) ps) (slice_get (right s ∷ ps)) (slice_get ps) (length ps) (λ k. open_right n k s ps h) (λ k. refl) x.0 x.1, x.2)
  behind_right h l (inr y) =
      let c : y.0 ≤ length st - 1 = omega (arith, y.1, l) in
      inr (
        y.0,
        omega (arith, y.1),
        falls_after (open_behind n (right s ∷ ps)) (open_behind (n - 1) ps) (slice_get (right s ∷ ps)) (slice_get ps) (length ps) (λ k. open_right n k s ps h) (λ k. refl)
            y.0 (omega (arith, y.1, here n (right s ∷ ps))) (λ q w. cc w.0) y.2,
        y.3 ∙ take-take y.0 (length st - 1) st c,
      )

  -- the parenthesis itself stays open
  stays_itself : (y : Outer (n + 1) (st ++ s ∷ []) ps) → length st ≡ n → y.0 ≡ n + 1 → Inner n st (left s ∷ ps)
  stays_itself y l a = (s, (zero, (refl, below), no_later), (st, y.3 ∙ take_all y.0 (st ++ s ∷ []) (omega (arith, length-append st (s ∷ []), l, a))))
    where
      below : (j : ℕ) → zero < j → j ≤ suc (length ps) → open_behind n (left s ∷ ps) zero < open_behind n (left s ∷ ps) j
      below zero b c = absurd (omega arith)
      below (suc j) b c = omega (arith, here n (left s ∷ ps), open_left n j s ps, y.2.0 j (omega arith), a)

      no_later : (m : ℕ) (t : Span) → zero < m → Stays (open_behind n (left s ∷ ps)) (slice_get (left s ∷ ps)) (suc (length ps)) m t → ⊥
      no_later zero t b c = absurd (omega arith)
      no_later (suc m) t b c =
          y.2.2 m t (stays_before (open_behind n (left s ∷ ps)) (open_behind (n + 1) ps) (slice_get (left s ∷ ps)) (slice_get ps) (length ps) (λ k. open_left n k s ps) (λ k. refl) m t c)

  closed_again : (y : Outer (n + 1) (st ++ s ∷ []) ps) → length st ≡ n → y.0 ≤ n → Outer n st (left s ∷ ps)
  closed_again y l a =
      let low : open_behind (n + 1) ps y.2.1.0 ≡ y.0 = y.2.1.2 in (
        y.0,
        a,
        falls_after (open_behind n (left s ∷ ps)) (open_behind (n + 1) ps) (slice_get (left s ∷ ps)) (slice_get ps) (length ps) (λ k. open_left n k s ps) (λ k. refl)
            y.0 (omega (arith, a, here n (left s ∷ ps)))
            (λ q w. absurd (omega (arith, here n (left s ∷ ps), open_left n y.2.1.0 s ps, low, a, w.1 (suc y.2.1.0) (omega arith) (omega (arith, y.2.1.1)))))
            y.2,
        y.3 ∙ take-append-le y.0 st (s ∷ []) (omega (arith, l, a)),
      )

  behind_left : length st ≡ n → Inner (n + 1) (st ++ s ∷ []) ps ⊎ Outer (n + 1) (st ++ s ∷ []) ps → Inner n st (left s ∷ ps) ⊎ Outer n st (left s ∷ ps)
  behind_left l (inl x) =
      inl (x.0, last_after (open_behind n (left s ∷ ps)) (open_behind (n + 1) ps) (slice_get (left s ∷ ps)) (slice_get ps) (length ps) (λ k. open_left n k s ps) (λ k. refl) x.0 x.1, x.2)
  behind_left l (inr y) = elim (at_most y.0 n y.1) [ inl a ↦ inr (closed_again y l a) | inr b ↦ inl (stays_itself y l b) ]

walk : (ps : List Piece) (st : List Span) (n : ℕ) → length st ≡ n → fault_from n ps ≡ None → Inner n st ps ⊎ Outer n st ps
walk [] st n l e = inr (n, omega arith, (λ j h. at_end n j h, (zero, omega arith, here n []), λ k s w. cc w.0), sym (take_all n st (omega arith)))
walk (word t s ∷ ps) st n l e = behind_word n st t s ps (walk ps st n l e)
walk (bad s ∷ ps) st n l e = cc
walk (left s ∷ ps) st n l e =
    let d = if_none (n == MOST_OPEN) (kinds.TooDeep, s) (fault_from (n + 1) ps) e in
    behind_left n st s ps l (walk ps (st ++ s ∷ []) (n + 1) (omega (arith, length-append st (s ∷ []))) d.1)
walk (right s ∷ ps) st n l e =
    let d = if_none (n == 0) (kinds.Unopened, s) (fault_from (n - 1) ps) e in
    behind_right n st s ps (not_zero n d.0) l (walk ps (take (length st - 1) st) (n - 1) (omega (arith, length-take (length st - 1) st, l)) d.1)

count_open : (ps : List Piece) (st : List Span) (n : ℕ) → length st ≡ n → fault_from n ps ≡ None → length (open_from st ps) ≡ open_behind n ps (length ps)
count_open [] st n l e = omega (arith, here n [])
count_open (word t s ∷ ps) st n l e = count_open ps st n l e ∙ sym (open_word n (length ps) t s ps)
count_open (bad s ∷ ps) st n l e = cc
count_open (left s ∷ ps) st n l e =
    let d = if_none (n == MOST_OPEN) (kinds.TooDeep, s) (fault_from (n + 1) ps) e in
    count_open ps (st ++ s ∷ []) (n + 1) (omega (arith, length-append st (s ∷ []))) d.1 ∙ sym (open_left n (length ps) s ps)
count_open (right s ∷ ps) st n l e =
    let d = if_none (n == 0) (kinds.Unopened, s) (fault_from (n - 1) ps) e in
    count_open ps (take (length st - 1) st) (n - 1) (omega (arith, length-take (length st - 1) st, l)) d.1 ∙ sym (open_right n (length ps) s ps (not_zero n d.0))

same_open : (ps : List Piece) (k : ℕ) → open_before ps k ≡ open_behind 0 ps k
same_open ps k = omega arith

pub none_open : (ps : List Piece) → fault_from 0 ps ≡ None → open_from [] ps ≡ [] → open_before ps (length ps) ≡ 0
none_open ps e c = same_open ps (length ps) ∙ sym (count_open ps [] 0 refl e) ∙ ap length c

some_left : (more : List Span) (s : Span) (i : ℕ) → more ++ s ∷ [] ≡ take i [] → ⊥
some_left more s i e = absurd (omega (arith, length-append more (s ∷ []), ap length e, length-take {A = Span} i []))

last_one : (xs ys : List Span) (x y : Span) → xs ++ x ∷ [] ≡ ys ++ y ∷ [] → x ≡ y
last_one [] [] x y e = cc
last_one [] (b ∷ ys) x y e = absurd (omega (arith, ap length e, length-append ys (y ∷ [])))
last_one (a ∷ xs) [] x y e = absurd (omega (arith, ap length e, length-append xs (x ∷ [])))
last_one (a ∷ xs) (b ∷ ys) x y e = last_one xs ys x y (cc)

unclosed_at : (ps : List Piece) (s : Span) → LastOpen (open_behind 0 ps) (slice_get ps) (length ps) s → IsUnclosed ps s
unclosed_at ps s w = (
  w.0,
  (w.1.0, λ j a b. omega (arith, same_open ps w.0, same_open ps j, w.1.1 j a b)),
  λ m t a v. w.2 m t a (v.0, λ j p q. omega (arith, same_open ps m, same_open ps j, v.1 j p q)),
)

is_unclosed : (ps : List Piece) (more : List Span) (s : Span) → fault_from 0 ps ≡ None → open_from [] ps ≡ more ++ s ∷ [] → IsUnclosed ps s
is_unclosed ps more s e c = elim (walk ps [] 0 refl e) [
  | inl i ↦ unclosed_at ps s (subst (LastOpen (open_behind 0 ps) (slice_get ps) (length ps)) (last_one i.2.0 more i.0 s (sym i.2.1 ∙ c)) i.1)
  | inr o ↦ absurd (some_left more s o.0 (sym c ∙ o.3))
]

pub are_expressions : (text : List ℕ) (es : List Sexp) → IsScanned text es → AreExpressions text (trees es)
are_expressions text es h = record { size = h.size; sound = is_sound (pieces text) h.sound; closed = none_open (pieces text) h.sound h.closed; spelled = same_spelling es ∙ h.spelled }

pub is_text_fault : (text : List ℕ) (kind : TextKind) (s : Span) → IsScanFault text kind s → IsTextFault text kind s
is_text_fault text kinds.TooLong s h = h
is_text_fault text kinds.Memory s h = h
is_text_fault text kinds.BadByte s h = (h.0, is_first_fault (pieces text) kinds.BadByte s h.1)
is_text_fault text kinds.Unopened s h = (h.0, is_first_fault (pieces text) kinds.Unopened s h.1)
is_text_fault text kinds.TooDeep s h = (h.0, is_first_fault (pieces text) kinds.TooDeep s h.1)
is_text_fault text kinds.Unclosed s h = (h.0, is_sound (pieces text) h.1, is_unclosed (pieces text) h.2.0 s h.1 h.2.1)

-- both at once, for what the loop returned
pub answered : (text : List ℕ) (r : Result (Vec Sexp Global) TextFault) → IfOk r (λ es. IsScanned text es.items)
    → IfErr r (λ f. IsScanFault text f.kind f.span) → IfOk r (λ es. AreExpressions text (trees es.items)) × IfErr r (λ f. IsTextFault text f.kind f.span)
answered text (Ok es) a b = (are_expressions text es.items a, b)
answered text (Err f) a b = (a, is_text_fault text f.kind f.span b)
